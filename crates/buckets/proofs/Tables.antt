-- A table when a slot is taken, given another number, or freed.
use Rattle.std.proofs.Common.{◌≡◌, ℕ, ◌+◌, ◌-◌, ◌^◌, ◌<◌, ◌≤◌, List, length, get_or, set, Option, sym, refl, ap, ◌∙◌, subst, arith, length-set}
use Rattle.algebra.specs.Poly.{at, put}
use Rattle.algebra.specs.Rows.{Bounded}
use Rattle.algebra.specs.Gathered.{Slots, set_at, number_at, gather, Absent}
use Rattle.algebra.proofs.Lengths.{some, some_0, some_1, length_put}
use Rattle.algebra.proofs.Gathers.{rising_gather, length_gather, at_absent, at_stands, Vacant, vacant_free, vacant_found, apart_set, gather_set}
use Rattle.sets.specs.Numbers.{number}
use Rattle.buckets.specs.declared.term.Term.{Term}
use Rattle.buckets.specs.Chains.{Taken, Place, link, relinked_firsts, relinked_nexts}
use Rattle.buckets.proofs.Leading.{Links, links_of}
use Rattle.buckets.specs.Records.{home, contents, firsts, nexts, spares, Keeps, Sound, Found, TakenBy, Released, Relinked}
use Rattle.buckets.proofs.Fields.{on_set, next_at, length_contents, length_firsts, length_nexts, length_spares, set_at_slot, number_at_slot, contents_set, firsts_kept, nexts_kept, spares_kept}
use Rattle.buckets.proofs.Linking.{taken_firsts, taken_nexts, freed_firsts, freed_nexts, renumbered_firsts, renumbered_nexts}

-- numbers stay bounded
bounded_set : (ts : Slots) (i : ℕ) (y : ℕ × ℕ) → Vacant ts y.0 i → Bounded ts → y.1 < 2 ^ 32 → Bounded (set ts i y)
bounded_set ts i y v B h j l = grind (arith, on_set, B j)

-- a slot that is not free has its set
pub found_at : {ts : Slots} {i : ℕ} → Taken ts i → Found ts (set_at ts i) i
found_at t = record { within = t.within; stands = t.stands; is = refl }

-- what a write of v at S does to a table
pub record Wrote (xs zs : List Term) (S v count : ℕ) : Type 0 where
  pub sound : Sound zs count
  pub long : length zs ≡ length xs
  pub means : gather (contents zs) ≡ put (gather (contents xs)) S v

-- ---- any table by its lists, of records or not
module _ {n : ℕ} {ts : Slots} {fs ns ss : List ℕ} {count : ℕ} (s : Keeps n ts fs ns ss count) where
  -- ---- the slot of a set
  module _ {S i : ℕ} (F : Found ts S i) where
    vacant_here : Vacant ts S i
    vacant_here = vacant_found ts S i s.apart F.within F.stands F.is

    pub found_reads : at (gather ts) S ≡ number_at ts i
    found_reads = at_stands ts S i s.apart F.within F.stands F.is

    stood : some (at (gather ts) S) ≡ 1
    stood = let g = F.stands in some_1 (at (gather ts) S) (omega (arith, found_reads))

    pub found_counts : 0 < count
    found_counts =
        let c = s.counted in
        omega (arith, length_put (gather ts) S 0 (rising_gather ts), stood, some_0 0 refl)

    -- it gets another number, not 0
    module _ (v : ℕ) (some-v : 0 < v) (small : v < 2 ^ 32) where
      pub replace_means : gather (set ts i (S, v)) ≡ put (gather ts) S v
      replace_means = gather_set ts i (S, v) vacant_here s.apart

      pub replace_lists : Keeps n (set ts i (S, v)) fs ns ss count
      replace_lists = record {
        few = s.few;
        counted =
            let g = ap length replace_means in
            let c = s.counted in
            omega (arith, length_put (gather ts) S v (rising_gather ts), stood, some_1 v some-v);
        apart = apart_set ts i (S, v) vacant_here s.apart;
        bounded = bounded_set ts i (S, v) vacant_here s.bounded small;
        first = renumbered_firsts (home n) ts i (S, v) F.within F.stands (sym F.is) some-v fs s.first;
        next = renumbered_nexts (home n) ts i (S, v) F.within F.stands (sym F.is) some-v ns s.next;
        spare = λ k l. grind (arith, on_set, s.spare k);
        distinct = s.distinct;
      }

  -- ---- each list is as long as there are slots
  module _ (long : length ts ≡ n) (first_long : length fs ≡ n) (next_long : length ns ≡ n) where
    links : Links (home n) ts fs ns
    links = links_of s long first_long next_long

    within : (b : ℕ) → b < n → b < length ts
    within b l = omega (arith, long)

    pub count_upto : count ≤ n
    count_upto = let c = s.counted in omega (arith, length_gather ts, long)

    -- a free slot is taken
    module _ (S v : ℕ) (absent : Absent ts S) (some-v : 0 < v) (small : v < 2 ^ 32) (free : count ≡ n → ⊥)
        {f b : ℕ} (last : f ≡ get_or ss (n - count - 1) 0) (homed : b ≡ home n S) (bl : b < n) {p : Option ℕ} (P : Place (home n) ts fs ns b f p) where
      is_spare : (f < length ts) × (number_at ts f ≡ 0)
      is_spare = subst (λ k. (k < length ts) × (number_at ts k ≡ 0)) (sym last) (s.spare (n - count - 1) (omega (arith, count_upto)))

      vacant : Vacant ts S f
      vacant = vacant_free ts S f absent is_spare.0 is_spare.1

      pub insert_means : gather (set ts f (S, v)) ≡ put (gather ts) S v
      insert_means = gather_set ts f (S, v) vacant s.apart

      pub insert_lists : Keeps n (set ts f (S, v)) (relinked_firsts fs b p f) (relinked_nexts (set ns f (link fs ns b p)) p f) ss (count + 1)
      insert_lists = record {
        few = s.few;
        counted =
            let g = ap length insert_means in
            let c = s.counted in
            omega (arith, length_put (gather ts) S v (rising_gather ts), some_0 (at (gather ts) S) (at_absent ts S absent), some_1 v some-v);
        apart = apart_set ts f (S, v) vacant s.apart;
        bounded = bounded_set ts f (S, v) vacant s.bounded small;
        first = taken_firsts links b (within b bl) f (S, v) is_spare.0 is_spare.1 some-v (sym homed) p P;
        next = taken_nexts links b (within b bl) f (S, v) is_spare.0 is_spare.1 some-v (sym homed) p P;
        spare = λ k l. grind (arith, on_set, s.spare k, s.distinct k (n - count - 1));
        distinct = λ k l a m. s.distinct k l a (omega arith);
      }

    -- the slot of a set is freed
    module _ {S i : ℕ} (F : Found ts S i) {b : ℕ} (homed : b ≡ home n S) (bl : b < n) (spare_long : length ss ≡ n) {p : Option ℕ} (P : Place (home n) ts fs ns b i p) where
      here : home n (set_at ts i) ≡ b
      here = ap (home n) F.is ∙ sym homed

      pub remove_means : gather (set ts i (S, 0)) ≡ put (gather ts) S 0
      remove_means = gather_set ts i (S, 0) (vacant_here F) s.apart

      pub remove_lists : Keeps n (set ts i (S, 0)) (relinked_firsts fs b p (get_or ns i 0)) (relinked_nexts ns p (get_or ns i 0)) (set ss (n - count) i) (count - 1)
      remove_lists =
          let g = ap length remove_means in
          let c = s.counted in
          let z = found_counts F in
          record {
            few = s.few;
            counted = omega (arith, length_put (gather ts) S 0 (rising_gather ts), stood F, some_0 0 refl);
            apart = apart_set ts i (S, 0) (vacant_here F) s.apart;
            bounded = bounded_set ts i (S, 0) (vacant_here F) s.bounded (omega arith);
            first = freed_firsts links b (within b bl) i (S, 0) F.within F.stands here refl p P;
            next = freed_nexts links b (within b bl) i (S, 0) F.within F.stands here refl p P;
            spare = λ k l. grind (arith, on_set, s.spare k);
            distinct = λ k l a m. grind (arith, on_set, s.spare k, s.distinct k l);
          }

-- ---- a table over records
module _ (xs : List Term) {count : ℕ} (s : Sound xs count) where
  abbrev n : ℕ
  n = length xs

  abbrev ts : Slots
  ts = contents xs

  abbrev fs : List ℕ
  fs = firsts xs

  abbrev ns : List ℕ
  ns = nexts xs

  abbrev ss : List ℕ
  ss = spares xs

  pub count_le : count ≤ n
  count_le = count_upto s (length_contents xs) (length_firsts xs) (length_nexts xs)

  -- ---- a free slot is taken
  module _ (S v : ℕ) (absent : Absent ts S) (some-v : 0 < v) (small : v < 2 ^ 32) (free : count ≡ n → ⊥)
      {f b : ℕ} (last : f ≡ get_or ss (n - count - 1) 0) (homed : b ≡ home n S) (bl : b < n) {p : Option ℕ} (P : Place (home n) ts fs ns b f p) where
    pub inserted : {ys zs : List Term} {x : ℕ} → x ≡ link fs ns b p → TakenBy xs ys f S v x → Relinked ys zs b p f → Wrote xs zs S v (count + 1)
    inserted {ys} at T R =
        let next : nexts ys ≡ set ns f (link fs ns b p) = T.nexts ∙ ap (set ns f) at in
        let L = insert_lists s (length_contents xs) (length_firsts xs) (length_nexts xs) S v absent some-v small free last homed bl P in
        record {
          sound = rw (R.long ∙ T.long, R.contents ∙ T.contents, R.firsts ∙ ap (λ fs. relinked_firsts fs b p f) T.firsts, R.nexts ∙ ap (λ ns. relinked_nexts ns p f) next, R.spares ∙ T.spares) L;
          long = R.long ∙ T.long;
          means = ap gather (R.contents ∙ T.contents) ∙ insert_means s (length_contents xs) (length_firsts xs) (length_nexts xs) S v absent some-v small free last homed bl P;
        }

  -- ---- the slot of a set
  module _ {S i : ℕ} (F : Found ts S i) where
    slot_within : i < n
    slot_within = let w = F.within in omega (arith, length_contents xs)

    set_is : (d : Term) → number (get_or xs i d).set ≡ S
    set_is d = sym (set_at_slot xs i d slot_within) ∙ F.is

    pub reads : (d : Term) → at (gather ts) S ≡ (get_or xs i d).code
    reads d = found_reads s F ∙ number_at_slot xs i d slot_within

    -- it gets another number, not 0
    pub replaced : (v : ℕ) → 0 < v → v < 2 ^ 32 → (d : Term) → Wrote xs (set xs i (record (get_or xs i d) { code = v })) S v count
    replaced v some-v small d =
        let y : Term = record (get_or xs i d) { code = v } in
        let e : contents (set xs i y) ≡ set ts i (S, v) = contents_set xs i y ∙ ap (λ T. set ts i (T, v)) (set_is d) in
        record {
          sound = rw (length-set xs i y, e, firsts_kept xs i y d slot_within refl, nexts_kept xs i y d slot_within refl, spares_kept xs i y d slot_within refl) (replace_lists s F v some-v small);
          long = length-set xs i y;
          means = ap gather e ∙ replace_means s F v some-v small;
        }

    -- it is freed
    module _ (d : Term) {b : ℕ} (homed : b ≡ home n (number (get_or xs i d).set)) (bl : b < n) {p : Option ℕ} (P : Place (home n) ts fs ns b i p) where
      homed_there : b ≡ home n S
      homed_there = homed ∙ ap (home n) (set_is d)

      pub removed : {ys zs : List Term} → Relinked xs ys b p (get_or xs i d).next → Released ys zs i (n - count) → Wrote xs zs S 0 (count - 1)
      removed {ys} {zs} R E =
          let at = sym (next_at xs i d slot_within) in
          let e : contents zs ≡ set ts i (S, 0) = E.contents ∙ ap (λ ts. set ts i (set_at ts i, 0)) R.contents ∙ ap (λ T. set ts i (T, 0)) F.is in
          let L = remove_lists s (length_contents xs) (length_firsts xs) (length_nexts xs) F homed_there bl (length_spares xs) P in
          record {
            sound = rw (E.long ∙ R.long, e, E.firsts ∙ R.firsts ∙ ap (relinked_firsts fs b p) at, E.nexts ∙ R.nexts ∙ ap (relinked_nexts ns p) at, E.spares ∙ ap (λ ss. set ss (n - count) i) R.spares) L;
            long = E.long ∙ R.long;
            means = ap gather e ∙ remove_means s (length_contents xs) (length_firsts xs) (length_nexts xs) F homed_there bl (length_spares xs) P;
          }
