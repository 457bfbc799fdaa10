-- What each way of a write leaves.
use Rattle.std.proofs.Common.{◌≡◌, ℕ, suc, ◌+◌, ◌-◌, ◌^◌, ◌<◌, ◌≤◌, true, false, List, ◌++◌, map, length, take, drop, get_or, set, sym, refl, ap, ◌∙◌, arith}
use lib.Seq.{take-set-lt}
use Rattle.std.specs.List.{insert, remove, copy_within}
use Rattle.std.proofs.lemmas.List.{map-set, set_split, take-append-drop}
use Rattle.std.proofs.lemmas.List.Edits.{length-insert}
use Rattle.std.proofs.lemmas.Bool.{le-leb, lt-leb}
use Rattle.algebra.specs.Poly.{Poly, put, standing}
use Rattle.algebra.specs.Rows.{Sorted, Nonzero, Bounded, StandsAt, FallsAt}
use Rattle.algebra.proofs.Polys.{rising_put}
use Rattle.algebra.proofs.Rows.{rising_from, sorted_from, nonzero_from, bounded_put, put_stands, put_falls, front_some, length_standing}
use Rattle.store.specs.declared.slot.Slot.{Slot}
use Rattle.store.specs.declared.table.Table.{Table}
use Rattle.store.specs.Answers.{Wrote}
use Rattle.store.specs.Stores.{at_most, fits}
use Rattle.store.specs.Terms.{term, terms}
use Rattle.store.specs.Tables.{contents, room}
use Rattle.store.proofs.Places.{length_contents, term_at}
use Rattle.store.proofs.Shifts.{map_inserted, map_removed, closed, opened}

-- a write of v at S to p, by what is done at the place that a search gives
module _ (p : Poly) (S i : ℕ) where
  pub removed : Sorted p → StandsAt p S i → remove p i ≡ put p S 0
  removed up h = sym (put_stands p S 0 i up h)

  pub replaced : (v : ℕ) → Sorted p → StandsAt p S i → (v ≡ 0 → ⊥) → set p i (S, v) ≡ put p S v
  replaced v up h z =
      set_split p i (S, v) h.within ∙ ap (λ q. take i p ++ q) (sym (front_some S v (drop (suc i) p) z)) ∙ sym (put_stands p S v i up h)

  pub inserted : (v : ℕ) → FallsAt p S i → (v ≡ 0 → ⊥) → insert p i (S, v) ≡ put p S v
  inserted v h z = sym (put_falls p S v i h ∙ ap (λ q. take i p ++ q) (front_some S v (drop i p) z))

  pub nothing : FallsAt p S i → p ≡ put p S 0
  nothing h = sym (put_falls p S 0 i h ∙ take-append-drop i p)

-- what the ghost fields of a table say of its contents
pub record Formed (p : Poly) : Type 0 where
  pub sorted : Sorted p
  pub nonzero : Nonzero p
  pub bounded : Bounded p

module _ {K : Type 0} {key : _} {o : _} {e : _} {p : _} (t : Table K key o e p) where
  pub slot_removed : (i n : ℕ) (ys : List (Slot K)) → i < t.len → ys ≡ copy_within t.slots.now (i + 1) n i → n ≡ t.len
      → terms key.number ys (t.len - 1) ≡ remove (contents t) i
  slot_removed i n ys lt is all =
      ap (map (term key.number)) (ap (take (t.len - 1)) (is ∙ ap (λ n. copy_within t.slots.now (i + 1) n i) all) ∙ closed t.slots.now t.len i lt t.within) ∙
      map_removed (term key.number) (take t.len t.slots.now) i

  pub slot_inserted : (i : ℕ) (x : Slot K) (ys : List (Slot K)) → i ≤ length (contents t) → t.len < room t → ys ≡ copy_within t.slots.now i t.len (i + 1)
      → terms key.number (set ys i x) (t.len + 1) ≡ insert (contents t) i (term key.number x)
  slot_inserted i x ys le free is =
      ap (map (term key.number)) (ap (λ zs. take (t.len + 1) (set zs i x)) is ∙ opened t.slots.now t.len i x (omega (arith, length_contents t)) free) ∙
      map_inserted (term key.number) (take t.len t.slots.now) i x

  -- the number of the slot at i is replaced
  pub slot_replaced : (S v i : ℕ) (d : Slot K) → StandsAt (contents t) S i → (v ≡ 0 → ⊥)
      → terms key.number (set t.slots.now i (record { key = (get_or t.slots.now i d).key; number = v })) t.len ≡ put (contents t) S v
  slot_replaced S v i d h z =
      let x : Slot K = record { key = (get_or t.slots.now i d).key; number = v } in
      let same = sym (ap (λ (y : ℕ × ℕ). y.0) (term_at t i d h.within)) ∙ h.is in
      ap (map (term key.number)) (take-set-lt t.len t.slots.now i x (omega (arith, h.within, length_contents t))) ∙
      map-set (term key.number) (take t.len t.slots.now) i x ∙
      ap (λ s. set (contents t) i (s, v)) same ∙
      replaced (contents t) S i v t.sorted h z

  pub formed_put : (q : Poly) (S v : ℕ) → v < 2 ^ 32 → q ≡ put (contents t) S v → Formed q
  formed_put q S v lt is =
      let rising = rising_put (contents t) S v (rising_from (contents t) t.sorted t.nonzero) in
      let p' = put (contents t) S v in
      rw is (record { sorted = sorted_from p' rising; nonzero = nonzero_from p' rising; bounded = bounded_put (contents t) S v lt t.bounded })

  -- where w was put in the place of v
  pub granted : (q : Poly) (S w v : ℕ) → length q ≤ room t → q ≡ put (contents t) S w → w ≡ v → Wrote (fits (at_most (room t))) (contents t) S v q true
  granted q S w v within is same =
      let after = is ∙ ap (put (contents t) S) same in
      record {
        answer = sym (le-leb (length (standing (put (contents t) S v))) (room t) (omega (arith, length_standing (put (contents t) S v), ap length after)));
        after = after;
      }

  pub refused : (S v i : ℕ) → t.len ≡ room t → FallsAt (contents t) S i → (v ≡ 0 → ⊥) → Wrote (fits (at_most (room t))) (contents t) S v (contents t) false
  refused S v i full h z = record {
    answer =
        let longer = ap length (sym (inserted (contents t) S i v h z)) ∙ length-insert (contents t) i (S, v) h.within ∙ ap (λ n. n + 1) (length_contents t) in
        sym (lt-leb (length (standing (put (contents t) S v))) (room t) (omega (arith, length_standing (put (contents t) S v))));
    after = refl;
  }
