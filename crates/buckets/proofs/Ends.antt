-- The lowest and the highest of the slots that are not free, as the item of a run over them whose key none is beyond.
use Rattle.std.proofs.Common.{◌≡◌, ℕ, zero, suc, ◌<◌, Bool, true, false, cond, not, ◌==◌, List, [], ◌∷◌, map, filter, length, get_or, Some, None, Option, MatchOption, sym, refl, ap, ◌∙◌, subst, inl, inr, arith, Bor, Iter, Ordering}
use Rattle.std.proofs.lemmas.List.{length-map}
use Rattle.std.proofs.lemmas.Bool.{cases_Bool}
use Rattle.std.proofs.iter.runs.Made.{each_of}
use Rattle.std.proofs.iter.runs.Lists.{Everywhere}
use Rattle.std.specs.Fn.{Mut, CalledAt}
use Rattle.std.specs.Iterator.{ActsAsAt}
use Rattle.std.specs.Iterator.Runs.{Run, SomeRun, EachRunFrom, IsFilterRun, CallKeepsClosure, NoKeyBeyond}
use Rattle.std.specs.List.{Contains}
use Rattle.std.specs.Slice.Iter.{iter_rest, iter_steps}
use Rattle.std.specs.Iterator.Adapters.{filter_steps, IterYieldsInOrder}
use Rattle.std.specs.declared.iter.Filter.{Filter}
use Rattle.std.specs.Ordering.{nat_cmp, is_lt}
use Rattle.algebra.specs.Poly.{Poly, lowest, highest}
use Rattle.algebra.specs.Gathered.{Slots, set_at, number_at, gather, Apart}
use Rattle.algebra.proofs.Gathers.{gather_none, lowest_slot, highest_slot}
use Rattle.sets.specs.Numbers.{number}
use Rattle.sets.specs.declared.RankSet.{RankSet}
use Rattle.store.specs.Answers.{Handed}
use Rattle.buckets.specs.declared.term.Term.{Term}
use Rattle.buckets.specs.Records.{contents}
use Rattle.buckets.proofs.Fields.{length_contents, set_at_slot, number_at_slot}

abbrev stands : Term → Bool
stands x = not (x.code == 0)

stands_some : (x : Term) → 0 < x.code → stands x ≡ true
stands_some x s = grind arith

-- what holds of each item that passes holds of each element that does
passing : (P : Term → Type 0) (ys : List (Bor Term)) → Everywhere (filter (λ y. stands y.now) ys) (λ y. P y.now)
    → (k : ℕ) (d : Term) → k < length ys → stands (get_or (map (λ y. y.now) ys) k d) ≡ true → P (get_or (map (λ y. y.now) ys) k d)
passing P [] h k d l e = absurd (omega arith)
passing P (y ∷ ys) h zero d l e = subst (λ b. Everywhere (cond b (y ∷ filter (λ z. stands z.now) ys) (filter (λ z. stands z.now) ys)) (λ z. P z.now)) e h 0
passing P (y ∷ ys) h (suc k) d l e =
    let F : Bool → Type 0 = λ b. Everywhere (cond b (y ∷ filter (λ z. stands z.now) ys) (filter (λ z. stands z.now) ys)) (λ z. P z.now) in
    elim (cases_Bool (stands y.now)) [
      | inl t ↦ passing P ys (λ j. subst F t h (suc j)) k d (omega arith) e
      | inr t ↦ passing P ys (subst F t h) k d (omega arith) e
    ]

nowhere : {A : Type 0} (P : A → Type 0) (ys : List A) → length ys ≡ 0 → Everywhere ys P
nowhere P [] e = λ k. tt
nowhere P (y ∷ ys) e = absurd (omega arith)

weaker : {A : Type 0} {P Q : A → Type 0} (o : Option A) → ((x : A) → P x → Q x) → MatchOption o (Unit {0}) P → MatchOption o (Unit {0}) Q
weaker None f h = tt
weaker (Some x) f h = f x h

-- P holds of each slot that is not free
abbrev OfStanding : List Term → (Term → Type 0) → Type 0
OfStanding xs P = (k : ℕ) (d : Term) → k < length xs → 0 < (get_or xs k d).code → P (get_or xs k d)

-- an end of a polynomial: of what slots hold, it gives the slot that no other is beyond
pub record IsEnd (end : Poly → Option (ℕ × ℕ)) (beyond : ℕ → ℕ → Bool) : Type 0 where
  pub none : end [] ≡ None
  pub slot : (ts : Slots) (i : ℕ) → Apart ts → i < length ts → 0 < number_at ts i
      → ((j : ℕ) → j < length ts → 0 < number_at ts j → beyond (set_at ts j) (set_at ts i) ≡ false) → end (gather ts) ≡ Some (set_at ts i, number_at ts i)

pub low : IsEnd lowest (λ a b. is_lt (nat_cmp a b))
low = record { none = refl; slot = λ ts i a l s h. lowest_slot ts i a l s (λ j m t. grind (arith, nat_cmp, h j m t)) }

pub high : IsEnd highest (λ a b. is_lt (nat_cmp b a))
high = record { none = refl; slot = λ ts i a l s h. highest_slot ts i a l s (λ j m t. grind (arith, nat_cmp, h j m t)) }

free_at : (xs : List Term) → OfStanding xs (λ _. ⊥) → (k : ℕ) → k < length (contents xs) → number_at (contents xs) k ≡ 0
free_at [] h k l = absurd (omega arith)
free_at (x ∷ xs) h k l =
    let w : k < length (x ∷ xs) = omega (arith, length_contents (x ∷ xs)) in
    omega (arith, number_at_slot (x ∷ xs) k x w, h k x w)

-- ---- a whole run p over the slots that are not free, from a run over all of them
module _ {end : Poly → Option (ℕ × ℕ)} {beyond : ℕ → ℕ → Bool} (E : IsEnd end beyond)
    {F : Type 0} {t : Mut F (Bor (Bor Term) × Unit {0}) Bool} {f : F} {s : Filter (Iter Term) F} {from : Iter Term}
    (xs : List Term) (iters : IterYieldsInOrder Term) (all : iter_rest from ≡ xs)
    (filters : EachRunFrom (filter_steps iter_steps t) s (λ p. SomeRun iter_steps from (λ q. IsFilterRun p q t f)))
    (passes : ActsAsAt t f (λ (y : Bor Term). stands y.now)) (p : Run (filter_steps iter_steps t)) (starts : p.from ≡ s) (whole : p.whole ≡ true) (was : RankSet) where
  of_standing : (P : Term → Type 0) → Everywhere p.items (λ y. P y.now) → OfStanding xs P
  of_standing P h =
      let u = filters p p.seen starts in
      let ys = u.0.items in
      subst (λ zs. OfStanding zs P) ((iters u.0 u.0.seen).4 (u.2.0 ∙ whole) ∙ ap iter_rest u.1 ∙ all)
      (λ k d l s. passing P ys (subst (λ zs. Everywhere zs (λ y. P y.now)) (u.2.4 (λ y. stands y.now) passes) h)
      k d (omega (arith, length-map ys (λ (y : Bor Term). y.now))) (stands_some (get_or (map (λ y. y.now) ys) k d) s))

  pub none_handed : p.len ≡ 0 → (r : Option ℕ) → r ≡ None → Handed number (end (gather (contents xs))) r was was
  none_handed e r n =
      let free = free_at xs (of_standing (λ _. ⊥) (nowhere (λ _. ⊥) p.items (sym p.long ∙ e))) in
      subst (λ o. Handed number o r was was) (sym (ap end (gather_none (contents xs) free) ∙ E.none)) (n, refl)

  -- a key stands for the item's set
  module _ {G K : Type 0} {g : Mut G (Bor (Bor Term) × Unit {0}) K} {e : G} (set_of : K → RankSet)
      (acts : (x : Bor Term) (k : K) (e' : G) → CalledAt g e x k e' → (e' ≡ e) × (set_of k ≡ x.now.set)) (apart : Apart (contents xs))
      (m : Bor Term) (has : Contains xs m.now) (some : 0 < m.now.code) where
    keeps : CallKeepsClosure g e
    keeps a r e' h = (acts a.0.now r e' (record { shown = a.0; shows = refl; called = h })).0

    is_set : set_at (contents xs) has.0 ≡ number m.now.set
    is_set = set_at_slot xs has.0 m.now has.1 ∙ ap (λ (x : Term). number x.set) has.2

    is_code : number_at (contents xs) has.0 ≡ m.now.code
    is_code = number_at_slot xs has.0 m.now has.1 ∙ ap (λ (x : Term). x.code) has.2

    abbrev within : Term → Type 0
    within x = beyond (number x.set) (number m.now.set) ≡ false

    pub end_handed : (cmp : K → K → Ordering) → NoKeyBeyond p g e is_lt cmp m → ((j k : K) → is_lt (cmp j k) ≡ beyond (number (set_of j)) (number (set_of k)))
        → Handed number (end (gather (contents xs))) (Some m.now.code) was m.now.set
    end_handed cmp h compares =
        let n = h keeps in
        let all_within = of_standing within (λ k. weaker _ (λ x j. subst (λ s. beyond (number x.now.set) (number s) ≡ false) (acts m n.0 e n.1).1
        (subst (λ s. beyond (number s) (number (set_of n.0)) ≡ false) (acts x j.0 e j.1).1 (sym (compares j.0 n.0) ∙ j.2))) (each_of p _ n.2 k)) in
        subst (λ o. Handed number o (Some m.now.code) was m.now.set)
        (sym (E.slot (contents xs) has.0 apart (omega (arith, has.1, length_contents xs)) (omega (arith, is_code))
        (λ j l s. let w : j < length xs = omega (arith, length_contents xs) in rw (set_at_slot xs j m.now w, is_set) (all_within j m.now w (omega (arith, number_at_slot xs j m.now w))))))
        (ap Some (sym is_code), sym is_set)
