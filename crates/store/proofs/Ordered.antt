-- Writes in order: what is left of them after some.
use Rattle.std.proofs.Common.{◌≡◌, ℕ, ◌+◌, ◌<◌, Bool, true, false, List, ◌∷◌, length, get_or, drop, sym, refl, ap, ◌∙◌, arith}
use Rattle.std.proofs.lemmas.List.{drop_more, get_or-map, length-map}
use Rattle.algebra.specs.Poly.{Poly, put}
use Rattle.sets.specs.Numbers.{number}
use Rattle.sets.specs.declared.RankSet.{RankSet}
use Rattle.store.specs.declared.slot.Slot.{Slot}
use Rattle.store.specs.Answers.{Wrote}
use Rattle.store.specs.Stores.{Room, fits}
use Rattle.store.specs.Terms.{term}
use Rattle.store.specs.Batches.{written, pairs}

-- after i writes that were granted the store is at q, and the rest leads to the same
pub record Midway (room : Room) (p : Poly) (ws : List (ℕ × ℕ)) (i : ℕ) (q : Poly) (room' : Room) : Type 0 where
  pub granted : (written (fits room) p ws).0 ≡ i + (written (fits room) q (drop i ws)).0
  pub after : (written (fits room) p ws).1 ≡ (written (fits room) q (drop i ws)).1
  pub same : room' ≡ room

module _ (room : Room) (p : Poly) (xs : List (Slot RankSet)) (i : ℕ) (q q' : Poly) (room' : Room) (r : Bool) (M : Midway room p (pairs xs) i q room')
    (x : Slot RankSet) (read : x ≡ get_or xs i x) (l : i < length xs) (w : Wrote (fits room') q (number x.key) x.number q' r) where
  abbrev rest : List (ℕ × ℕ)
  rest = drop (i + 1) (pairs xs)

  left : drop i (pairs xs) ≡ term number x ∷ rest
  left =
      drop_more (pairs xs) i (0, 0) (omega (arith, length-map xs (term number)))
      ∙ ap (λ t. t ∷ rest) (get_or-map (term number) xs i x (0, 0) l ∙ ap (term number) (sym read))

  answer : fits room (put q (number x.key) x.number) ≡ r
  answer = ap (λ r. fits r (put q (number x.key) x.number)) (sym M.same) ∙ sym w.answer

  -- the write is granted
  pub midway_more : (room'' : Room) → r ≡ true → room'' ≡ room' → Midway room p (pairs xs) (i + 1) q' room''
  midway_more room'' is same =
      let test = answer ∙ is in
      let now = w.after in
      record {
        granted = M.granted ∙ rw (left, test, now, is) (omega arith);
        after = M.after ∙ rw (left, test, now, is) refl;
        same = same ∙ M.same;
      }

  -- the write is refused
  pub midway_stop : r ≡ false → (i ≡ (written (fits room) p (pairs xs)).0) × (q' ≡ (written (fits room) p (pairs xs)).1)
  midway_stop is =
      let test = answer ∙ is in
      (sym (M.granted ∙ rw (left, test) (omega arith)), w.after ∙ rw is (sym (M.after ∙ rw (left, test) refl)))
