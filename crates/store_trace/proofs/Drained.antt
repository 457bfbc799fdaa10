-- A store gives up its lowest set, and so all of them, one by one.
use Rattle.std.proofs.Common.{◌≡◌, ℕ, Bool, true, List, [], ◌∷◌, ◌++◌, map, drop, Some, Option, refl, ap, ◌∙◌, inl, inr}
use Rattle.std.proofs.lemmas.List.{map-append, append_assoc}
use Rattle.algebra.specs.Poly.{Poly, put, lowest, standing}
use Rattle.algebra.specs.Parts.{Part}
use Rattle.algebra.proofs.Polys.{put_here}
use Rattle.sets.specs.Numbers.{number}
use Rattle.sets.specs.declared.RankSet.{RankSet}
use Rattle.store.specs.Answers.{Wrote}
use Rattle.store.specs.Stores.{Room, StoreLaws, fits}
use Rattle.store.specs.declared.slot.Slot.{Slot}
use Rattle.store.specs.Terms.{term}

part_self : (xs : List ℕ) → Part xs xs
part_self [] = tt
part_self (x ∷ xs) = inl (refl, part_self xs)

part_tail : (x : ℕ) (xs : List ℕ) → Part xs (x ∷ xs)
part_tail x [] = tt
part_tail x (y ∷ xs) = inr (part_self (y ∷ xs))

taken_from : (room : Room) (p q : Poly) (t : ℕ × ℕ) (r : Bool) → fits room p ≡ true → ((some sets : List ℕ) → Part some sets → room sets ≡ true → room some ≡ true) → ◌≡◌ {A = Option (ℕ × ℕ)} (Some t) (lowest p) → Wrote (fits room) p t.0 0 q r → q ≡ drop 1 p
taken_from room [] q t r held part e w = cc
taken_from room (u ∷ p) q t r held part e w =
    let here : t.0 ≡ u.0 = cc in
    let out : put (u ∷ p) t.0 0 ≡ p = put_here u p t.0 0 here in
    let wrote : r ≡ true = w.answer ∙ ap (fits room) out ∙ part (standing p) (standing (u ∷ p)) (part_tail u.0 (standing p)) held in
    (rw wrote at w.after) ∙ out

-- 0 written at the lowest set is granted, and leaves the others
pub taken : {S : Type 0} {poly : S → Poly} {room : S → Room} → StoreLaws poly room → (s : S) (q : Poly) (t : ℕ × ℕ) (r : Bool) → ◌≡◌ {A = Option (ℕ × ℕ)} (Some t) (lowest (poly s)) → Wrote (fits (room s)) (poly s) t.0 0 q r → q ≡ drop 1 (poly s)
taken {poly = poly} {room = room} laws s q t r = taken_from (room s) (poly s) q t r (laws.held s) (laws.part s)

-- one more is taken: what was taken and what is left are still the whole
pub drained_more : (xs ys : List (Slot RankSet)) (e : Slot RankSet) (p q whole : Poly) → ys ≡ xs ++ e ∷ [] → ◌≡◌ {A = Option (ℕ × ℕ)} (Some (term number e)) (lowest p) → q ≡ drop 1 p → map (term number) xs ++ p ≡ whole → map (term number) ys ++ q ≡ whole
drained_more xs ys e [] q whole f g h i = cc
drained_more xs ys e (u ∷ p) q whole f g h i =
    let first : term number e ≡ u = cc in
    rw (f, h) (simp (map-append, append_assoc, first) i)
