-- A part is no longer than the whole.
use Rattle.std.proofs.Common.{ℕ, ◌≤◌, List, [], ◌∷◌, length, inl, inr, arith}
use Rattle.algebra.specs.Parts.{Part}

pub part_length : (xs ys : List ℕ) → Part xs ys → length xs ≤ length ys
part_length [] ys p = omega arith
part_length (x ∷ xs) [] p = absurd p
part_length (x ∷ xs) (y ∷ ys) (inl p) = omega (arith, part_length xs ys p.1)
part_length (x ∷ xs) (y ∷ ys) (inr p) = omega (arith, part_length (x ∷ xs) ys p)
