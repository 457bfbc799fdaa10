-- The last of the standing slots.
use Rattle.std.proofs.Common.{◌≡◌, ℕ, ◌-◌, List, [], ◌∷◌, map, length, slice_get, refl}
use native.Mathlib.Numerals.{unary_clauses}
use Rattle.std.specs.Option.{option_map}
use Rattle.algebra.specs.Poly.{highest}

pub highest_is_last : {X : Type 0} (f : X → ℕ × ℕ) (xs : List X) → highest (map f xs) ≡ option_map f (slice_get xs (length xs - 1))
highest_is_last f [] = refl
highest_is_last f (x ∷ []) = refl
highest_is_last f (x ∷ (y ∷ xs)) = simp unary_clauses (simp unary_clauses at (highest_is_last f (y ∷ xs)))
