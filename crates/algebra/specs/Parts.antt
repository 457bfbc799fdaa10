-- Parts of a list of sets. Assumes nothing.
--     Part xs ys   xs is ys with none, some or all of its sets left out
use Rattle.std.specs.Prelude.{◌≡◌, ℕ, ◌⊎◌, List, [], ◌∷◌}

abbrev pub Part : List ℕ → List ℕ → Type 0
Part [] ys = Unit {0}
Part (x ∷ xs) [] = ⊥
Part (x ∷ xs) (y ∷ ys) = ((x ≡ y) × Part xs ys) ⊎ Part (x ∷ xs) ys
