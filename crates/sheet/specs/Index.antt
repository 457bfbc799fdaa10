-- The index of a list of labels, as a polynomial: a label is a set, by its number. Assumes nothing.
--     indexed p n ls   p with each label of ls at its place, counted on from n
--     index ls         each label of ls with its place, counted from 1
use Rattle.std.specs.Prelude.{ℕ, suc, List, [], ◌∷◌}
use Rattle.algebra.specs.Poly.{Poly, put}

abbrev pub indexed : Poly → ℕ → List ℕ → Poly
indexed p n [] = p
indexed p n (l ∷ ls) = indexed (put p l (suc n)) (suc n) ls

abbrev pub index : List ℕ → Poly
index ls = indexed [] 0 ls
