-- A polynomial in the signals, with numbers for coefficients, as the list of its terms. A set of ranks is a number (`Sets`) and stands for the
-- product of its signals. No number in the list is 0, so that equal polynomials are equal lists. Assumes nothing.
--     Poly                  terms: a standing set with its number
--     at p S                the number at the set S, 0 where S does not stand
--     front S v p           the term of S and v before p; p where v is 0
--     put p S v             p with the number v at the set S, every other set keeping its own
--     standing p            the standing sets
--     lowest p, highest p   the term at that end, or none
--     Above S p             every set of p is above S
--     Rising p              the sets rise, and no number is 0: the form of a polynomial
use Rattle.std.specs.Prelude.{ℕ, zero, suc, ◌<◌, if◌then◌else◌, List, [], ◌∷◌, map, Some, None, Option, ◌==◌, nat_lt}

abbrev pub Poly : Type 0
Poly = List (ℕ × ℕ)

abbrev pub at : Poly → ℕ → ℕ
at [] S = 0
at (t ∷ p) S = if t.0 == S then t.1 else at p S

abbrev pub front : ℕ → ℕ → Poly → Poly
front S zero p = p
front S (suc v) p = (S, suc v) ∷ p

abbrev pub put : Poly → ℕ → ℕ → Poly
put [] S v = front S v []
put (t ∷ p) S v = if nat_lt S t.0 then front S v (t ∷ p) else if S == t.0 then front S v p else t ∷ put p S v

abbrev pub standing : Poly → List ℕ
standing p = map (λ (t : ℕ × ℕ). t.0) p

abbrev pub lowest : Poly → Option (ℕ × ℕ)
lowest [] = None
lowest (t ∷ p) = Some t

abbrev pub highest : Poly → Option (ℕ × ℕ)
highest [] = None
highest (t ∷ []) = Some t
highest (t ∷ (u ∷ p)) = highest (u ∷ p)

abbrev pub Above : ℕ → Poly → Type 0
Above S [] = Unit {0}
Above S (t ∷ p) = (S < t.0) × Above S p

abbrev pub Rising : Poly → Type 0
Rising [] = Unit {0}
Rising (t ∷ p) = (0 < t.1) × Above t.0 p × Rising p
