-- What the calls on a table of keys answer, in the words of its polynomial: a key is a set, by its number. Assumes nothing.
--     Handed number t r was is   a term t, or none, is handed out: its number is the answer r, its key goes into a place that was `was`; with none the place stays
--     Wrote fits p S v q r       a write of v at S where p was held: it answers whether the outcome fits, and then q is the outcome, else p
use Rattle.std.specs.Prelude.{◌≡◌, ℕ, Bool, if◌then◌else◌, Some, None, Option}
use Rattle.algebra.specs.Poly.{Poly, put}

abbrev pub Handed : {K : Type 0} → (K → ℕ) → Option (ℕ × ℕ) → Option ℕ → K → K → Type 0
Handed number None r was is = (r ≡ None) × (is ≡ was)
Handed number (Some t) r was is = (r ≡ Some t.1) × (number is ≡ t.0)

pub record Wrote (fits : Poly → Bool) (p : Poly) (S v : ℕ) (q : Poly) (r : Bool) : Type 0 where
  pub answer : r ≡ fits (put p S v)
  pub after : q ≡ (if r then put p S v else p)
