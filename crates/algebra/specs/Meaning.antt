-- What a polynomial's list means: one number for each set. Assumes nothing.
--     Meaning   what `at` says of `put`, of the list, and of its ends; and lists with the same numbers are the same
use Rattle.std.specs.Prelude.{◌≡◌, ℕ, ◌<◌, ◌≤◌, [], MatchOption, ◌≢◌}
use Rattle.std.specs.List.{ContainsAt as Has}
use Rattle.algebra.specs.Poly.{Poly, at, put, standing, lowest, highest, Rising}

pub record Meaning : Type 0 where
  -- a write gives its set the number, leaves every other number, and keeps the form
  pub here : (p : Poly) (S v : ℕ) → Rising p → at (put p S v) S ≡ v
  pub elsewhere : (p : Poly) (S v R : ℕ) → Rising p → (S ≢ R) → at (put p S v) R ≡ at p R
  pub form : (p : Poly) (S v : ℕ) → Rising p → Rising (put p S v)
  -- the listed sets are those whose number is not 0
  pub stands : (p : Poly) (S : ℕ) → Rising p → Has (standing p) S → 0 < at p S
  pub listed : (p : Poly) (S : ℕ) → 0 < at p S → Has (standing p) S
  -- the lowest and the highest of them
  pub low : (p : Poly) → Rising p → MatchOption (lowest p) (p ≡ []) (λ t. (0 < t.1) × (at p t.0 ≡ t.1) × ((R : ℕ) → 0 < at p R → t.0 ≤ R))
  pub high : (p : Poly) → Rising p → MatchOption (highest p) (p ≡ []) (λ t. (0 < t.1) × (at p t.0 ≡ t.1) × ((R : ℕ) → 0 < at p R → R ≤ t.0))
  -- the numbers make the list
  pub same : (p q : Poly) → Rising p → Rising q → ((S : ℕ) → at p S ≡ at q S) → p ≡ q
