-- A polynomial's list by places, as a table keeps it. Assumes nothing.
--     set_at p i, number_at p i   the set and the number at the place i; 0 where there is no such place
--     Sorted p                    each set is below the next
--     Nonzero p                   no number is 0
--     Bounded p                   every number has 32 bits
--     StandsAt p S i              the set S stands at the place i
--     FallsAt p S i               the set S does not stand, and would at the place i
use Rattle.std.specs.Prelude.{◌≡◌, ℕ, suc, ◌^◌, ◌<◌, ◌≤◌, length, slice_index_or}
use Rattle.algebra.specs.Poly.{Poly}

abbrev pub set_at : Poly → ℕ → ℕ
set_at p i = (slice_index_or p i (0, 0)).0

abbrev pub number_at : Poly → ℕ → ℕ
number_at p i = (slice_index_or p i (0, 0)).1

abbrev pub Sorted : Poly → Type 0
Sorted p = (i : ℕ) → suc i < length p → set_at p i < set_at p (suc i)

abbrev pub Nonzero : Poly → Type 0
Nonzero p = (i : ℕ) → i < length p → 0 < number_at p i

abbrev pub Bounded : Poly → Type 0
Bounded p = (i : ℕ) → i < length p → number_at p i < 2 ^ 32

pub record StandsAt (p : Poly) (S i : ℕ) : Type 0 where
  pub within : i < length p
  pub is : set_at p i ≡ S

pub record FallsAt (p : Poly) (S i : ℕ) : Type 0 where
  pub within : i ≤ length p
  pub below : (k : ℕ) → k < i → set_at p k < S
  pub above : (k : ℕ) → i ≤ k → k < length p → S < set_at p k
