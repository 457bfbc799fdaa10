-- A set of ranks as the number that has bit r where r is in the set; ranks are below 512. The order of sets is that of numbers, in which
-- the higher of two sets has the highest rank in which they differ. Assumes nothing.
--     has S r            S has the rank r
--     within S A         each rank of S is in A
--     inserted S r       S with the rank r; S where r is no rank
--     removed S r        S without the rank r
--     NoneFrom m S       S has no rank from m on
--     LowestFrom m S r   r is the lowest rank of S from m on
--     Highest S r        r is the highest rank of S
--     ranks_from m S     the ranks of S from m on, rising
--     ranks S            the ranks of S, rising
--     HigherAt r A B     r is the highest rank in which A and B differ, and A has it
--     Higher A B         A has the highest rank in which A and B differ
--     Membership         what has says of the empty set, of inserted, removed, bit_or and within; and sets with the same ranks are the same
use Rattle.std.specs.Prelude.{◌≡◌, ℕ, ◌-◌, ◌/◌, ◌%◌, ◌^◌, ◌<◌, ◌≤◌, Bool, true, false, if◌then◌else◌, not, ◌&&◌, ◌||◌, List, filter, ◌==◌, bit_and, bit_or, nat_lt}
use Rattle.std.specs.List.{range_with_len}

abbrev pub has : ℕ → ℕ → Bool
has S r = S / 2 ^ r % 2 == 1

abbrev pub within : ℕ → ℕ → Bool
within S A = bit_and S A == S

abbrev pub inserted : ℕ → ℕ → ℕ
inserted S r = if nat_lt r 512 then bit_or S (2 ^ r) else S

abbrev pub removed : ℕ → ℕ → ℕ
removed S r = if has S r then S - 2 ^ r else S

abbrev pub NoneFrom : ℕ → ℕ → Type 0
NoneFrom m S = (k : ℕ) → m ≤ k → has S k ≡ false

abbrev pub LowestFrom : ℕ → ℕ → ℕ → Type 0
LowestFrom m S r = (m ≤ r) × (has S r ≡ true) × ((k : ℕ) → m ≤ k → k < r → has S k ≡ false)

abbrev pub Highest : ℕ → ℕ → Type 0
Highest S r = (has S r ≡ true) × ((k : ℕ) → r < k → has S k ≡ false)

unfoldable pub ranks_from : ℕ → ℕ → List ℕ
ranks_from m S = filter (has S) (range_with_len m (512 - m))

abbrev pub ranks : ℕ → List ℕ
ranks S = ranks_from 0 S

abbrev pub HigherAt : ℕ → ℕ → ℕ → Type 0
HigherAt r A B = (has A r ≡ true) × (has B r ≡ false) × ((k : ℕ) → r < k → has A k ≡ has B k)

abbrev pub Higher : ℕ → ℕ → Type 0
Higher A B = (r : ℕ) × HigherAt r A B

pub record Membership : Type 0 where
  pub none : (k : ℕ) → has 0 k ≡ false
  pub insertion : (S r k : ℕ) → r < 512 → has (inserted S r) k ≡ (k == r || has S k)
  pub removal : (S r k : ℕ) → has (removed S r) k ≡ (not (k == r) && has S k)
  pub join : (A B k : ℕ) → has (bit_or A B) k ≡ (has A k || has B k)
  pub part : (S A : ℕ) → within S A ≡ true → (k : ℕ) → has S k ≡ true → has A k ≡ true
  pub whole : (S A : ℕ) → ((k : ℕ) → has S k ≡ true → has A k ≡ true) → within S A ≡ true
  pub same : (A B : ℕ) → ((k : ℕ) → has A k ≡ has B k) → A ≡ B
