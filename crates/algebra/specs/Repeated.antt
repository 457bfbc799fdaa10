-- Integer multiples and powers of a code. Assumes nothing.
--     repeated op unit n c   c joined n times by op, the unit where n is 0
--     Monoid P op unit       op is associative on the numbers that P holds of, and unit is neutral in it
--     Computes post is op    what is answered to numbers that pass the test `is` is what op gives
--     IsRepeated post unit n c r   r is c joined n times, by whatever such operation is computed
--     many r n c             c taken n times
--     multiple r z c         the integer z times c: c taken |z| times, and the negative of that where z is below 0
--     power r c n            c to the n
--     Multiples r            on codes z times c is additive in z and once c is c, so it is the multiple; products pass through it, and it is 0 at a number that is no code
--     Powers r               base^0 is the one, base^1 the base, and exponents add up
use Rattle.std.specs.Prelude.{◌≡◌, ℕ, zero, suc, ◌+◌, Bool, IsTrue, if◌then◌else◌, ℤ, pos, ◌+ℤ◌, int_lt, unsigned_abs}
use Rattle.algebra.specs.Ring.{Ring, Code}

abbrev pub repeated : (ℕ → ℕ → ℕ) → ℕ → ℕ → ℕ → ℕ
repeated op unit zero c = unit
repeated op unit (suc n) c = op c (repeated op unit n c)

pub record Monoid (P : ℕ → Type 0) (op : ℕ → ℕ → ℕ) (unit : ℕ) : Type 0 where
  pub unit_in : P unit
  pub op_in : (a b : ℕ) → P a → P b → P (op a b)
  pub assoc : (a b c : ℕ) → P a → P b → P c → op (op a b) c ≡ op a (op b c)
  pub left : (a : ℕ) → P a → op unit a ≡ a
  pub right : (a : ℕ) → P a → op a unit ≡ a

abbrev pub Computes : (ℕ → ℕ → ℕ → Type 0) → (ℕ → Bool) → (ℕ → ℕ → ℕ) → Type 0
Computes post is op = (a b r : ℕ) → IsTrue (is a) → IsTrue (is b) → post a b r → r ≡ op a b

abbrev pub IsRepeated : (ℕ → ℕ → ℕ → Type 0) → ℕ → ℕ → ℕ → ℕ → Type 0
IsRepeated post unit n c r =
    (is : ℕ → Bool) (op : ℕ → ℕ → ℕ) → Monoid (λ a. IsTrue (is a)) op unit → Computes post is op → IsTrue (is c) → r ≡ repeated op unit n c

abbrev pub many : Ring → ℕ → ℕ → ℕ
many r n c = repeated r.sum 0 n c

abbrev pub multiple : Ring → ℤ → ℕ → ℕ
multiple r z c = if int_lt z (pos 0) then r.negative (many r (unsigned_abs z) c) else many r (unsigned_abs z) c

abbrev pub power : Ring → ℕ → ℕ → ℕ
power r c n = repeated r.product r.one n c

pub record Multiples (r : Ring) : Type 0 where
  pub code : (z : ℤ) (c : ℕ) → Code r c → Code r (multiple r z c)
  pub once : (c : ℕ) → Code r c → multiple r (pos 1) c ≡ c
  pub sum : (y z : ℤ) (c : ℕ) → Code r c → multiple r (y +ℤ z) c ≡ r.sum (multiple r y c) (multiple r z c)
  pub product : (z : ℤ) (a b : ℕ) → Code r a → Code r b → r.product (multiple r z a) b ≡ multiple r z (r.product a b)
  pub outside : (z : ℤ) (c : ℕ) → ¬ Code r c → multiple r z c ≡ 0

pub record Powers (r : Ring) : Type 0 where
  pub code : (n : ℕ) → Code r (power r r.base n)
  pub none : power r r.base 0 ≡ r.one
  pub once : power r r.base 1 ≡ r.base
  pub sum : (m n : ℕ) → power r r.base (m + n) ≡ r.product (power r r.base m) (power r r.base n)
