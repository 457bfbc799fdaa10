-- The field kind of degree k and modulus p: polynomials over the two-element field, modulo p. Assumes nothing.
--     FieldSize k p   k is a degree that the kind takes, and p has that degree
--     quotient k p    the polynomials of degree below k, the product being the remainder by p
--     field k p       the same, with the answer 0 to a number that is no code
use Rattle.std.specs.Prelude.{ℕ, ◌^◌, ◌≤◌, nat_lt}
use Rattle.std.specs.Int.Bits.{bit_xor}
use Rattle.algebra.specs.Gf2.{◌⊗◌, remainder, Degree}
use Rattle.algebra.specs.Ring.{Ring, guarded}

pub record FieldSize (k p : ℕ) : Type 0 where
  pub least : 2 ≤ k
  pub most : k ≤ 8
  pub degree : Degree k p

abbrev pub quotient : ℕ → ℕ → Ring
quotient k p = record {
  code = λ n. nat_lt n (2 ^ k);
  one = 1;
  base = 2;
  sum = bit_xor;
  negative = λ a. a;
  product = λ a b. remainder k p (a ⊗ b);
}

abbrev pub field : ℕ → ℕ → Ring
field k p = guarded (quotient k p)
