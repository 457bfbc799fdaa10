-- The counts kind of width m: the numbers below 2^m, sum and product modulo 2^m. Assumes nothing.
--     CountsSize m   m is a width that the kind takes
--     modular m      the integers modulo 2^m
--     counts m       the same, with the answer 0 to a number that is no code
use Rattle.std.specs.Prelude.{ℕ, ◌+◌, ◌-◌, ◌*◌, ◌%◌, ◌^◌, ◌≤◌, nat_lt}
use Rattle.algebra.specs.Ring.{Ring, guarded}

pub record CountsSize (m : ℕ) : Type 0 where
  pub least : 1 ≤ m
  pub most : m ≤ 32

abbrev pub modular : ℕ → Ring
modular m = record {
  code = λ n. nat_lt n (2 ^ m);
  one = 1;
  base = 2 % 2 ^ m;
  sum = λ a b. (a + b) % 2 ^ m;
  negative = λ a. (2 ^ m - a) % 2 ^ m;
  product = λ a b. (a * b) % 2 ^ m;
}

abbrev pub counts : ℕ → Ring
counts m = guarded (modular m)
