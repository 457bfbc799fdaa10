-- Long division by a polynomial p of degree k, one bit at a time from the highest. Assumes nothing.
use Rattle.std.proofs.Common.{◌≡◌, ℕ, suc, ◌-◌, ◌*◌, ◌/◌, ◌%◌, ◌^◌, ◌<◌, subst, arith}
use lib.Bits.{bit_xor}
use Rattle.algebra.specs.Gf2.{Degree, remainder}
use Rattle.algebra.proofs.Bitsets.{bit_part}
use Rattle.algebra.proofs.Remainders.{tops, shift_degree, remainder_shift}

module _ (i x : ℕ) (some : 0 < i) (short : x < 2 ^ i) where
  below : x < 2 ^ suc (i - 1)
  below = subst (λ n. x < 2 ^ n) (omega arith) short

  -- where x has the bit i - 1, X^(i - 1 - k) · p is taken away
  pub division_step : (k p : ℕ) → Degree k p → k < i → x / 2 ^ (i - 1) % 2 ≡ 1
      → (bit_xor x (p * 2 ^ (i - 1 - k)) < 2 ^ (i - 1)) × (remainder k p (bit_xor x (p * 2 ^ (i - 1 - k))) ≡ remainder k p x)
  division_step k p deg l e =
      let j = i - 1 - k in
      let shifted : Degree (i - 1) (p * 2 ^ j) = subst (λ (d : ℕ). Degree d (p * 2 ^ j)) (omega arith) (shift_degree k p j deg) in
      (tops (i - 1) x (p * 2 ^ j) (bit_part x (i - 1) e, below) shifted, remainder_shift k p deg x j)
