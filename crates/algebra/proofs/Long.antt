-- The carry-less product from the highest binary digit downward, and its length. Assumes nothing.
use Rattle.std.proofs.Common.{◌≡◌, ℕ, zero, suc, ◌+◌, ◌-◌, ◌*◌, ◌/◌, ◌%◌, ◌^◌, ◌<◌, ◌≤◌, sym, ap, ◌∙◌, subst, lt_of_lt_of_le, add-suc, pow-suc, one-mul, zero-mul, arith, pow_mono, shr-shr}
use native.Mathlib.Nat.{div-eq_of_lt}
use lib.Bits.{bit_xor, xor_comm, xor_lt, xor_zero_r}
use Rattle.algebra.specs.Gf2.{◌⊗◌}
use Rattle.algebra.proofs.Xor.{digit_lt, digit_below}
use Rattle.algebra.proofs.Product.{times_zero, times_step}

-- one digit more of the second factor: twice the product so far, and the first factor where the digit is 1
pub long_next : (a b i : ℕ) → 0 < i → bit_xor (a ⊗ (b / 2 ^ i) * 2) (b / 2 ^ (i - 1) % 2 * a) ≡ a ⊗ (b / 2 ^ (i - 1))
long_next a b i h =
    let half : b / 2 ^ i ≡ b / 2 ^ (i - 1) / 2 = ap (λ x. b / 2 ^ x) (omega arith) ∙ sym (shr-shr b (i - 1) 1) in
    ap (λ x. bit_xor (a ⊗ x * 2) (b / 2 ^ (i - 1) % 2 * a)) half ∙ xor_comm (a ⊗ (b / 2 ^ (i - 1) / 2) * 2) (b / 2 ^ (i - 1) % 2 * a) ∙ sym (times_step a (b / 2 ^ (i - 1)))

pub long_one : (a b i : ℕ) → 0 < i → b / 2 ^ (i - 1) % 2 ≡ 1 → bit_xor (a ⊗ (b / 2 ^ i) * 2) a ≡ a ⊗ (b / 2 ^ (i - 1))
long_one a b i h e = rw (e, one-mul) at (long_next a b i h)

pub long_none : (a b i : ℕ) → 0 < i → (b / 2 ^ (i - 1) % 2 ≡ 1 → ⊥) → a ⊗ (b / 2 ^ i) * 2 ≡ a ⊗ (b / 2 ^ (i - 1))
long_none a b i h n =
    let z : b / 2 ^ (i - 1) % 2 ≡ 0 = omega (arith, n) in
    rw (z, zero-mul, xor_zero_r) at (long_next a b i h)

-- a product of two polynomials is as long as both together, less one bit
pub times_lt : (i j a b : ℕ) → a < 2 ^ suc i → b < 2 ^ suc j → a ⊗ b < 2 ^ suc (i + j)
times_lt i zero a b l h =
    let z : b / 2 ≡ 0 = div-eq_of_lt h in
    let e : a ⊗ b ≡ b % 2 * a = times_step a b ∙ ap (λ (x : ℕ). bit_xor (b % 2 * a) (a ⊗ x * 2)) z ∙ ap (λ (x : ℕ). bit_xor (b % 2 * a) (x * 2)) (times_zero a) ∙ xor_zero_r (b % 2 * a) in
    let n : i + 0 ≡ i = omega arith in
    subst (λ (x : ℕ). a ⊗ b < 2 ^ suc x) (sym n) (subst (λ (x : ℕ). x < 2 ^ suc i) (sym e) (digit_below (suc i) a (b % 2) l (digit_lt b)))
times_lt i (suc j) a b l h =
    let s = pow-suc 2 (suc j) in
    let half : b / 2 < 2 ^ suc j = omega arith in
    let ih = times_lt i j a (b / 2) l half in
    let t : 2 ^ suc (i + suc j) ≡ 2 ^ suc (i + j) * 2 = ap (λ (x : ℕ). 2 ^ suc x) (add-suc i j) ∙ pow-suc 2 (suc (i + j)) in
    let n : suc i ≤ suc (i + suc j) = omega arith in
    let m : a ⊗ (b / 2) * 2 < 2 ^ suc (i + suc j) = omega (arith, t, ih) in
    subst (λ (x : ℕ). x < 2 ^ suc (i + suc j)) (sym (times_step a b))
    (xor_lt (suc (i + suc j)) (b % 2 * a) (a ⊗ (b / 2) * 2) (lt_of_lt_of_le (digit_below (suc i) a (b % 2) l (digit_lt b)) (pow_mono n)) m)
