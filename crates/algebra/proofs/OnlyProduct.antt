-- The carry-less product is the only product of polynomials. Assumes nothing.
use Rattle.std.proofs.Common.{◌≡◌, ℕ, zero, suc, ◌+◌, ◌*◌, ◌/◌, ◌%◌, ◌^◌, ◌<◌, sym, ap, ◌∙◌, ap₂, mul_assoc, one-mul, pow-suc, zero-mul, mul-one, arith, pow-add}
use lib.Arith.{bin_ind}
use lib.Bits.{bit_xor, xor_self}
use Rattle.algebra.specs.Gf2.{◌⊗◌, Product, ProductLaw}
use Rattle.algebra.proofs.Xor.{xor_double, digit_lt, by_digits}
use Rattle.algebra.proofs.Product.{times_xor_l, times_xor_r, times_power}

-- linear functions that agree on the powers of X are equal
module _ (f g : ℕ → ℕ) (lf : (a b : ℕ) → f (bit_xor a b) ≡ bit_xor (f a) (f b)) (lg : (a b : ℕ) → g (bit_xor a b) ≡ bit_xor (g a) (g b))
    (on : (i : ℕ) → f (2 ^ i) ≡ g (2 ^ i)) where
  at_zero : f 0 ≡ g 0
  at_zero = lf 0 0 ∙ xor_self (f 0) ∙ sym (lg 0 0 ∙ xor_self (g 0))

  at_digit : (c i : ℕ) → c < 2 → f (c * 2 ^ i) ≡ g (c * 2 ^ i)
  at_digit zero i h = ap f (zero-mul (2 ^ i)) ∙ at_zero ∙ ap g (sym (zero-mul (2 ^ i)))
  at_digit (suc zero) i h = ap f (one-mul (2 ^ i)) ∙ on i ∙ ap g (sym (one-mul (2 ^ i)))
  at_digit (suc (suc c)) i h = absurd (omega arith)

  shifted : (n i : ℕ) → n * 2 ^ i ≡ bit_xor (n % 2 * 2 ^ i) (n / 2 * 2 ^ suc i)
  shifted n zero = mul-one n ∙ by_digits n ∙ ap (λ (x : ℕ). bit_xor x (n / 2 * 2)) (sym (mul-one (n % 2)))
  shifted n (suc i) =
      ap (λ (x : ℕ). n * x) (pow-suc 2 i) ∙ sym (mul_assoc n (2 ^ i) 2)
      ∙ ap (λ (x : ℕ). x * 2) (shifted n i)
      ∙ sym (xor_double (n % 2 * 2 ^ i) (n / 2 * 2 ^ suc i))
      ∙ ap₂ bit_xor (double (n % 2) i) (double (n / 2) (suc i))
    where
      double : (m j : ℕ) → m * 2 ^ j * 2 ≡ m * 2 ^ suc j
      double m j = mul_assoc m (2 ^ j) 2 ∙ ap (λ (x : ℕ). m * x) (sym (pow-suc 2 j))

  at_shifted : (n i : ℕ) → f (n * 2 ^ i) ≡ g (n * 2 ^ i)
  at_shifted =
      bin_ind (λ (n : ℕ). (i : ℕ) → f (n * 2 ^ i) ≡ g (n * 2 ^ i)) (λ i. at_digit 0 i (omega arith))
      (λ n ih i.
      ap f (shifted n i) ∙ lf (n % 2 * 2 ^ i) (n / 2 * 2 ^ suc i)
      ∙ ap₂ bit_xor (at_digit (n % 2) i (digit_lt n)) (ih (suc i))
      ∙ sym (ap g (shifted n i) ∙ lg (n % 2 * 2 ^ i) (n / 2 * 2 ^ suc i)))

  pub agree : (n : ℕ) → f n ≡ g n
  agree n = ap f (sym (mul-one n)) ∙ at_shifted n 0 ∙ ap g (mul-one n)

powers : (i j : ℕ) → (2 ^ i) ⊗ (2 ^ j) ≡ 2 ^ (i + j)
powers i j = times_power (2 ^ i) j ∙ sym (pow-add 2 i j)

only : (m : ℕ → ℕ → ℕ) → Product m → (a b : ℕ) → m a b ≡ a ⊗ b
only m h a b =
    agree (λ x. m x b) (λ x. x ⊗ b) (λ x y. h.left x y b) (λ x y. times_xor_l x y b)
    (λ i. agree (λ x. m (2 ^ i) x) (λ x. (2 ^ i) ⊗ x) (λ x y. h.right (2 ^ i) x y) (λ x y. times_xor_r (2 ^ i) x y) (λ j. h.powers i j ∙ sym (powers i j)) b) a

pub product_law : ProductLaw
product_law = record {
  is_product = record { left = times_xor_l; right = times_xor_r; powers = powers };
  only = only;
}
