-- The carry-less product: a commutative ring with bit_xor. Assumes nothing.
use Rattle.std.proofs.Common.{◌≡◌, ℕ, zero, suc, ◌*◌, ◌/◌, ◌%◌, ◌^◌, ◌<◌, ◌≤◌, sym, refl, ap, ◌∙◌, ap₂, le_refl, not-suc-le-zero, mul_assoc, mul_comm, one-mul, pow-suc, mul-zero, zero-mul, mul-one, mul-div_cancel, arith}
use native.Mathlib.Nat.{mul-mod_left}
use native.Mathlib.Decide.{le_ind}
use lib.Arith.{half_le, bin_ind}
use lib.Bits.{bit_xor, xor_shr, xor_mod}
use Rattle.algebra.specs.Gf2.{carryless, ◌⊗◌}
use Rattle.algebra.proofs.Xor.{xor_swap, xor_double, digit_xor, digits_xor, digit_lt, by_digits}

-- ---- the product is b₀ · a + X · (a · (b / X))

more : (a n b : ℕ) → b ≤ n → carryless (suc n) a b ≡ carryless n a b
unfolding carryless
more a zero zero h = refl
more a zero (suc b) h = absurd (not-suc-le-zero h)
more a (suc n) zero h = refl
more a (suc n) (suc b) h = ap (λ (x : ℕ). bit_xor (suc b % 2 * a) (x * 2)) (more a n (suc b / 2) (half_le h))

enough : (a n b : ℕ) → b ≤ n → carryless n a b ≡ carryless b a b
enough a n b h = le_ind (λ (m : ℕ). carryless m a b ≡ carryless b a b) refl (λ m k e. more a m b k ∙ e) n h

pub times_zero : (a : ℕ) → a ⊗ 0 ≡ 0
unfolding ◌⊗◌ carryless
times_zero a = refl

pub times_step : (a b : ℕ) → a ⊗ b ≡ bit_xor (b % 2 * a) (a ⊗ (b / 2) * 2)
unfolding ◌⊗◌ carryless
times_step a zero = sym (ap (λ (x : ℕ). bit_xor x 0) (zero-mul a))
times_step a (suc b) = ap (λ (x : ℕ). bit_xor (suc b % 2 * a) (x * 2)) (enough a b (suc b / 2) (half_le (le_refl (suc b))))

-- ---- linear in each factor

pub times_xor_l : (a b c : ℕ) → bit_xor a b ⊗ c ≡ bit_xor (a ⊗ c) (b ⊗ c)
times_xor_l a b =
    bin_ind (λ (n : ℕ). bit_xor a b ⊗ n ≡ bit_xor (a ⊗ n) (b ⊗ n)) (times_zero (bit_xor a b) ∙ sym (ap₂ bit_xor (times_zero a) (times_zero b)))
    (λ n ih.
    times_step (bit_xor a b) n
    ∙ ap₂ bit_xor (digit_xor (n % 2) a b (digit_lt n)) (ap (λ (x : ℕ). x * 2) ih ∙ sym (xor_double (a ⊗ (n / 2)) (b ⊗ (n / 2))))
    ∙ xor_swap (n % 2 * a) (n % 2 * b) (a ⊗ (n / 2) * 2) (b ⊗ (n / 2) * 2)
    ∙ sym (ap₂ bit_xor (times_step a n) (times_step b n)))

pub times_xor_r : (c a b : ℕ) → c ⊗ bit_xor a b ≡ bit_xor (c ⊗ a) (c ⊗ b)
times_xor_r c =
    bin_ind (λ (n : ℕ). (b : ℕ) → c ⊗ bit_xor n b ≡ bit_xor (c ⊗ n) (c ⊗ b)) (λ b. sym (ap (λ (x : ℕ). bit_xor x (c ⊗ b)) (times_zero c)))
    (λ n ih b.
    times_step c (bit_xor n b)
    ∙ ap₂ (λ (x y : ℕ). bit_xor (x * c) (c ⊗ y * 2)) (xor_mod n b 1) (xor_shr n b 1)
    ∙ ap₂ bit_xor (digits_xor (n % 2) (b % 2) c (digit_lt n) (digit_lt b)) (ap (λ (x : ℕ). x * 2) (ih (b / 2)) ∙ sym (xor_double (c ⊗ (n / 2)) (c ⊗ (b / 2))))
    ∙ xor_swap (n % 2 * c) (b % 2 * c) (c ⊗ (n / 2) * 2) (c ⊗ (b / 2) * 2)
    ∙ sym (ap₂ bit_xor (times_step c n) (times_step c b)))

-- ---- X and digits pass through

pub times_double_l : (a b : ℕ) → (a * 2) ⊗ b ≡ a ⊗ b * 2
times_double_l a =
    bin_ind (λ (n : ℕ). (a * 2) ⊗ n ≡ a ⊗ n * 2) (times_zero (a * 2) ∙ sym (ap (λ (x : ℕ). x * 2) (times_zero a)))
    (λ n ih.
    times_step (a * 2) n
    ∙ ap₂ bit_xor (sym (mul_assoc (n % 2) a 2)) (ap (λ (x : ℕ). x * 2) ih)
    ∙ xor_double (n % 2 * a) (a ⊗ (n / 2) * 2)
    ∙ ap (λ (x : ℕ). x * 2) (sym (times_step a n)))

pub times_double_r : (a b : ℕ) → a ⊗ (b * 2) ≡ a ⊗ b * 2
times_double_r a b =
    times_step a (b * 2)
    ∙ ap₂ (λ (x y : ℕ). bit_xor (x * a) (a ⊗ y * 2)) (mul-mod_left b 2) (mul-div_cancel b (omega arith))
    ∙ ap (λ (x : ℕ). bit_xor x (a ⊗ b * 2)) (zero-mul a)

-- ---- one, and the order of the factors

digit_times : (c b : ℕ) → c < 2 → c ⊗ b ≡ c * b
digit_times c b h =
    bin_ind (λ (n : ℕ). c ⊗ n ≡ c * n) (times_zero c ∙ sym (mul-zero c))
    (λ n ih.
    times_step c n
    ∙ ap (λ (x : ℕ). bit_xor (n % 2 * c) (x * 2)) ih
    ∙ ap₂ bit_xor (mul_comm (n % 2) c) (mul_assoc c (n / 2) 2)
    ∙ sym (digit_xor c (n % 2) (n / 2 * 2) h)
    ∙ ap (λ (x : ℕ). c * x) (sym (by_digits n))) b

pub one_times : (b : ℕ) → 1 ⊗ b ≡ b
one_times b = digit_times 1 b (le_refl 2) ∙ one-mul b

pub zero_times : (b : ℕ) → 0 ⊗ b ≡ 0
zero_times b = digit_times 0 b (omega arith) ∙ zero-mul b

-- a · b by the digits of a
pub times_step_l : (a b : ℕ) → a ⊗ b ≡ bit_xor (a % 2 * b) ((a / 2) ⊗ b * 2)
times_step_l a b =
    ap (λ (x : ℕ). x ⊗ b) (by_digits a)
    ∙ times_xor_l (a % 2) (a / 2 * 2) b
    ∙ ap₂ bit_xor (digit_times (a % 2) b (digit_lt a)) (times_double_l (a / 2) b)

pub times_comm : (a b : ℕ) → a ⊗ b ≡ b ⊗ a
times_comm a =
    bin_ind (λ (n : ℕ). (b : ℕ) → n ⊗ b ≡ b ⊗ n) (λ b. digit_times 0 b (omega arith) ∙ zero-mul b ∙ sym (times_zero b))
    (λ n ih b. times_step_l n b ∙ ap (λ (x : ℕ). bit_xor (n % 2 * b) (x * 2)) (ih b) ∙ sym (times_step b n)) a

pub times_assoc : (a b c : ℕ) → (a ⊗ b) ⊗ c ≡ a ⊗ (b ⊗ c)
times_assoc a b =
    bin_ind (λ (n : ℕ). (a ⊗ b) ⊗ n ≡ a ⊗ (b ⊗ n)) (times_zero (a ⊗ b) ∙ sym (ap (λ (x : ℕ). a ⊗ x) (times_zero b) ∙ times_zero a))
    (λ n ih.
    times_step (a ⊗ b) n
    ∙ ap₂ (λ (x y : ℕ). bit_xor x (y * 2)) (sym (times_digit (n % 2) (digit_lt n))) ih
    ∙ ap (bit_xor (a ⊗ (n % 2 * b))) (sym (times_double_r a (b ⊗ (n / 2))))
    ∙ sym (times_xor_r a (n % 2 * b) (b ⊗ (n / 2) * 2))
    ∙ ap (λ (x : ℕ). a ⊗ x) (sym (times_step b n)))
  where
    times_digit : (c : ℕ) → c < 2 → a ⊗ (c * b) ≡ c * (a ⊗ b)
    times_digit zero h = ap (λ (x : ℕ). a ⊗ x) (zero-mul b) ∙ times_zero a ∙ sym (zero-mul (a ⊗ b))
    times_digit (suc zero) h = ap (λ (x : ℕ). a ⊗ x) (one-mul b) ∙ sym (one-mul (a ⊗ b))
    times_digit (suc (suc c)) h = absurd (omega arith)

-- a product by a power of X is a shift
pub times_power : (a j : ℕ) → a ⊗ (2 ^ j) ≡ a * 2 ^ j
times_power a zero = times_comm a 1 ∙ one_times a ∙ sym (mul-one a)
times_power a (suc j) =
    ap (λ (x : ℕ). a ⊗ x) (pow-suc 2 j) ∙ times_double_r a (2 ^ j) ∙ ap (λ (x : ℕ). x * 2) (times_power a j) ∙ mul_assoc a (2 ^ j) 2
    ∙ ap (λ (x : ℕ). a * x) (sym (pow-suc 2 j))
