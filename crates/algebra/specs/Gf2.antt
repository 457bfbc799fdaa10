-- Polynomials over the two-element field, as numbers: bit i of a number is the coefficient of X^i, and the sum is bit_xor. Assumes nothing.
--     a ⊗ b                   the product, which has no carries: computed by the binary digits of b
--     Product m               m is linear in each factor, and takes X^i and X^j to X^(i + j)
--     ProductLaw              ⊗ is such a product, and every such product is ⊗
--     Degree k p              p has degree k
--     Remainder k p x r       r has degree below k, and x = q · p + r for some q
--     remainder k p x         computed by the binary digits of x
--     OnlyRemainder k p x r   r is a remainder of x by p, and every remainder of x by p is r
use Rattle.std.specs.Prelude.{◌≡◌, ℕ, zero, suc, ◌+◌, ◌*◌, ◌/◌, ◌%◌, ◌^◌, ◌<◌, ◌≤◌, if◌then◌else◌, bit_xor, nat_lt}

infixl 70 ◌⊗◌
-- the product of a and b, of at most n digits of b: b₀ · a + X · (a · (b / X))
unfoldable pub carryless : ℕ → ℕ → ℕ → ℕ
carryless zero a b = 0
carryless (suc n) a zero = 0
carryless (suc n) a (suc b) = bit_xor (suc b % 2 * a) (carryless n a (suc b / 2) * 2)

unfoldable pub ◌⊗◌ : ℕ → ℕ → ℕ
a ⊗ b = carryless b a b

pub record Product (m : ℕ → ℕ → ℕ) : Type 0 where
  pub left : (a b c : ℕ) → m (bit_xor a b) c ≡ bit_xor (m a c) (m b c)
  pub right : (a b c : ℕ) → m a (bit_xor b c) ≡ bit_xor (m a b) (m a c)
  pub powers : (i j : ℕ) → m (2 ^ i) (2 ^ j) ≡ 2 ^ (i + j)

pub record ProductLaw : Type 0 where
  pub is_product : Product ◌⊗◌
  pub only : (m : ℕ → ℕ → ℕ) → Product m → (a b : ℕ) → m a b ≡ a ⊗ b

abbrev pub Degree : ℕ → ℕ → Type 0
Degree k p = (2 ^ k ≤ p) × (p < 2 ^ suc k)

pub record Remainder (k p x r : ℕ) : Type 0 where
  pub small : r < 2 ^ k
  pub quotient : ℕ
  pub split : x ≡ bit_xor (quotient ⊗ p) r

pub record OnlyRemainder (k p x r : ℕ) : Type 0 where
  pub is_remainder : Remainder k p x r
  pub only : (s : ℕ) → Remainder k p x s → s ≡ r

-- p is taken away from y, of degree k at most, where y has degree k
abbrev pub fold : ℕ → ℕ → ℕ → ℕ
fold k p y = if nat_lt y (2 ^ k) then y else bit_xor y p

-- the remainder of at most n digits of x, the highest first
unfoldable pub reduce : ℕ → ℕ → ℕ → ℕ → ℕ
reduce k p zero x = 0
reduce k p (suc n) zero = 0
reduce k p (suc n) (suc x) = fold k p (reduce k p n (suc x / 2) * 2 + suc x % 2)

unfoldable pub remainder : ℕ → ℕ → ℕ → ℕ
remainder k p x = reduce k p x x
