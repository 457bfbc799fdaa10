-- Commutative rings whose elements are numbers, called codes. Assumes nothing.
--     Ring        which numbers are codes; a one, a base, sum, negative and product. Zero is the code 0
--     Code r n    n is a code of r
--     Laws r      r is a commutative ring on its codes, and these are below 2^32
--     Lawful r    the laws, and the operations answer 0 to a number that is no code
--     guarded r   r, with the answer 0 to a number that is no code
use Rattle.std.specs.Prelude.{◌≡◌, ℕ, ◌^◌, ◌<◌, Bool, ◌&&◌, IsTrue, if◌then◌else◌}

pub record Ring : Type 0 where
  pub code : ℕ → Bool
  pub one : ℕ
  pub base : ℕ
  pub sum : ℕ → ℕ → ℕ
  pub negative : ℕ → ℕ
  pub product : ℕ → ℕ → ℕ

abbrev pub Code : Ring → ℕ → Type 0
Code r n = IsTrue (r.code n)

pub record Laws (r : Ring) : Type 0 where
  pub code_below : (a : ℕ) → Code r a → a < 2 ^ 32
  pub zero_code : Code r 0
  pub one_code : Code r r.one
  pub base_code : Code r r.base
  pub sum_code : (a b : ℕ) → Code r a → Code r b → Code r (r.sum a b)
  pub negative_code : (a : ℕ) → Code r a → Code r (r.negative a)
  pub product_code : (a b : ℕ) → Code r a → Code r b → Code r (r.product a b)
  pub sum_assoc : (a b c : ℕ) → Code r a → Code r b → Code r c → r.sum (r.sum a b) c ≡ r.sum a (r.sum b c)
  pub sum_comm : (a b : ℕ) → Code r a → Code r b → r.sum a b ≡ r.sum b a
  pub sum_zero : (a : ℕ) → Code r a → r.sum a 0 ≡ a
  pub sum_negative : (a : ℕ) → Code r a → r.sum a (r.negative a) ≡ 0
  pub product_assoc : (a b c : ℕ) → Code r a → Code r b → Code r c → r.product (r.product a b) c ≡ r.product a (r.product b c)
  pub product_comm : (a b : ℕ) → Code r a → Code r b → r.product a b ≡ r.product b a
  pub product_one : (a : ℕ) → Code r a → r.product a r.one ≡ a
  pub distributes : (a b c : ℕ) → Code r a → Code r b → Code r c → r.product (r.sum a b) c ≡ r.sum (r.product a c) (r.product b c)

pub record Lawful (r : Ring) : Type 0 where
  pub laws : Laws r
  pub sum_outside : (a b : ℕ) → ¬ (Code r a × Code r b) → r.sum a b ≡ 0
  pub negative_outside : (a : ℕ) → ¬ Code r a → r.negative a ≡ 0
  pub product_outside : (a b : ℕ) → ¬ (Code r a × Code r b) → r.product a b ≡ 0

-- the answer of f where its arguments are codes, and 0 elsewhere
abbrev pub on_code : (ℕ → Bool) → (ℕ → ℕ) → ℕ → ℕ
on_code is f a = if is a then f a else 0

abbrev pub on_codes : (ℕ → Bool) → (ℕ → ℕ → ℕ) → ℕ → ℕ → ℕ
on_codes is f a b = if is a && is b then f a b else 0

abbrev pub guarded : Ring → Ring
guarded r = record {
  code = r.code;
  one = r.one;
  base = r.base;
  sum = on_codes r.code r.sum;
  negative = on_code r.code r.negative;
  product = on_codes r.code r.product;
}
