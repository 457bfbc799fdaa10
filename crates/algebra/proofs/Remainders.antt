-- The remainder by a polynomial p of degree k: it exists, it is the only one, and it keeps sums and products. Assumes nothing.
use Rattle.std.proofs.Common.{◌≡◌, ℕ, zero, suc, ◌+◌, ◌-◌, ◌*◌, ◌/◌, ◌%◌, ◌^◌, ◌<◌, ◌≤◌, sym, refl, inl, inr, ap, ◌∙◌, subst, ap₂, le_refl, not-suc-le-zero, mul-le-mul_right, suc-add, pow-suc, arith, pow_pos, pow-add, shl_lt}
use native.Mathlib.Decide.{le_ind}
use lib.Arith.{half_le, bin_ind}
use lib.Bits.{bit_xor, xor_comm, xor_assoc, xor_zero_r, xor_self, xor_lt, xor_block, xor_shifted}
use Rattle.std.proofs.lemmas.Bool.{cond_below, cond_above, cases_eq, cases_lt}
use Rattle.algebra.specs.Gf2.{◌⊗◌, Degree, Remainder, OnlyRemainder, fold, reduce, remainder}
use Rattle.algebra.proofs.Xor.{digit_below, xor_swap, xor_twice, xor_equal, xor_double, digit_lt, by_digits}
use Rattle.algebra.proofs.Product.{times_step_l, times_xor_l, times_double_l, times_comm, times_assoc, times_power, one_times, zero_times}

-- ---- the steps of the recursion

fold_low : (k p y : ℕ) → y < 2 ^ k → fold k p y ≡ y
fold_low k p y h = sym (cond_below y (2 ^ k) y (bit_xor y p) h)

fold_high : (k p y : ℕ) → 2 ^ k ≤ y → fold k p y ≡ bit_xor y p
fold_high k p y h = sym (cond_above y (2 ^ k) y (bit_xor y p) (bit_xor y p) h refl)

more : (k p n x : ℕ) → x ≤ n → reduce k p (suc n) x ≡ reduce k p n x
unfolding reduce
more k p zero zero h = refl
more k p zero (suc x) h = absurd (not-suc-le-zero h)
more k p (suc n) zero h = refl
more k p (suc n) (suc x) h = ap (λ (r : ℕ). fold k p (r * 2 + suc x % 2)) (more k p n (suc x / 2) (half_le h))

enough : (k p n x : ℕ) → x ≤ n → reduce k p n x ≡ reduce k p x x
enough k p n x h = le_ind (λ (m : ℕ). reduce k p m x ≡ reduce k p x x) refl (λ m l e. more k p m x l ∙ e) n h

remainder_zero : (k p : ℕ) → remainder k p 0 ≡ 0
unfolding remainder reduce
remainder_zero k p = refl

remainder_step : (k p x : ℕ) → remainder k p x ≡ fold k p (remainder k p (x / 2) * 2 + x % 2)
unfolding remainder reduce
remainder_step k p zero = sym (fold_low k p 0 (pow_pos k))
remainder_step k p (suc x) = ap (λ (r : ℕ). fold k p (r * 2 + suc x % 2)) (enough k p x (suc x / 2) (half_le (le_refl (suc x))))

-- ---- degrees

-- the highest coefficients cancel
pub tops : (k y p : ℕ) → Degree k y → Degree k p → bit_xor y p < 2 ^ k
tops k y p (ly, hy) (lp, hp) =
    let s = pow-suc 2 k in
    let a : y - 2 ^ k < 2 ^ k = omega arith in
    let b : p - 2 ^ k < 2 ^ k = omega arith in
    let ey : y ≡ 1 * 2 ^ k + (y - 2 ^ k) = omega arith in
    let ep : p ≡ 1 * 2 ^ k + (p - 2 ^ k) = omega arith in
    let e = ap₂ bit_xor ey ep ∙ xor_block k 1 1 (y - 2 ^ k) (p - 2 ^ k) a b in
    let l = xor_lt k (y - 2 ^ k) (p - 2 ^ k) a b in
    omega (arith, e, l)

-- X^i · p has the degree of p and i more
pub shift_degree : (k p i : ℕ) → Degree k p → Degree (k + i) (p * 2 ^ i)
shift_degree k p i (low, high) = (
  subst (λ (n : ℕ). n ≤ p * 2 ^ i) (sym (pow-add 2 k i)) (mul-le-mul_right (2 ^ i) low),
  subst (λ (n : ℕ). p * 2 ^ i < 2 ^ n) (suc-add k i) (shl_lt (suc k) i high),
)

module _ (k p : ℕ) (deg : Degree k p) where
  -- a multiple of p but 0 has degree k at least
  multiple : (q : ℕ) → (q ≡ 0 → ⊥) → 2 ^ k ≤ q ⊗ p
  multiple = bin_ind (λ (n : ℕ). (n ≡ 0 → ⊥) → 2 ^ k ≤ n ⊗ p) (λ ne. absurd (ne refl)) step
    where
      -- the product has the degree of its upper part, whatever the lowest digit adds
      upper : (n : ℕ) → 2 ^ k ≤ (n / 2) ⊗ p → n ⊗ p < 2 ^ k → ⊥
      upper n big l =
          let m = (n / 2) ⊗ p in
          let c = n % 2 * p in
          let s = pow-suc 2 k in
          let small : c < 2 ^ suc k = digit_below (suc k) p (n % 2) deg.1 (digit_lt n) in
          let l' : n ⊗ p < 2 ^ suc k = omega arith in
          let e : bit_xor c (n ⊗ p) ≡ m * 2 = ap (bit_xor c) (times_step_l n p) ∙ xor_twice c (m * 2) in
          let b = xor_lt (suc k) c (n ⊗ p) small l' in
          omega (arith, e, b)

      step : (n : ℕ) → ((n / 2 ≡ 0 → ⊥) → 2 ^ k ≤ (n / 2) ⊗ p) → (n ≡ 0 → ⊥) → 2 ^ k ≤ n ⊗ p
      step n ih ne =
          elim (cases_eq (n / 2) 0) [
            | inl e ↦
                let one : n ≡ 1 = omega arith in
                subst (λ (x : ℕ). 2 ^ k ≤ x) (sym (ap (λ (x : ℕ). x ⊗ p) one ∙ one_times p)) deg.0
            | inr f ↦ elim (cases_lt (n ⊗ p) (2 ^ k)) [ inl l ↦ absurd (upper n (ih f) l) | inr g ↦ g ]
          ]

  -- ---- the remainder exists

  next : (x r : ℕ) → Remainder k p (x / 2) r → Remainder k p x (fold k p (r * 2 + x % 2))
  next x r h = elim (cases_lt y (2 ^ k)) [
    | inl l ↦ subst (Remainder k p x) (sym (fold_low k p y l)) (record { small = l; quotient = d; split = whole })
    | inr g ↦ folded g
  ]
    where
      y : ℕ
      y = r * 2 + x % 2

      d : ℕ
      d = h.quotient * 2

      whole : x ≡ bit_xor (d ⊗ p) y
      whole =
          by_digits x
          ∙ ap (λ (z : ℕ). bit_xor (x % 2) (z * 2)) h.split
          ∙ ap (bit_xor (x % 2)) (sym (xor_double (h.quotient ⊗ p) r) ∙ ap (λ (z : ℕ). bit_xor z (r * 2)) (sym (times_double_l h.quotient p)))
          ∙ xor_comm (x % 2) (bit_xor (d ⊗ p) (r * 2))
          ∙ xor_assoc (d ⊗ p) (r * 2) (x % 2)
          ∙ ap (bit_xor (d ⊗ p)) (xor_shifted r 1 (x % 2) (digit_lt x))

      folded : 2 ^ k ≤ y → Remainder k p x (fold k p y)
      folded g =
          let s = pow-suc 2 k in
          let rs = h.small in
          let b : y < 2 ^ suc k = omega (arith, digit_lt x) in
          subst (Remainder k p x) (sym (fold_high k p y g)) (record {
            small = tops k y p (g, b) deg;
            quotient = bit_xor d 1;
            split =
                whole
                ∙ sym (ap (λ (z : ℕ). bit_xor z (bit_xor y p)) (times_xor_l d 1 p ∙ ap (bit_xor (d ⊗ p)) (one_times p))
                ∙ xor_swap (d ⊗ p) p y p ∙ ap (bit_xor (bit_xor (d ⊗ p) y)) (xor_self p) ∙ xor_zero_r (bit_xor (d ⊗ p) y));
          })

  pub exists : (x : ℕ) → Remainder k p x (remainder k p x)
  exists =
      bin_ind (λ (n : ℕ). Remainder k p n (remainder k p n))
      (record { small = subst (λ (r : ℕ). r < 2 ^ k) (sym (remainder_zero k p)) (pow_pos k); quotient = 0; split = sym (ap₂ bit_xor (zero_times p) (remainder_zero k p)) })
      (λ n ih. subst (Remainder k p n) (sym (remainder_step k p n)) (next n (remainder k p (n / 2)) ih))

  -- ---- and is the only one

  unique : {x r s : ℕ} → Remainder k p x r → Remainder k p x s → r ≡ s
  unique {x} {r} {s} h g = xor_equal r s (
      elim (cases_eq (bit_xor h.quotient g.quotient) 0) [
        | inl z ↦ e ∙ ap (λ (q : ℕ). q ⊗ p) z ∙ zero_times p
        | inr f ↦
            let l = xor_lt k r s h.small g.small in
            let m = multiple (bit_xor h.quotient g.quotient) f in
            absurd (omega (arith, e, l, m))
      ])
    where
      a : ℕ
      a = h.quotient ⊗ p

      b : ℕ
      b = g.quotient ⊗ p

      -- the two differ by a multiple of p
      e : bit_xor r s ≡ bit_xor h.quotient g.quotient ⊗ p
      e =
          sym (xor_twice (bit_xor a b) (bit_xor r s))
          ∙ ap (bit_xor (bit_xor a b)) (xor_swap a b r s ∙ ap₂ bit_xor (sym h.split) (sym g.split) ∙ xor_self x)
          ∙ xor_zero_r (bit_xor a b)
          ∙ sym (times_xor_l h.quotient g.quotient p)

  remainder_is : {x r : ℕ} → Remainder k p x r → remainder k p x ≡ r
  remainder_is {x} h = unique (exists x) h

  -- ---- sums and products

  pub remainder_small : (x : ℕ) → x < 2 ^ k → remainder k p x ≡ x
  remainder_small x l = remainder_is (record { small = l; quotient = 0; split = sym (ap (λ (z : ℕ). bit_xor z x) (zero_times p)) })

  pub remainder_xor : (x y : ℕ) → remainder k p (bit_xor x y) ≡ bit_xor (remainder k p x) (remainder k p y)
  remainder_xor x y =
      let h = exists x in
      let g = exists y in
      remainder_is (record {
        small = xor_lt k (remainder k p x) (remainder k p y) h.small g.small;
        quotient = bit_xor h.quotient g.quotient;
        split =
            ap₂ bit_xor h.split g.split
            ∙ xor_swap (h.quotient ⊗ p) (remainder k p x) (g.quotient ⊗ p) (remainder k p y)
            ∙ ap (λ (z : ℕ). bit_xor z (bit_xor (remainder k p x) (remainder k p y))) (sym (times_xor_l h.quotient g.quotient p));
      })

  remainder_multiple : (q : ℕ) → remainder k p (q ⊗ p) ≡ 0
  remainder_multiple q = remainder_is (record { small = pow_pos k; quotient = q; split = sym (xor_zero_r (q ⊗ p)) })

  pub remainder_times : (x y : ℕ) → remainder k p (remainder k p x ⊗ y) ≡ remainder k p (x ⊗ y)
  remainder_times x y =
      let h = exists x in
      let q = h.quotient in
      sym (ap (remainder k p)
      (ap (λ (z : ℕ). z ⊗ y) h.split ∙ times_xor_l (q ⊗ p) (remainder k p x) y
      ∙ ap (λ (z : ℕ). bit_xor z (remainder k p x ⊗ y)) (times_assoc q p y ∙ ap (λ (z : ℕ). q ⊗ z) (times_comm p y) ∙ sym (times_assoc q y p)))
      ∙ remainder_xor (q ⊗ y ⊗ p) (remainder k p x ⊗ y)
      ∙ ap (λ (z : ℕ). bit_xor z (remainder k p (remainder k p x ⊗ y))) (remainder_multiple (q ⊗ y)))

  pub remainder_times_r : (x y : ℕ) → remainder k p (x ⊗ remainder k p y) ≡ remainder k p (x ⊗ y)
  remainder_times_r x y =
      ap (remainder k p) (times_comm x (remainder k p y)) ∙ remainder_times y x ∙ ap (remainder k p) (times_comm y x)

  -- a multiple by a power of X may be taken away
  pub remainder_shift : (x i : ℕ) → remainder k p (bit_xor x (p * 2 ^ i)) ≡ remainder k p x
  remainder_shift x i =
      remainder_xor x (p * 2 ^ i)
      ∙ ap (bit_xor (remainder k p x)) (ap (remainder k p) (sym (times_power p i) ∙ times_comm p (2 ^ i)) ∙ remainder_multiple (2 ^ i))
      ∙ xor_zero_r (remainder k p x)

  pub only_remainder : (x : ℕ) → OnlyRemainder k p x (remainder k p x)
  only_remainder x = record { is_remainder = exists x; only = λ s h. unique h (exists x) }
