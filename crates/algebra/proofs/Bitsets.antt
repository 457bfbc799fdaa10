-- Sets as numbers. Assumes nothing.
use Rattle.std.proofs.Common.{◌≡◌, ℕ, zero, suc, ◌+◌, ◌-◌, ◌*◌, ◌/◌, ◌%◌, ◌^◌, ◌<◌, ◌≤◌, true, false, not, ◌&&◌, ◌||◌, eqb, sym, ap, ◌∙◌, inl, inr, arith}
use native.Mathlib.Nat.{div-eq_of_lt-le}
use lib.Arith.{bin_ind}
use Rattle.std.specs.Int.{bit_at}
use Rattle.std.proofs.lemmas.Nat.Bits.{and_pow, bit_at-lt, bit_at-suc, bit_at-zero, bit_at_and, bit_at_or, bit_at_xor, bit_at-pow_same, bit_at-pow_other, bit_at_above, same_from_bits}
use lib.Bits.{bit_and, bit_or, bit_xor, xor_add_and, and_le_r}
use Rattle.std.proofs.lemmas.Bool.{eqb-true, eq-eqb, ne_eqb, cases_lt, cases_eq, cases_order, cases_Bool, both_ways, and_from, and_parts, lt-ltb}
use Rattle.std.proofs.lemmas.Bool.Decides.{nat_tests, same_from_decides}
use Rattle.algebra.specs.Sets.{has, within, inserted, removed, NoneFrom, Highest, HigherAt, Higher, Membership}

-- ---- S lies within A: each of its ranks is in A
pub within_bits : (S A : ℕ) → within S A ≡ true → (r : ℕ) → bit_at S r ≤ bit_at A r
within_bits S A e r = omega (arith, bit_at_and S A r, ap (λ x. bit_at x r) (eqb-true (bit_and S A) S e))

pub bits_within : (S A : ℕ) → ((r : ℕ) → bit_at S r ≤ bit_at A r) → within S A ≡ true
bits_within S A h = eq-eqb (bit_and S A) S (same_from_bits (bit_and S A) S (λ r. omega (arith, bit_at_and S A r, h r)))

-- a set within A is at most A
pub within_le : (S A : ℕ) → within S A ≡ true → S ≤ A
within_le S A e = omega (arith, eqb-true (bit_and S A) S e, and_le_r S A)

pub within_or : (S R A : ℕ) → within (bit_or S R) A ≡ (within S A && within R A)
within_or S R A =
    same_from_decides (within (bit_or S R) A) (within S A && within R A) (within_bits (bit_or S R) A, bits_within (bit_or S R) A) (
      λ e r. let h = and_parts _ _ e in omega (arith, bit_at_or S R r, within_bits S A h.0 r, within_bits R A h.1 r),
      λ h. and_from _ _ (bits_within S A (λ r. omega (arith, bit_at_or S R r, h r))) (bits_within R A (λ r. omega (arith, bit_at_or S R r, h r))),
    )

-- one rank
pub within_one : (n A : ℕ) → within (2 ^ n) A ≡ has A n
within_one n A =
    same_from_decides (within (2 ^ n) A) (has A n) (within_bits (2 ^ n) A, bits_within (2 ^ n) A) (
      λ e r. elim (cases_eq r n) [
        | inl f ↦ rw f (omega (arith, bit_at-pow_same n, eqb-true (bit_at A n) 1 e))
        | inr f ↦ omega (arith, bit_at-pow_other n r f)
      ],
      λ h. eq-eqb (bit_at A n) 1 (omega (arith, bit_at-pow_same n, bit_at-lt A n, h n)),
    )

-- ---- sets below the rank n
-- a number below 2^(n + 1) has the bit n where it is not below 2^n
bit_top : (S n : ℕ) → S < 2 ^ suc n → 2 ^ n ≤ S → bit_at S n ≡ 1
bit_top S n h l =
    let low : 1 * 2 ^ n ≤ S = omega arith in
    let high : S < (1 + 1) * 2 ^ n = omega arith in
    ap (λ x. x % 2) (div-eq_of_lt-le (2 ^ n) low high)

-- ---- parts of a number
pub bit_part : (S r : ℕ) → bit_at S r ≡ 1 → 2 ^ r ≤ S
bit_part S r e = elim (cases_lt S (2 ^ r)) [ inl l ↦ absurd (omega (arith, bit_at_above S r r l (omega arith))) | inr l ↦ l ]

pub has_small : (S n r : ℕ) → S < 2 ^ n → has S r ≡ true → r < n
has_small S n r h e = grind (arith, nat_tests, e, bit_at_above S n r h)

pub has_past : (S n r : ℕ) → S < 2 ^ n → n ≤ r → has S r ≡ false
has_past S n r h l = grind (arith, nat_tests, bit_at_above S n r h l)

pub has_half : (S r : ℕ) → has (S / 2) r ≡ has S (suc r)
has_half S r = ap (λ x. eqb x 1) (sym (bit_at-suc S r))

-- sets with the same ranks are the same
pub same_from_has : (S A : ℕ) → ((r : ℕ) → has S r ≡ has A r) → S ≡ A
same_from_has S A f = same_from_bits S A (λ r. grind (arith, nat_tests, bit_at-lt S r, bit_at-lt A r, f r))

-- ---- the highest rank
pub top_highest : (S r : ℕ) → 2 ^ r ≤ S → S < 2 ^ suc r → Highest S r
top_highest S r l h = (eq-eqb (bit_at S r) 1 (bit_top S r h l), λ k g. has_past S (suc r) k h (omega arith))

-- ---- the order of numbers is that of sets
higher_half : (A B : ℕ) → Higher (A / 2) (B / 2) → Higher A B
higher_half A B (r, h) =
    (suc r, (sym (has_half A r) ∙ h.0, sym (has_half B r) ∙ h.1, λ k. above k))
  where
    above : (k : ℕ) → suc r < k → has A k ≡ has B k
    above zero l = absurd (omega arith)
    above (suc k) l = sym (has_half A k) ∙ h.2 k (omega arith) ∙ has_half B k

pub lt_higher : (A B : ℕ) → B < A → Higher A B
lt_higher =
    bin_ind (λ A. (B : ℕ) → B < A → Higher A B) (λ B l. absurd (omega arith))
    (λ A ih B l. elim (cases_lt (B / 2) (A / 2)) [
      | inl g ↦ higher_half A B (ih (B / 2) g)
      | inr g ↦ let e : A / 2 ≡ B / 2 = omega arith in (0, (eq-eqb (bit_at A 0) 1 (omega arith), ne_eqb (bit_at B 0) 1 (λ x. omega arith), λ k. above A B e k))
    ])
  where
    above : (A B : ℕ) → A / 2 ≡ B / 2 → (k : ℕ) → 0 < k → has A k ≡ has B k
    above A B e zero l = absurd (omega arith)
    above A B e (suc k) l = sym (has_half A k) ∙ ap (λ x. has x k) e ∙ has_half B k

-- no set is higher than another both ways
not_both : (A B : ℕ) → Higher A B → Higher B A → ⊥
not_both A B (r, h) (s, g) =
    elim (cases_order r s) [
      | inl e ↦ both_ways (has A r) (ap (has A) e ∙ g.1) h.0
      | inr (inl l) ↦ both_ways (has A s) g.1 (h.2 s l ∙ g.0)
      | inr (inr l) ↦ both_ways (has B r) h.1 (g.2 r l ∙ h.0)
    ]

pub higher_lt : (A B : ℕ) → Higher A B → B < A
higher_lt A B h =
    elim (cases_order A B) [
      | inl e ↦ absurd (both_ways (has B h.0) h.1.1 (ap (λ x. has x h.0) (sym e) ∙ h.1.0))
      | inr (inl l) ↦ absurd (not_both A B h (lt_higher B A l))
      | inr (inr l) ↦ l
    ]

-- ---- no ranks from one on
pub none_lt : (S n : ℕ) → NoneFrom n S → S < 2 ^ n
none_lt S n f = higher_lt (2 ^ n) S (n, here)
  where
    here : HigherAt n (2 ^ n) S
    here = (
      eq-eqb (bit_at (2 ^ n) n) 1 (bit_at-pow_same n),
      f n (omega arith),
      λ k l. ap (λ x. eqb x 1) (bit_at-pow_other n k (λ e. omega arith)) ∙ sym (f k (omega arith)),
    )

pub highest_top : (S r : ℕ) → Highest S r → (2 ^ r ≤ S) × (S < 2 ^ suc r)
highest_top S r h = (bit_part S r (eqb-true (bit_at S r) 1 h.0), none_lt S (suc r) (λ k l. h.1 k (omega arith)))

-- ---- which ranks the operations have
pub has_or : (A B k : ℕ) → has (bit_or A B) k ≡ (has A k || has B k)
has_or A B k = grind (arith, nat_tests, bit_at_or A B k, bit_at-lt A k, bit_at-lt B k)

pub has_none : (k : ℕ) → has 0 k ≡ false
has_none k = ap (λ x. eqb x 1) (bit_at-zero k)

pub has_inserted : (S r k : ℕ) → r < 512 → has (inserted S r) k ≡ (eqb k r || has S k)
has_inserted S r k l =
    rw (lt-ltb r 512 l) (grind (arith, nat_tests, bit_at_or S (2 ^ r) k, bit_at-pow_same r, bit_at-pow_other r k, bit_at-lt S k))

-- a rank taken away
less_bit : (S r k : ℕ) → bit_at S r ≡ 1 → bit_at (S - 2 ^ r) k ≡ (bit_at S k + bit_at (2 ^ r) k) % 2
less_bit S r k e =
    let here : bit_and S (2 ^ r) ≡ 1 * 2 ^ r = and_pow S r ∙ ap (λ b. b * 2 ^ r) e in
    let is : S - 2 ^ r ≡ bit_xor S (2 ^ r) = omega (arith, xor_add_and S (2 ^ r), here) in
    ap (λ x. bit_at x k) is ∙ bit_at_xor S (2 ^ r) k

pub has_removed : (S r k : ℕ) → has (removed S r) k ≡ (not (eqb k r) && has S k)
has_removed S r k =
    elim (cases_Bool (has S r)) [
      | inl e ↦ rw e (grind (arith, nat_tests, less_bit S r k (eqb-true (bit_at S r) 1 e), bit_at-pow_same r, bit_at-pow_other r k, bit_at-lt S k))
      | inr e ↦ rw e (grind (arith, nat_tests, e))
    ]

pub membership : Membership
membership = record {
  none = has_none;
  insertion = has_inserted;
  removal = has_removed;
  join = has_or;
  part = λ S A e k h. grind (arith, nat_tests, within_bits S A e k, h, bit_at-lt A k);
  whole = λ S A f. bits_within S A (λ k. grind (arith, nat_tests, f k, bit_at-lt S k));
  same = same_from_has;
}
