-- Words of 64 bits as one number: what one word, or all words together, say of the number.
use Rattle.std.proofs.Common.{◌≡◌, ℕ, zero, suc, ◌+◌, ◌-◌, ◌*◌, ◌/◌, ◌%◌, ◌^◌, ◌<◌, ◌≤◌, Bool, false, nat_eq, not, ◌&&◌, ◌||◌, eqb, List, [], ◌∷◌, length, get_or, set, fold, sym, refl, ap, ◌∙◌, subst, ap₂, inl, inr, arith, pow_pos, pow-add, shr-shr}
use lib.Bits.{bit_or, bit_and, and_block, and_lt, and_le_l, and_comm, or_lt, or_add_and}
use Rattle.std.proofs.lemmas.List.{get_or-set_other, get_or_past, ext_get_or}
use Rattle.std.proofs.lemmas.Grind.{get_or-set_at, common_steps}
use Rattle.std.proofs.lemmas.Bool.{cases_lt, cases_eq, eq-eqb, ne_eqb}
use Rattle.std.proofs.lemmas.Nat.{one_shl, and-not, le_or_l, le_or_r}
use Rattle.std.specs.Int.{bit_at, w64, trailing_zeros}
use Rattle.std.proofs.lemmas.Nat.Bits.{and_pow, bit_at-zero, bit_at_cat_low, bit_at_cat_high, bit_at_set_same, bit_at_set_other, bit_at_clear_same, bit_at_clear_other, bit_at-trailing_zeros}
use Rattle.std.proofs.lemmas.Bool.Decides.{nat_tests}
use Rattle.std.specs.declared.cmp.Ordering.{Ordering}
use Rattle.std.specs.declared.cmp.Ordering.TheVariants.{Less, Equal, Greater}
use Rattle.std.specs.Ordering.{MatchOrdering, nat_cmp}
use Rattle.std.specs.List.{zip}
use Rattle.std.specs.Cmp.{ranks}
use Rattle.std.specs.Cmp.Lexicographic.{pointwise}
use Rattle.algebra.specs.Sets.{has, within, inserted, removed, LowestFrom, Highest, HigherAt, Higher}
use Rattle.algebra.proofs.Bitsets.{top_highest, same_from_has, lt_higher, has_or, has_none, has_inserted, has_removed, has_small, higher_lt}
use Rattle.sets.specs.Words.{value, Sized, SameFrom, Blank}

abbrev pub Words : List ℕ → Type 0
Words xs = (k : ℕ) → get_or xs k 0 < 2 ^ 64

-- the low word and the rest
turned : (x v : ℕ) → x + 2 ^ 64 * v ≡ v * 2 ^ 64 + x
turned x v = omega arith

-- rank i * 64 + j is bit j of word i
value_bit : (xs : List ℕ) (i j : ℕ) → Words xs → j < 64 → bit_at (value xs) (i * 64 + j) ≡ bit_at (get_or xs i 0) j
value_bit [] i j h l = bit_at-zero (i * 64 + j) ∙ sym (bit_at-zero j)
value_bit (x ∷ xs) zero j h l =
    let e : 0 * 64 + j ≡ j = omega arith in
    ap₂ bit_at (turned x (value xs)) e ∙ bit_at_cat_low (value xs) 64 x j l
value_bit (x ∷ xs) (suc i) j h l =
    let e : suc i * 64 + j - 64 ≡ i * 64 + j = omega arith in
    ap (λ n. bit_at n (suc i * 64 + j)) (turned x (value xs))
    ∙ bit_at_cat_high (value xs) 64 x (suc i * 64 + j) (h 0) (omega arith)
    ∙ ap (bit_at (value xs)) e ∙ value_bit xs i j (λ k. h (suc k)) l

value_rank : (xs : List ℕ) (r : ℕ) → Words xs → bit_at (value xs) r ≡ bit_at (get_or xs (r / 64) 0) (r % 64)
value_rank xs r h = ap (λ x. bit_at (value xs) x) (omega arith) ∙ value_bit xs (r / 64) (r % 64) h (omega arith)

has_word : (xs : List ℕ) (r : ℕ) → Words xs → has (value xs) r ≡ has (get_or xs (r / 64) 0) (r % 64)
has_word xs r h = ap (λ x. eqb x 1) (value_rank xs r h)

value_below : (xs : List ℕ) → Words xs → value xs < 2 ^ (length xs * 64)
value_below [] h = pow_pos (0 * 64)
value_below (x ∷ xs) h =
    let t = value_below xs (λ k. h (suc k)) in
    let e : 2 ^ (suc (length xs) * 64) ≡ 2 ^ (length xs * 64) * 2 ^ 64 = ap (λ n. 2 ^ n) (omega arith) ∙ pow-add 2 (length xs * 64) 64 in
    omega (arith, h 0)

pub value_lt : (xs : List ℕ) → Sized xs → value xs < 2 ^ 512
value_lt xs s =
    let e : length xs * 64 ≡ 512 = omega (arith, s.0) in
    subst (λ n. value xs < 2 ^ n) e (value_below xs s.1)

-- words of one number are the same
pub pointwise-value : (xs ys : List ℕ) → length xs ≡ length ys → Words xs → Words ys → pointwise nat_eq xs ys ≡ nat_eq (value xs) (value ys)
pointwise-value [] [] l h g = refl
pointwise-value [] (y ∷ ys) l h g = absurd (omega arith)
pointwise-value (x ∷ xs) [] l h g = absurd (omega arith)
pointwise-value (x ∷ xs) (y ∷ ys) l h g =
    ap (λ b. nat_eq x y && b) (pointwise-value xs ys (omega arith) (λ k. h (suc k)) (λ k. g (suc k))) ∙ grind (arith, nat_tests, h 0, g 0)

pub value_same : (xs ys : List ℕ) → length xs ≡ length ys → Words xs → Words ys → value xs ≡ value ys → xs ≡ ys
value_same [] [] l h g e = refl
value_same [] (y ∷ ys) l h g e = absurd (omega arith)
value_same (x ∷ xs) [] l h g e = absurd (omega arith)
value_same (x ∷ xs) (y ∷ ys) l h g e =
    let d : x ≡ y = omega (arith, h 0, g 0) in
    let q : value xs ≡ value ys = omega (arith, h 0, g 0) in
    ap₂ (λ v vs. v ∷ vs) d (value_same xs ys (omega arith) (λ k. h (suc k)) (λ k. g (suc k)) q)

-- ---- a rank in its word
-- the word of rank r, and the rank's bit in it, as the code shifts it there
abbrev pub word : List ℕ → ℕ → ℕ
word xs r = get_or xs (r / 64) 0

abbrev flag : ℕ → ℕ
flag r = 1 * 2 ^ (r % 64) % 2 ^ 64

flag_is : (r : ℕ) → flag r ≡ 2 ^ (r % 64)
flag_is r = one_shl (r % 64) 64 (omega arith)

not_zero : (b p : ℕ) → b < 2 → 0 < p → not (nat_eq (b * p) 0) ≡ nat_eq b 1
not_zero zero p l h = ap not (eq-eqb (0 * p) 0 (omega arith))
not_zero (suc zero) p l h = ap not (ne_eqb (1 * p) 0 (λ e. omega arith))
not_zero (suc (suc b)) p l h = absurd (omega arith)

-- the test of bit j of word i, which are those of rank r
pub value_has : (xs : List ℕ) (r i j : ℕ) → Words xs → i ≡ r / 64 → j ≡ r % 64 → not (nat_eq (bit_and (get_or xs i 0) (1 * 2 ^ j % 2 ^ 64)) 0) ≡ has (value xs) r
value_has xs r i j h e d =
    ap₂ (λ k n. not (nat_eq (bit_and (get_or xs k 0) (1 * 2 ^ n % 2 ^ 64)) 0)) e d
    ∙ ap (λ x. not (nat_eq x 0)) (ap (bit_and (word xs r)) (flag_is r) ∙ and_pow (word xs r) (r % 64))
    ∙ not_zero (bit_at (word xs r) (r % 64)) (2 ^ (r % 64)) (omega arith) (pow_pos (r % 64)) ∙ sym (has_word xs r h)

set_fits : (xs : List ℕ) (i w : ℕ) → Words xs → i < length xs → w < 2 ^ 64 → Words (set xs i w)
set_fits xs i w h l g k = grind (arith, common_steps, h k)

same_test : (k r : ℕ) → k / 64 ≡ r / 64 → eqb (k % 64) (r % 64) ≡ eqb k r
same_test k r e = grind (arith, nat_tests)

-- where op changes one rank of a number as f says, it does so in the rank's word
module _ (op : ℕ → ℕ → ℕ) (f : Bool → Bool → Bool) where
  abbrev ChangesRank : Type 0
  ChangesRank = ((S r k : ℕ) → r < 512 → has (op S r) k ≡ f (eqb k r) (has S k)) × ((b : Bool) → f false b ≡ b)

  value_set : ChangesRank → (xs : List ℕ) (r w : ℕ) → Sized xs → r < 512 → w < 2 ^ 64 → ((k : ℕ) → k < 64 → has w k ≡ f (eqb k (r % 64)) (has (word xs r) k))
      → value (set xs (r / 64) w) ≡ op (value xs) r
  value_set c xs r w s l h e =
      let i : r / 64 < length xs = omega (arith, s.0) in
      let ys = set xs (r / 64) w in
      let fits = set_fits xs (r / 64) w s.1 i h in
      same_from_has (value ys) (op (value xs) r) (λ k. has_word ys k fits ∙ elim (cases_eq (k / 64) (r / 64)) [
        | inl d ↦
            ap (λ x. has x (k % 64)) (get_or-set_at xs (r / 64) (k / 64) w 0 d i)
            ∙ e (k % 64) (omega arith)
            ∙ ap₂ f (same_test k r d) (ap (λ n. has (get_or xs n 0) (k % 64)) (sym d) ∙ sym (has_word xs k s.1))
            ∙ sym (c.0 (value xs) r k l)
        | inr d ↦
            ap (λ x. has x (k % 64)) (get_or-set_other xs (r / 64) (k / 64) w 0 d)
            ∙ sym (has_word xs k s.1) ∙ sym (c.1 (has (value xs) k))
            ∙ ap (λ b. f b (has (value xs) k)) (sym (ne_eqb k r (λ q. d (ap (λ n. n / 64) q))))
            ∙ sym (c.0 (value xs) r k l)
      ])

pub value_insert : (xs : List ℕ) (r : ℕ) → Sized xs → r < 512 → value (set xs (r / 64) (bit_or (word xs r) (flag r))) ≡ inserted (value xs) r
value_insert xs r s l =
    value_set inserted (λ x y. x || y) (has_inserted, λ b. refl) xs r (bit_or (word xs r) (flag r)) s l
    (or_lt 64 (word xs r) (flag r) (s.1 (r / 64)) (omega arith))
    (λ k m. grind (arith, nat_tests, bit_at_set_same w64 (word xs r) (r % 64) (omega arith), bit_at_set_other w64 (word xs r) (r % 64) (omega arith) k))

pub value_remove : (xs : List ℕ) (r : ℕ) → Sized xs → r < 512 → value (set xs (r / 64) (bit_and (word xs r) (2 ^ 64 - 1 - flag r))) ≡ removed (value xs) r
value_remove xs r s l =
    value_set removed (λ x y. not x && y) (λ S r k _. has_removed S r k, λ b. refl) xs r (bit_and (word xs r) (2 ^ 64 - 1 - flag r)) s l
    (omega (arith, and_le_l (word xs r) (2 ^ 64 - 1 - flag r), s.1 (r / 64)))
    (λ k m. grind (arith, nat_tests, bit_at_clear_same w64 (word xs r) (r % 64) (omega arith), bit_at_clear_other w64 (word xs r) (r % 64) (omega arith) k m))

-- ---- word by word
pub value_or : (xs ys zs : List ℕ) → Words xs → Words ys → ((k : ℕ) → get_or zs k 0 ≡ bit_or (get_or xs k 0) (get_or ys k 0))
    → value zs ≡ bit_or (value xs) (value ys)
value_or xs ys zs h g e =
    let fits : Words zs = λ k. omega (arith, e k, or_lt 64 (get_or xs k 0) (get_or ys k 0) (h k) (g k)) in
    same_from_has (value zs) (bit_or (value xs) (value ys)) (λ r.
    has_word zs r fits ∙ ap (λ w. has w (r % 64)) (e (r / 64)) ∙ has_or (word xs r) (word ys r) (r % 64)
    ∙ sym (has_or (value xs) (value ys) r ∙ ap₂ (λ x y. x || y) (has_word xs r h) (has_word ys r g)))

-- words taken together by `|` are 0 where each of them is
or_zero : (a b : ℕ) → nat_eq (bit_or a b) 0 ≡ (nat_eq a 0 && nat_eq b 0)
or_zero a b = grind (arith, nat_tests, le_or_l a b, le_or_r a b, or_add_and a b)

-- the ranks of a word that another lacks
abbrev pub lacking : ℕ × ℕ → ℕ
lacking p = bit_and p.0 (2 ^ 64 - 1 - p.1)

within_more : (x y v u : ℕ) → x < 2 ^ 64 → y < 2 ^ 64 → (within x y && within v u) ≡ within (x + 2 ^ 64 * v) (y + 2 ^ 64 * u)
within_more x y v u h g =
    let small = and_lt 64 x y h g in
    let parts : bit_and (x + 2 ^ 64 * v) (y + 2 ^ 64 * u) ≡ bit_and x y + 2 ^ 64 * bit_and v u =
    ap₂ bit_and (turned x v) (turned y u) ∙ and_block 64 v u x y h g ∙ omega arith in
    grind (arith, nat_tests, parts, small)

lacking_none : (x y : ℕ) → x < 2 ^ 64 → y < 2 ^ 64 → nat_eq (lacking (x, y)) 0 ≡ within x y
lacking_none x y h g = grind (arith, nat_tests, and-not 64 y x g h, and_comm x y, and_comm x (2 ^ 64 - 1 - y))

pub fold-within : (a : ℕ) (xs ys : List ℕ) → length xs ≡ length ys → Words xs → Words ys
    → nat_eq (fold (λ bits p. bit_or bits (lacking p)) a (zip xs ys)) 0 ≡ (nat_eq a 0 && within (value xs) (value ys))
fold-within a [] [] l h g = grind (arith, nat_tests)
fold-within a [] (y ∷ ys) l h g = absurd (omega arith)
fold-within a (x ∷ xs) [] l h g = absurd (omega arith)
fold-within a (x ∷ xs) (y ∷ ys) l h g =
    fold-within (bit_or a (lacking (x, y))) xs ys (omega arith) (λ k. h (suc k)) (λ k. g (suc k))
    ∙ ap (λ b. b && within (value xs) (value ys)) (or_zero a (lacking (x, y)))
    ∙ grind (arith, nat_tests, lacking_none x y (h 0) (g 0), within_more x y (value xs) (value ys) (h 0) (g 0))

-- ---- the lowest and the highest rank, and where two sets differ
pub none_here : (xs : List ℕ) → ((k : ℕ) → k < length xs → get_or xs k 0 ≡ 0) → value xs ≡ 0
none_here [] z = refl
none_here (x ∷ xs) z = omega (arith, z 0 (omega arith), none_here xs (λ k l. z (suc k) (omega arith)))

-- the bits of a word from bit j on
bit_from : (x j m : ℕ) → bit_at x (j + m) ≡ bit_at (x / 2 ^ j) m
bit_from x j m = ap (λ z. z % 2) (sym (shr-shr x j m))

-- a word with nothing from bit j on
pub none_word : (xs : List ℕ) (i j : ℕ) → Words xs → get_or xs i 0 / 2 ^ j ≡ 0 → (k : ℕ) → i * 64 + j ≤ k → k < i * 64 + 64 → has (value xs) k ≡ false
none_word xs i j h z k g l =
    let m = k - (i * 64 + j) in
    let o : k ≡ i * 64 + (j + m) = omega arith in
    ap (λ x. eqb x 1) (ap (bit_at (value xs)) o ∙ value_bit xs i (j + m) h (omega arith) ∙ bit_from (get_or xs i 0) j m ∙ ap (λ x. bit_at x m) z ∙ bit_at-zero m)

-- no rank from m on before word n, where the words from that of m on have none
pub none_between : (xs : List ℕ) (m n : ℕ) → Words xs → get_or xs (m / 64) 0 / 2 ^ (m % 64) ≡ 0 → Blank (m / 64 + 1) n xs
    → (k : ℕ) → m ≤ k → k < n * 64 → has (value xs) k ≡ false
none_between xs m n h e z k g l = elim (cases_lt (m / 64) (k / 64)) [
  | inl d ↦ none_word xs (k / 64) 0 h (omega (arith, z (k / 64) (omega arith) (omega arith))) k (omega arith) (omega arith)
  | inr d ↦ none_word xs (m / 64) (m % 64) h e k (omega arith) (omega arith)
]

-- the first word with something from bit j on has the lowest rank from m on, where the set has none before that bit
pub lowest_here : (xs : List ℕ) (m i j k : ℕ) → Words xs → 0 < get_or xs i 0 / 2 ^ j → m ≤ i * 64 + j → ((n : ℕ) → m ≤ n → n < i * 64 + j → has (value xs) n ≡ false)
    → k ≡ i * 64 + j + trailing_zeros w64 (get_or xs i 0 / 2 ^ j) → LowestFrom m (value xs) k
lowest_here xs m i j k h p l z e =
    let x = get_or xs i 0 in
    let t = trailing_zeros w64 (x / 2 ^ j) in
    let f = bit_at-trailing_zeros w64 (x / 2 ^ j) p (omega (arith, h i)) in
    let b : bit_at x (j + t) ≡ 1 = bit_from x j t ∙ f.1 in
    let u : j + t < 64 = has_small x 64 (j + t) (h i) (eq-eqb (bit_at x (j + t)) 1 b) in
    let o : k ≡ i * 64 + (j + t) = omega arith in (
      omega arith,
      eq-eqb (bit_at (value xs) k) 1 (ap (bit_at (value xs)) o ∙ value_bit xs i (j + t) h u ∙ b),
      λ n g d. elim (cases_lt n (i * 64 + j)) [
        | inl c ↦ z n g c
        | inr c ↦
            let q = n - (i * 64 + j) in
            let a : n ≡ i * 64 + (j + q) = omega arith in
            ap (λ y. eqb y 1) (ap (bit_at (value xs)) a ∙ value_bit xs i (j + q) h (omega (arith, u)) ∙ bit_from x j q ∙ f.2 q (omega arith))
      ],
    )

-- where words differ in word i and in none above, that word decides
higher_at : (xs ys : List ℕ) (i j : ℕ) → Words xs → Words ys → j < 64 → ((k : ℕ) → i < k → get_or xs k 0 ≡ get_or ys k 0)
    → HigherAt j (get_or xs i 0) (get_or ys i 0) → HigherAt (i * 64 + j) (value xs) (value ys)
higher_at xs ys i j s t l f h = (
  ap (λ x. eqb x 1) (value_bit xs i j s l) ∙ h.0,
  ap (λ x. eqb x 1) (value_bit ys i j t l) ∙ h.1,
  λ k g. has_word xs k s ∙ elim (cases_lt i (k / 64)) [
    | inl d ↦ ap (λ w. has w (k % 64)) (f (k / 64) d)
    | inr d ↦
        let e : k / 64 ≡ i = omega arith in
        ap (λ n. has (get_or xs n 0) (k % 64)) e ∙ h.2 (k % 64) (omega arith) ∙ ap (λ n. has (get_or ys n 0) (k % 64)) (sym e)
  ] ∙ sym (has_word ys k t),
)

pub highest_here : (xs : List ℕ) (i j r : ℕ) → Sized xs → j < 64 → 2 ^ j ≤ get_or xs i 0 → get_or xs i 0 < 2 * 2 ^ j
    → ((k : ℕ) → i < k → k < 8 → get_or xs k 0 ≡ 0) → r ≡ i * 64 + j → Highest (value xs) r
highest_here xs i j r s l p q z e =
    subst (Highest (value xs)) (sym e) (
    let t = top_highest (get_or xs i 0) j p (omega (arith, q)) in
    let h = higher_at xs [] i j s.1 (λ k. omega arith) l above (t.0, has_none j, λ k g. t.1 k g ∙ sym (has_none k)) in
    (h.0, λ k g. h.2 k g ∙ has_none k))
  where
    above : (k : ℕ) → i < k → get_or xs k 0 ≡ 0
    above k d = elim (cases_lt k 8) [ inl h ↦ z k d h | inr h ↦ get_or_past xs k 0 (omega (arith, s.0)) ]

higher_here : (xs ys : List ℕ) (i : ℕ) → Sized xs → Sized ys → SameFrom (i + 1) xs ys → get_or ys i 0 < get_or xs i 0 → Higher (value xs) (value ys)
higher_here xs ys i s t f l =
    let (j, h) = lt_higher (get_or xs i 0) (get_or ys i 0) l in
    (i * 64 + j, higher_at xs ys i j s.1 t.1 (has_small (get_or xs i 0) 64 j (s.1 i) h.0) above h)
  where
    above : (k : ℕ) → i < k → get_or xs k 0 ≡ get_or ys k 0
    above k d = elim (cases_lt k 8) [
      | inl h ↦ f k (omega arith) h
      | inr h ↦ get_or_past xs k 0 (omega (arith, s.0)) ∙ sym (get_or_past ys k 0 (omega (arith, t.0)))
    ]

pub same_words : (xs ys : List ℕ) → Sized xs → Sized ys → SameFrom 0 xs ys → value xs ≡ value ys
same_words xs ys s t f = ap value (ext_get_or 0 xs ys (omega (arith, s.0, t.0)) (λ k l. f k (omega arith) (omega (arith, s.0))))

abbrev pub RanksDecide : Ordering → ℕ → ℕ → Type 0
RanksDecide o A B = MatchOrdering o (Higher B A) (A ≡ B) (Higher A B)

pub decided_here : (xs ys : List ℕ) (i : ℕ) → Sized xs → Sized ys → SameFrom (i + 1) xs ys → (get_or xs i 0 ≡ get_or ys i 0 → ⊥)
    → RanksDecide (nat_cmp (get_or xs i 0) (get_or ys i 0)) (value xs) (value ys)
decided_here xs ys i s t f n = go (nat_cmp (get_or xs i 0) (get_or ys i 0)) (ranks (get_or xs i 0) (get_or ys i 0))
  where
    go : (o : Ordering) → MatchOrdering o (get_or xs i 0 < get_or ys i 0) (get_or xs i 0 ≡ get_or ys i 0) (get_or ys i 0 < get_or xs i 0)
        → RanksDecide o (value xs) (value ys)
    go Less l = higher_here ys xs i t s (λ k g h. sym (f k g h)) l
    go Equal e = absurd (n e)
    go Greater l = higher_here xs ys i s t f l

pub numbers_decide : (o : Ordering) (A B : ℕ) → RanksDecide o A B → MatchOrdering o (A < B) (A ≡ B) (B < A)
numbers_decide Less A B h = higher_lt B A h
numbers_decide Equal A B e = e
numbers_decide Greater A B h = higher_lt A B h
