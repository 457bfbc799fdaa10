-- Reading and writing a polynomial: what a write changes, that it keeps the form, that equal numbers make equal lists.
use Rattle.std.proofs.Common.{◌≡◌, ℕ, zero, suc, ◌<◌, ◌≤◌, cond, eqb, [], ◌∷◌, sym, refl, ap, ◌∙◌, inl, inr, arith}
use Rattle.std.proofs.lemmas.Bool.{lt-ltb, le-ltb, eq-eqb, ne_eqb, cases_order, cases_eq, cases_lt}
use Rattle.std.proofs.lemmas.Bool.Decides.{nat_tests}
use Rattle.algebra.specs.Poly.{Poly, at, front, put, Above, Rising}

pub put_below : (t : ℕ × ℕ) (p : Poly) (S v : ℕ) → S < t.0 → put (t ∷ p) S v ≡ front S v (t ∷ p)
put_below t p S v h = rw (lt-ltb S t.0 h)

pub put_here : (t : ℕ × ℕ) (p : Poly) (S v : ℕ) → S ≡ t.0 → put (t ∷ p) S v ≡ front S v p
put_here t p S v h = rw (le-ltb S t.0 (omega arith), eq-eqb S t.0 h)

pub put_above : (t : ℕ × ℕ) (p : Poly) (S v : ℕ) → t.0 < S → put (t ∷ p) S v ≡ t ∷ put p S v
put_above t p S v h = rw (le-ltb S t.0 (omega arith), ne_eqb S t.0 (λ e. omega arith))

-- what holds of a write in each of its three cases
pub put_cases : (P : Poly → Type 0) (t : ℕ × ℕ) (p : Poly) (S v : ℕ) → (S ≡ t.0 → P (front S v p)) → (S < t.0 → P (front S v (t ∷ p)))
    → (t.0 < S → P (t ∷ put p S v)) → P (put (t ∷ p) S v)
put_cases P t p S v here below above =
    elim (cases_order S t.0) [
      | inl e ↦ rw (put_here t p S v e) (here e)
      | inr (inl l) ↦ rw (put_below t p S v l) (below l)
      | inr (inr l) ↦ rw (put_above t p S v l) (above l)
    ]

-- ---- reading
pub at_over : (p : Poly) (S : ℕ) → Above S p → at p S ≡ 0
at_over [] S h = refl
at_over (t ∷ p) S h = rw (ne_eqb t.0 S (λ e. omega arith)) (at_over p S h.1)

at_front : (p : Poly) (S v : ℕ) → Above S p → (R : ℕ) → at (front S v p) R ≡ cond (eqb S R) v (at p R)
at_front p S zero h R = elim (cases_eq S R) [ inl e ↦ rw (eq-eqb S R e, ← e) (at_over p S h) | inr n ↦ rw (ne_eqb S R n) ]
at_front p S (suc v) h R = refl

pub above_less : (p : Poly) (S R : ℕ) → S ≤ R → Above R p → Above S p
above_less [] S R l h = tt
above_less (t ∷ p) S R l h = (omega arith, above_less p S R l h.1)

pub at_put : (p : Poly) (S v : ℕ) → Rising p → (R : ℕ) → at (put p S v) R ≡ cond (eqb S R) v (at p R)
at_put [] S v h R = at_front [] S v tt R
at_put (t ∷ p) S v h R =
    put_cases (λ q. at q R ≡ cond (eqb S R) v (at (t ∷ p) R)) t p S v
    (λ e. rw (at_front p S v (above_less p S t.0 (omega arith) h.1) R) (grind (arith, nat_tests)))
    (λ l. at_front (t ∷ p) S v (l, above_less p S t.0 (omega arith) h.1) R)
    (λ l. rw (at_put p S v h.2 R) (grind (arith, nat_tests)))

-- ---- writing keeps the order
pub above_front : (p : Poly) (S v R : ℕ) → R < S → Above R p → Above R (front S v p)
above_front p S zero R l h = h
above_front p S (suc v) R l h = (l, h)

pub above_put : (p : Poly) (S v R : ℕ) → R < S → Above R p → Above R (put p S v)
above_put [] S v R l h = above_front [] S v R l tt
above_put (t ∷ p) S v R l h =
    put_cases (Above R) t p S v (λ _. above_front p S v R l h.1) (λ _. above_front (t ∷ p) S v R l h) (λ _. (h.0, above_put p S v R l h.1))

rising_front : (p : Poly) (S v : ℕ) → Above S p → Rising p → Rising (front S v p)
rising_front p S zero a h = h
rising_front p S (suc v) a h = (omega arith, a, h)

pub rising_put : (p : Poly) (S v : ℕ) → Rising p → Rising (put p S v)
rising_put [] S v h = rising_front [] S v tt tt
rising_put (t ∷ p) S v h =
    put_cases Rising t p S v (λ e. rising_front p S v (above_less p S t.0 (omega arith) h.1) h.2)
    (λ m. rising_front (t ∷ p) S v (m, above_less p S t.0 (omega arith) h.1) h)
    (λ m. (h.0, above_put p S v t.0 m h.1, rising_put p S v h.2))

-- ---- two polynomials with the same numbers are the same
pub at_first : (t : ℕ × ℕ) (p : Poly) → at (t ∷ p) t.0 ≡ t.1
at_first t p = rw (eq-eqb t.0 t.0 refl)

head_not_below : (t u : ℕ × ℕ) (p q : Poly) → Rising (t ∷ p) → Rising (u ∷ q) → ((S : ℕ) → at (t ∷ p) S ≡ at (u ∷ q) S) → u.0 ≤ t.0
head_not_below t u p q hp hq e =
    elim (cases_lt t.0 u.0) [
      | inl l ↦
          let z : t.1 ≡ 0 = sym (at_first t p) ∙ e t.0 ∙ at_over (u ∷ q) t.0 (l, above_less q t.0 u.0 (omega arith) hq.1) in
          omega arith
      | inr l ↦ l
    ]

tails_same : (t u : ℕ × ℕ) (p q : Poly) → t ≡ u → Above t.0 p → Above u.0 q → ((S : ℕ) → at (t ∷ p) S ≡ at (u ∷ q) S) → (S : ℕ) → at p S ≡ at q S
tails_same t u p q s a b e S =
    elim (cases_eq t.0 S) [
      | inl h ↦ let k : u.0 ≡ S = cc in at_over p S (rw h at a) ∙ sym (at_over q S (rw k at b))
      | inr n ↦
          let m : u.0 ≡ S → ⊥ = λ k. n (cc) in
          let z = e S in rw (ne_eqb t.0 S n, ne_eqb u.0 S m) at z
    ]

pub same_from_at : (p q : Poly) → Rising p → Rising q → ((S : ℕ) → at p S ≡ at q S) → p ≡ q
same_from_at [] [] hp hq e = refl
same_from_at [] (u ∷ q) hp hq e = let z : ◌≡◌ {A = ℕ} 0 u.1 = e u.0 ∙ at_first u q in absurd (omega arith)
same_from_at (t ∷ p) [] hp hq e = let z : ◌≡◌ {A = ℕ} t.1 0 = sym (at_first t p) ∙ e t.0 in absurd (omega arith)
same_from_at (t ∷ p) (u ∷ q) hp hq e =
    let k : t.0 ≡ u.0 = omega (arith, head_not_below t u p q hp hq e, head_not_below u t q p hq hp (λ S. sym (e S))) in
    let v : t.1 ≡ u.1 = sym (at_first t p) ∙ e t.0 ∙ ap (at (u ∷ q)) k ∙ at_first u q in
    let s : t ≡ u = λ i. (k i, v i) in
    let r : p ≡ q = same_from_at p q hp.2 hq.2 (tails_same t u p q s hp.1 hq.1 e) in
    cc
