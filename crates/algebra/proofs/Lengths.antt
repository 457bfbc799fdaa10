-- How many sets stand, and which are the lowest and the highest.
use Rattle.std.proofs.Common.{◌≡◌, ℕ, zero, suc, ◌+◌, ◌<◌, ◌≤◌, [], ◌∷◌, length, Some, sym, refl, ap, ◌∙◌, inl, inr, arith}
use Rattle.std.specs.List.{AllByRecursion as All}
use Rattle.std.proofs.lemmas.Bool.{eq-eqb, ne_eqb, cases_eq}
use Rattle.algebra.specs.Poly.{Poly, at, front, put, lowest, highest, Above, Rising}
use Rattle.algebra.proofs.Polys.{put_cases, at_over, at_first, at_put, above_less, rising_put, same_from_at}

-- 1 where a number is not 0
abbrev pub some : ℕ → ℕ
some zero = 0
some (suc n) = 1

pub some_0 : (n : ℕ) → n ≡ 0 → some n ≡ 0
some_0 n z = ap some z

pub some_1 : (n : ℕ) → 0 < n → some n ≡ 1
some_1 zero h = absurd (omega arith)
some_1 (suc n) h = refl

length_front : (S v : ℕ) (p : Poly) → length (front S v p) ≡ length p + some v
length_front S zero p = omega arith
length_front S (suc v) p = omega arith

-- how many sets stand after a write
pub length_put : (p : Poly) (S v : ℕ) → Rising p → length (put p S v) + some (at p S) ≡ length p + some v
length_put [] S v r = omega (arith, length_front S v [])
length_put (t ∷ p) S v r =
    put_cases (λ q. length q + some (at (t ∷ p) S) ≡ length (t ∷ p) + some v) t p S v
    (λ e.
    let a : at (t ∷ p) S ≡ t.1 = ap (at (t ∷ p)) e ∙ at_first t p in
    omega (arith, length_front S v p, some_1 (at (t ∷ p) S) (omega (arith, r.0))))
    (λ l. omega (arith, length_front S v (t ∷ p), some_0 (at (t ∷ p) S) (at_over (t ∷ p) S (l, above_less p S t.0 (omega arith) r.1))))
    (λ l.
    let a : at (t ∷ p) S ≡ at p S = rw (ne_eqb t.0 S (λ e. omega arith)) in
    omega (arith, length_put p S v r.2, ap some a))

pub length_put_le : (p : Poly) (S v : ℕ) → Rising p → length (put p S v) ≤ length p + 1
length_put_le p S v r = go v refl
  where
    go : (u : ℕ) → v ≡ u → length (put p S v) ≤ length p + 1
    go zero e = omega (arith, length_put p S v r, some_0 v e)
    go (suc u) e = omega (arith, length_put p S v r, some_1 v (omega arith))

-- a write of 0 at a set that does not stand
pub put_nothing : (p : Poly) (S : ℕ) → Rising p → at p S ≡ 0 → put p S 0 ≡ p
put_nothing p S r z =
    same_from_at (put p S 0) p (rising_put p S 0 r) r
    (λ R. at_put p S 0 r R ∙ elim (cases_eq S R) [ inl e ↦ rw (eq-eqb S R e, ← e) (sym z) | inr n ↦ rw (ne_eqb S R n) ])

-- ---- the lowest set, and the highest
pub above_at : (p : Poly) (S R : ℕ) → Above S p → 0 < at p R → S < R
above_at [] S R a h = absurd (omega arith)
above_at (t ∷ p) S R a h =
    elim (cases_eq t.0 R) [ inl e ↦ omega (arith, a.0) | inr n ↦ above_at p S R a.1 (rw (ne_eqb t.0 R n) at h) ]

pub lowest_least : (p : Poly) (S : ℕ) → Rising p → 0 < at p S → ((R : ℕ) → 0 < at p R → S ≤ R) → lowest p ≡ Some (S, at p S)
lowest_least [] S r h least = absurd (omega arith)
lowest_least (t ∷ p) S r h least =
    elim (cases_eq t.0 S) [
      | inl e ↦ let v : t.1 ≡ at (t ∷ p) S = sym (ap (at (t ∷ p)) (sym e) ∙ at_first t p) in λ i. Some (e i, v i)
      | inr n ↦
          let l = least t.0 (omega (arith, at_first t p, r.0)) in
          let g = above_at p t.0 S r.1 (rw (ne_eqb t.0 S n) at h) in
          absurd (omega arith)
    ]

pub highest_most : (p : Poly) (S : ℕ) → Rising p → 0 < at p S → ((R : ℕ) → 0 < at p R → R ≤ S) → highest p ≡ Some (S, at p S)
highest_most [] S r h most = absurd (omega arith)
highest_most (t ∷ []) S r h most =
    elim (cases_eq t.0 S) [
      | inl e ↦ let v : t.1 ≡ at (t ∷ []) S = sym (ap (at (t ∷ [])) (sym e) ∙ at_first t []) in λ i. Some (e i, v i)
      | inr n ↦ absurd (let z = rw (ne_eqb t.0 S n) at h in omega arith)
    ]
highest_most (t ∷ (u ∷ p)) S r h most =
    elim (cases_eq t.0 S) [
      | inl e ↦
          let x = most u.0 (omega (arith, other u.0 (omega (arith, r.1.0)), at_first u p, r.2.0)) in
          absurd (omega (arith, r.1.0))
      | inr n ↦
          let k : at (t ∷ (u ∷ p)) S ≡ at (u ∷ p) S = rw (ne_eqb t.0 S n) in
          highest_most (u ∷ p) S r.2 (omega arith) (λ R g. most R (omega (arith, other R (above_at (u ∷ p) t.0 R r.1 g)))) ∙ ap (λ v. Some (S, v)) (sym k)
    ]
  where
    other : (R : ℕ) → t.0 < R → at (t ∷ (u ∷ p)) R ≡ at (u ∷ p) R
    other R l = rw (ne_eqb t.0 R (λ e. omega arith))

-- ---- facts of every term
all_front : (P : ℕ × ℕ → Type 0) (S v : ℕ) (p : Poly) → P (S, v) → All P p → All P (front S v p)
all_front P S zero p h a = a
all_front P S (suc v) p h a = (h, a)

pub all_put : (P : ℕ × ℕ → Type 0) (p : Poly) (S v : ℕ) → P (S, v) → All P p → All P (put p S v)
all_put P [] S v h a = all_front P S v [] h a
all_put P (t ∷ p) S v h a =
    put_cases (All P) t p S v (λ _. all_front P S v p h a.1) (λ _. all_front P S v (t ∷ p) h a) (λ _. (a.0, all_put P p S v h a.1))
