-- What a polynomial's list means.
use Rattle.std.proofs.Common.{◌≡◌, ℕ, zero, suc, ◌<◌, ◌≤◌, [], ◌∷◌, length, Some, None, Option, refl, ap, ◌∙◌, inl, inr, arith, MatchOption}
use Rattle.std.specs.List.{ContainsAt as Has}
use Rattle.std.proofs.lemmas.Bool.{eq-eqb, ne_eqb, cases_eq}
use Rattle.algebra.specs.Poly.{Poly, at, standing, lowest, highest, Rising}
use Rattle.algebra.specs.Meaning.{Meaning}
use Rattle.algebra.proofs.Polys.{at_first, at_put, rising_put, same_from_at}
use Rattle.algebra.proofs.Lengths.{above_at}

-- a set that is read further down the list is not the first
at_further : (t : ℕ × ℕ) (p : Poly) (S : ℕ) → Rising (t ∷ p) → 0 < at p S → at (t ∷ p) S ≡ at p S
at_further t p S r h = let l = above_at p t.0 S r.1 h in rw (ne_eqb t.0 S (λ e. omega arith))

stands : (p : Poly) (S : ℕ) → Rising p → Has (standing p) S → 0 < at p S
stands [] S r (k, l, f) = absurd (omega arith)
stands (t ∷ p) S r (zero, l, f) = omega (arith, r.0, ap (at (t ∷ p)) (f 0), at_first t p)
stands (t ∷ p) S r (suc k, l, f) = let h = stands p S r.2 (k, omega arith, f) in omega (arith, at_further t p S r h)

listed : (p : Poly) (S : ℕ) → 0 < at p S → Has (standing p) S
listed [] S h = absurd (omega arith)
listed (t ∷ p) S h =
    elim (cases_eq t.0 S) [
      | inl e ↦ (0, omega arith, λ d. e)
      | inr n ↦ later (listed p S (rw (ne_eqb t.0 S n) at h))
    ]
  where
    later : Has (standing p) S → Has (t.0 ∷ standing p) S
    later (k, l, f) = (suc k, omega arith, f)

low : (p : Poly) → Rising p → MatchOption (lowest p) (p ≡ []) (λ t. (0 < t.1) × (at p t.0 ≡ t.1) × ((R : ℕ) → 0 < at p R → t.0 ≤ R))
low [] r = refl
low (t ∷ p) r = (
  r.0,
  at_first t p,
  λ R h. elim (cases_eq t.0 R) [ inl e ↦ omega arith | inr n ↦ omega (arith, above_at p t.0 R r.1 (rw (ne_eqb t.0 R n) at h)) ],
)

weaker : (o : Option (ℕ × ℕ)) (A B : Type 0) (P Q : ℕ × ℕ → Type 0) → MatchOption o A P → (A → B) → ((t : ℕ × ℕ) → P t → Q t) → MatchOption o B Q
weaker None A B P Q c f g = f c
weaker (Some t) A B P Q c f g = g t c

high : (p : Poly) → Rising p → MatchOption (highest p) (p ≡ []) (λ t. (0 < t.1) × (at p t.0 ≡ t.1) × ((R : ℕ) → 0 < at p R → R ≤ t.0))
high [] r = refl
high (t ∷ []) r = (
  r.0,
  at_first t [],
  λ R h. elim (cases_eq t.0 R) [ inl e ↦ omega arith | inr n ↦ absurd (let z = rw (ne_eqb t.0 R n) at h in omega arith) ],
)
high (t ∷ (u ∷ p)) r =
    weaker (highest (u ∷ p)) (◌≡◌ {A = Poly} (u ∷ p) []) (◌≡◌ {A = Poly} (t ∷ (u ∷ p)) [])
    (λ s. (0 < s.1) × (at (u ∷ p) s.0 ≡ s.1) × ((R : ℕ) → 0 < at (u ∷ p) R → R ≤ s.0))
    (λ s. (0 < s.1) × (at (t ∷ (u ∷ p)) s.0 ≡ s.1) × ((R : ℕ) → 0 < at (t ∷ (u ∷ p)) R → R ≤ s.0))
    (high (u ∷ p) r.2)
    (λ e. let n = ap length e in absurd (omega arith))
    (λ s h.
    let v : 0 < at (u ∷ p) s.0 = omega (arith, h.0, h.1) in
    let g = above_at (u ∷ p) t.0 s.0 r.1 v in (
      h.0,
      at_further t (u ∷ p) s.0 r v ∙ h.1,
      λ R w. elim (cases_eq t.0 R) [ inl e ↦ omega arith | inr n ↦ h.2 R (rw (ne_eqb t.0 R n) at w) ],
    ))

pub meaning : Meaning
meaning = record {
  here = λ p S v r. at_put p S v r S ∙ rw (eq-eqb S S refl);
  elsewhere = λ p S v R r n. at_put p S v r R ∙ rw (ne_eqb S R n);
  form = rising_put;
  stands = stands;
  listed = listed;
  low = low;
  high = high;
  same = same_from_at;
}
