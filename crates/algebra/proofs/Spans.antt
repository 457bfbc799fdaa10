-- Those of some numbers in a row that pass a test.
use Rattle.std.proofs.Common.{◌≡◌, ℕ, zero, suc, ◌+◌, ◌-◌, ◌<◌, ◌≤◌, Bool, true, false, List, [], ◌∷◌, filter, sym, refl, ap, ◌∙◌, ap₂, inl, inr, arith}
use Rattle.std.specs.List.{range_with_len}
use Rattle.std.proofs.lemmas.Bool.{cases_eq, cond-true, cond-false}

-- those of the numbers from m on, before m + n, that pass a test
abbrev pub span : (ℕ → Bool) → ℕ → ℕ → List ℕ
span test m n = filter test (range_with_len m n)

pub span_none : (test : ℕ → Bool) (m n : ℕ) → ((k : ℕ) → m ≤ k → k < m + n → test k ≡ false) → span test m n ≡ []
span_none test m zero f = refl
span_none test m (suc n) f =
    cond-false (test m) (m ∷ span test (m + 1) n) (span test (m + 1) n) (f m (omega arith) (omega arith))
    ∙ span_none test (m + 1) n (λ k l h. f k (omega arith) (omega arith))

pub span_next : (test : ℕ → Bool) (m n k : ℕ) → m ≤ k → k < m + n → test k ≡ true → ((j : ℕ) → m ≤ j → j < k → test j ≡ false) → span test m n ≡ k ∷ span test (k + 1) (m + n - (k + 1))
span_next test m zero k a l t f = absurd (omega arith)
span_next test m (suc n) k a l t f =
    elim (cases_eq k m) [
      | inl e ↦
          let o : n ≡ m + suc n - (k + 1) = omega arith in
          cond-true (test m) (m ∷ span test (m + 1) n) (span test (m + 1) n) (ap test (sym e) ∙ t)
          ∙ ap₂ (λ x y. x ∷ span test (x + 1) y) (sym e) o
      | inr e ↦
          let g : m < k = omega (arith, λ (q : k ≡ m). e q) in
          let o : m + 1 + n - (k + 1) ≡ m + suc n - (k + 1) = omega arith in
          cond-false (test m) (m ∷ span test (m + 1) n) (span test (m + 1) n) (f m (omega arith) g)
          ∙ span_next test (m + 1) n k (omega arith) (omega arith) t (λ j p q. f j (omega arith) q)
          ∙ ap (λ x. k ∷ span test (k + 1) x) o
    ]
