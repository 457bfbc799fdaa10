-- The ranks of a set: the lowest, and then those of the set without it.
use Rattle.std.proofs.Common.{◌≡◌, ℕ, zero, suc, ◌+◌, ◌-◌, ◌<◌, ◌≤◌, Bool, false, not, ◌&&◌, cond, [], ◌∷◌, sym, refl, ap, ◌∙◌, ap₂, arith}
use Rattle.std.proofs.lemmas.Bool.{cond-false, ne_eqb}
use Rattle.std.proofs.lemmas.Bool.Decides.{nat_tests}
use Rattle.algebra.specs.Sets.{has, removed, LowestFrom, ranks, ranks_from}
use Rattle.algebra.proofs.Bitsets.{has_none, has_removed}
use Rattle.algebra.proofs.RankLists.{ranks_none, ranks_next}
use Rattle.algebra.proofs.Spans.{span}

-- the first d of p numbers fail the test
span_skip : (test : ℕ → Bool) (m d n p q : ℕ) → p ≡ d + n → q ≡ m + d
    → ((k : ℕ) → m ≤ k → k < q → test k ≡ false) → span test m p ≡ span test q n
span_skip test m zero n p q a b f =
    let here : m ≡ q = omega arith in
    let all : p ≡ n = omega arith in
    ap₂ (span test) here all
span_skip test m (suc d) n zero q a b f = absurd (omega arith)
span_skip test m (suc d) n (suc p) q a b f =
    cond-false (test m) (m ∷ span test (m + 1) p) (span test (m + 1) p) (f m (omega arith) (omega arith))
    ∙ span_skip test (m + 1) d n p q (omega arith) (omega arith) (λ k l h. f k (omega arith) h)

span_above : (S k m n : ℕ) → k < m → span (has (removed S k)) m n ≡ span (has S) m n
span_above S k m zero l = refl
span_above S k m (suc n) l =
    let e : m ≡ k → ⊥ = λ d. omega arith in
    ap₂ (λ b xs. cond b (m ∷ xs) xs) (has_removed S k m ∙ ap (λ b. not b && has S m) (ne_eqb m k e)) (span_above S k (m + 1) n (omega arith))

taken : (S k j : ℕ) → LowestFrom 0 S k → j < k + 1 → has (removed S k) j ≡ false
taken S k j f l = has_removed S k j ∙ grind (arith, nat_tests, f.2 j (omega arith))

pub ranks_taken : (S k : ℕ) → LowestFrom 0 S k → k < 512 → ranks S ≡ k ∷ ranks (removed S k)
unfolding ranks_from
ranks_taken S k f l =
    ranks_next S 0 k f l
    ∙ ap (λ xs. k ∷ xs) (sym (
    span_skip (has (removed S k)) 0 (k + 1) (512 - (k + 1)) 512 (k + 1) (omega arith) (omega arith) (λ j a b. taken S k j f b)
    ∙ span_above S k (k + 1) (512 - (k + 1)) (omega arith)))

pub ranks_zero : (S : ℕ) → S ≡ 0 → ranks S ≡ []
ranks_zero S e = ranks_none S 0 (λ k _. ap (λ x. has x k) e ∙ has_none k)
