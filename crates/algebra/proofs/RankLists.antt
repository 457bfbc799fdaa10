-- The ranks of a set as a rising list.
use Rattle.std.proofs.Common.{◌≡◌, ℕ, zero, suc, ◌+◌, ◌-◌, ◌<◌, ◌≤◌, true, not, List, [], ◌∷◌, length, refl, ap, ◌∙◌, subst, inl, inr, arith}
use Rattle.std.specs.List.{range_with_len, ContainsAt as Has, AllByRecursion as All}
use Rattle.std.proofs.lemmas.Bool.{cases_eq, cond-true, cond_both}
use Rattle.std.proofs.lemmas.List.Elements.{All-filter, filter_passes, recursion_from_All}
use Rattle.std.proofs.lemmas.List.Filters.{length-filter_both}
use Rattle.std.proofs.lemmas.List.FromFn.{length-range_with_len, get_or-range_with_len}
use Rattle.algebra.proofs.Spans.{span, span_none, span_next}
use Rattle.algebra.specs.Sets.{has, NoneFrom, LowestFrom, ranks_from}

pub ranks_none : (S m : ℕ) → NoneFrom m S → ranks_from m S ≡ []
unfolding ranks_from
ranks_none S m f = span_none (has S) m (512 - m) (λ k l _. f k l)

pub ranks_next : (S m k : ℕ) → LowestFrom m S k → k < 512 → ranks_from m S ≡ k ∷ ranks_from (k + 1) S
unfolding ranks_from
ranks_next S m k f l =
    let o : m + (512 - m) - (k + 1) ≡ 512 - (k + 1) = omega (arith, f.0) in
    span_next (has S) m (512 - m) k f.0 (omega (arith, f.0)) f.1 f.2 ∙ ap (λ x. k ∷ span (has S) (k + 1) x) o

-- ---- what stands in the list
pub ranks_length : (S m : ℕ) → length (ranks_from m S) ≤ 512 - m
unfolding ranks_from
ranks_length S m =
    let xs = range_with_len m (512 - m) in
    omega (arith, length-filter_both (has S) (λ r. not (has S r)) (λ r. refl) xs, length-range_with_len m (512 - m))

pub ranks_held : (S m : ℕ) → All (λ r. (m ≤ r) × (r < 512) × (has S r ≡ true)) (ranks_from m S)
unfolding ranks_from
ranks_held S m =
    let P : ℕ → Type 0 = λ r. (m ≤ r) × (r < 512) in
    let xs = range_with_len m (512 - m) in
    let long = length-range_with_len m (512 - m) in
    let bounds = All-filter (has S) P xs (λ i d l. let e = get_or-range_with_len m (512 - m) i d (omega arith) in (omega arith, omega arith)) in
    let passes = filter_passes (has S) xs in
    recursion_from_All (λ r. (m ≤ r) × (r < 512) × (has S r ≡ true)) (ranks_from m S)
    (λ i d l. let b = bounds i d l in (b.0, b.1, passes i d l))

-- the first rank of the list
pub ranks_first : (S m k : ℕ) (ks : List ℕ) → ranks_from m S ≡ k ∷ ks → (m ≤ k) × (k < 512) × (has S k ≡ true)
ranks_first S m k ks e =
    let P : ℕ → Type 0 = λ r. (m ≤ r) × (r < 512) × (has S r ≡ true) in
    (subst (λ xs. All P xs) e (ranks_held S m)).0

-- every rank is listed
pub ranks_listed : (S m r : ℕ) → m ≤ r → r < 512 → has S r ≡ true → Has (ranks_from m S) r
unfolding ranks_from
ranks_listed S m r l h e = span_listed S m (512 - m) r l (omega arith) e
  where
    later : (xs : List ℕ) (x r : ℕ) → Has xs r → Has (x ∷ xs) r
    later xs x r (k, l, f) = (suc k, omega arith, f)

    span_listed : (S m n r : ℕ) → m ≤ r → r < m + n → has S r ≡ true → Has (span (has S) m n) r
    span_listed S m zero r l h e = absurd (omega arith)
    span_listed S m (suc n) r l h e =
        elim (cases_eq m r) [
          | inl f ↦ rw (cond-true (has S m) (m ∷ span (has S) (m + 1) n) (span (has S) (m + 1) n) (ap (has S) f ∙ e)) (0, omega arith, λ d. f)
          | inr f ↦
              let t = span_listed S (m + 1) n r (omega (arith, f)) (omega arith) e in
              cond_both (has S m) (m ∷ span (has S) (m + 1) n) (span (has S) (m + 1) n) (λ xs. Has xs r) (λ _. later (span (has S) (m + 1) n) m r t) (λ _. t)
        ]
