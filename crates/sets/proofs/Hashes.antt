-- The hash of a set is the fold of its words.
use Rattle.std.proofs.Common.{◌≡◌, ℕ, suc, ◌+◌, ◌*◌, ◌/◌, ◌%◌, ◌^◌, List, [], ◌∷◌, length, fold, sym, refl, ◌∙◌, ap₂, arith}
use Rattle.sets.specs.Hash.{mix, hashed}
use Rattle.sets.specs.Words.{value}
use Rattle.sets.proofs.Worded.{Words}

pub fold-mix : (xs : List ℕ) (h : ℕ) → Words xs → fold mix h xs ≡ hashed (length xs) h (value xs)
unfolding hashed
fold-mix [] h s = refl
fold-mix (x ∷ xs) h s =
    let rest : (x + 2 ^ 64 * value xs) / 2 ^ 64 ≡ value xs = omega (arith, s 0) in
    let lowest : (x + 2 ^ 64 * value xs) % 2 ^ 64 ≡ x = omega (arith, s 0) in
    fold-mix xs (mix h x) (λ k. s (suc k)) ∙ sym (ap₂ (λ w v. hashed (length xs) (mix h w) v) lowest rest)
