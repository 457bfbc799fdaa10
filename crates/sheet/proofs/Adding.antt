-- A claim of a table that is changed.
use Rattle.std.proofs.Common.{◌≡◌, ℕ, ◌<◌, ◌≤◌, ◌-◌, Bool, true, false, List, [], ◌∷◌, ◌++◌, length, take, set, get_or, sym, ap, ◌∙◌, arith, if◌then◌else◌}
use Rattle.std.proofs.Math.Seq.{take-set-lt}
use Rattle.std.proofs.lemmas.List.{map-set, set-get_or, get_or-take, get_or-map, length-map, length-take-le}
use Rattle.sheet.specs.declared.bounded.Bounded.{Bounded}
use Rattle.sheet.specs.declared.term.Term.{Term}
use Rattle.sheet.specs.Held.{held}
use Rattle.sheet.specs.Claimed.{terms_of, on_latest}

-- the claims that the first n places of a table hold
abbrev claims : List (Bounded Term 64) → ℕ → List (List Term)
claims ts n = terms_of (take n ts)

many : (ts : List (Bounded Term 64)) (n : ℕ) → n ≤ length ts → length (claims ts n) ≡ n
many ts n h = length-map (take n ts) held ∙ length-take-le n ts h

changed : (ts : List (Bounded Term 64)) (n i : ℕ) (b : Bounded Term 64) → i < n → claims (set ts i b) n ≡ set (claims ts n) i (held b)
changed ts n i b h = ap terms_of (take-set-lt n ts i b h) ∙ map-set held (take n ts) i b

at_claim : (ts : List (Bounded Term 64)) (n i : ℕ) (d : Bounded Term 64) → i < n → n ≤ length ts → get_or (claims ts n) i [] ≡ held (get_or ts i d)
at_claim ts n i d h l =
    let k = length-take-le n ts l in
    get_or-map held (take n ts) i d [] (omega arith) ∙ ap held (get_or-take n ts i d h)

-- the last of the m claims has one term more, or none of the claims changes
pub added :
    (ts : List (Bounded Term 64)) (n m : ℕ) (was is : Bounded Term 64) (t : Term) (granted : Bool) →
    m ≡ length (claims ts n) → 0 < m → n ≤ length ts →
    held is ≡ (if granted then held (get_or ts (m - 1) was) ++ t ∷ [] else held (get_or ts (m - 1) was)) →
    claims (set ts (m - 1) is) n ≡ (if granted then on_latest (claims ts n) t else claims ts n)
added ts n m was is t true c h l e =
    let last : m - 1 < n = omega (arith, many ts n l) in
    changed ts n (m - 1) is last ∙ ap (set (claims ts n) (m - 1)) (e ∙ ap (λ x. x ++ t ∷ []) (sym (at_claim ts n (m - 1) was last l)))
    ∙ ap (λ (k : ℕ). set (claims ts n) (k - 1) (get_or (claims ts n) (k - 1) [] ++ t ∷ [])) c
added ts n m was is t false c h l e =
    let last : m - 1 < n = omega (arith, many ts n l) in
    changed ts n (m - 1) is last ∙ ap (set (claims ts n) (m - 1)) (e ∙ sym (at_claim ts n (m - 1) was last l)) ∙ set-get_or (claims ts n) (m - 1) []
