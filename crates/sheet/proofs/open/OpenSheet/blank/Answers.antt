use Rattle.std.proofs.Common.{ℕ, ◌≡◌, ◌<◌, Option, None, List, replicate, sym, ◌∙◌, refl, arith}
use Rattle.std.specs.Array.{AllOfLen}
use Rattle.std.proofs.lemmas.List.{same_lists, length-replicate, get_or-replicate}
use Rattle.sheet.proofs.open.OpenSheet.blank.Goals as goal

-- options that are all none
all_none : {X : Type 0} (os : List (Option X)) (n : ℕ) → AllOfLen (λ o. o ≡ None) os n → os ≡ replicate n None
all_none os n h =
    let long = h.long in
    same_lists os (replicate n None) (long ∙ sym (length-replicate n None))
    (λ k d l. let m : k < n = omega arith in h.at k d m ∙ sym (get_or-replicate n k None d m))

pub returns : goal.returns
returns c = rw (all_none c.default.result 16 c.default.ensures, c.new.ensures, c.new-2.ensures, c.none.ensures) refl
