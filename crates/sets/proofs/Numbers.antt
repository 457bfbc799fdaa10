-- What the type of a set says of its number.
use mathlib.Core.HLevel.{is_prop→PathP}
use Rattle.std.proofs.Common.{◌≡◌, ◌≢◌, ℕ, ◌^◌, ◌<◌, List, false, nat_eq, slice_index, sym, ap, ◌∙◌, arith}
use denote.Struct.Props.{props}
use Rattle.std.proofs.lemmas.Bool.{ne_eqb}
use Rattle.algebra.specs.Sets.{NoneFrom}
use Rattle.algebra.proofs.Bitsets.{same_from_has, has_none}
use Rattle.sets.specs.declared.RankSet.{RankSet}
use Rattle.sets.specs.Numbers.{number}
use Rattle.sets.specs.Words.{Sized}
use Rattle.sets.proofs.Worded.{value_lt, value_same}

pub number_lt : (s : RankSet) → number s < 2 ^ 512
number_lt s = value_lt s.words s.sized

pub none_zero : (S : ℕ) → NoneFrom 0 S → S ≡ 0
none_zero S f = same_from_has S 0 (λ r. f r (omega arith) ∙ sym (has_none r))

sized_prop : (ws : List ℕ) → IsProp (Sized ws)
sized_prop ws = hlevel props

-- sets of one number are the same
pub same_from_number : (s t : RankSet) → number s ≡ number t → s ≡ t
same_from_number s t e =
    let w = value_same s.words t.words (s.sized.0 ∙ sym t.sized.0) s.sized.1 t.sized.1 e in
    λ i. record { words = w i; sized = is_prop→PathP (λ j. Sized (w j)) (λ j. sized_prop (w j)) s.sized t.sized i }

pub differ_at : (s t : RankSet) (i : ℕ) → slice_index s.words i ≢ slice_index t.words i → nat_eq (number s) (number t) ≡ false
differ_at s t i d = ne_eqb (number s) (number t) (λ e. d (ap (λ x. slice_index x.words i) (same_from_number s t e)))
