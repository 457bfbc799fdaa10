use Rattle.std.proofs.Common.{◌≡◌, ◌+◌, ◌/◌, ◌%◌, ◌^◌, ◌<◌, ◌≤◌, get_or, ap, inl, inr, rules, arith}
use Rattle.std.proofs.lemmas.Bool.{cases_lt}
use Rattle.std.specs.Int.{w64, trailing_zeros}
use Rattle.algebra.proofs.Bitsets.{has_past}
use Rattle.sets.specs.Numbers.{number}
use Rattle.sets.specs.Words.{Blank}
use Rattle.sets.proofs.Numbers.{number_lt}
use Rattle.sets.proofs.Worded.{lowest_here, none_between}
use Rattle.sets.proofs.RankSet.lowest_from.Goals as goal

pub returns-in_err-above : goal.returns-in_err-above
returns-in_err-above c =
    let s = c.args.self.now in
    let past : 8 ≤ c.args.from / 64 = search rules in
    rw c.from_residual.ensures (λ k g. has_past (number s) 512 k (number_lt s) (omega arith))

pub returns-then-above-ne0 : goal.returns-then-above-ne0
returns-then-above-ne0 c =
    let s = c.args.self.now in
    let r = c.args.from in
    let e : c.in_ok-above.field-0.now / 2 ^ (r % 64) ≡ get_or s.words (r / 64) 0 / 2 ^ (r % 64) = search rules in
    lowest_here s.words r (r / 64) (r % 64) _ s.sized.1 (omega (arith, e, c.if-above-ne0.true)) (omega arith) (λ n g l. absurd (omega arith))
    (omega (arith, ap (trailing_zeros w64) e))

pub returns-in_err-i : goal.returns-in_err-i
returns-in_err-i c =
    let s = c.args.self.now in
    let r = c.args.from in
    let e : get_or s.words (r / 64) 0 / 2 ^ (r % 64) ≡ 0 = search rules in
    let z : Blank (r / 64 + 1) 8 s.words = search rules in
    rw c.from_residual-in_err-i.ensures (λ k g. elim (cases_lt k 512) [
      | inl l ↦ none_between s.words r 8 s.sized.1 e z k g (omega arith)
      | inr l ↦ has_past (number s) 512 k (number_lt s) l
    ])

pub returns : goal.returns
returns c =
    let s = c.args.self.now in
    let r = c.args.from in
    let i = c.in_ok-i.i in
    let w = c.in_ok-i.ensures in
    let e : get_or s.words (r / 64) 0 / 2 ^ (r % 64) ≡ 0 = search rules in
    let z : Blank (r / 64 + 1) i s.words = search rules in
    let p : 0 < get_or s.words i 0 = search rules in
    let l : r / 64 + 1 ≤ i = search rules in
    let o : get_or s.words i 0 ≡ get_or s.words i 0 / 2 ^ 0 = omega arith in
    lowest_here s.words r i 0 _ s.sized.1 (omega (arith, p)) (omega (arith, l)) (λ k g q. none_between s.words r i s.sized.1 e z k g (omega arith))
    (omega (arith, ap (trailing_zeros w64) o))
