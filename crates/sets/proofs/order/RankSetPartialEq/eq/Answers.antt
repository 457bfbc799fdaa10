use Rattle.std.proofs.Common.{◌≡◌, ◌∙◌, nat_eq, arith}
use Rattle.std.proofs.lemmas.Bool.Decides.{nat_tests}
use Rattle.sets.specs.Numbers.{number}
use Rattle.sets.proofs.Worded.{pointwise-value}
use Rattle.sets.proofs.Numbers.{differ_at}
use Rattle.sets.proofs.order.RankSetPartialEq.eq.Goals as goal

pub returns-then-self-other : goal.returns-then-self-other
returns-then-self-other c =
    let s = c.args.self.now in
    let t = c.args.other.now in
    let same : c.eq.result ≡ nat_eq (number s) (number t) =
    c.eq.ensures ∙ pointwise-value s.words t.words (omega (arith, s.sized.0, t.sized.0)) s.sized.1 t.sized.1 in
    grind (arith, nat_tests, same)

pub returns-else-self-other : goal.returns-else-self-other
returns-else-self-other c =
    let d = c.if-self-other.false in
    grind (arith, nat_tests, d, differ_at c.args.self.now c.args.other.now 7 d)
