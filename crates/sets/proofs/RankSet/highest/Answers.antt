use Rattle.std.proofs.Common.{rules, arith}
use Rattle.sets.proofs.Worded.{none_here, highest_here}
use Rattle.sets.proofs.RankSet.highest.Goals as goal

pub returns-in_err-i : goal.returns-in_err-i
returns-in_err-i c = rw c.from_residual.ensures (none_here c.args.self.now.words (λ k l. search rules))

pub returns : goal.returns
returns c =
    let s = c.args.self.now in
    let top = c.ilog2.ensures in
    highest_here s.words c.in_ok-i.i c.ilog2.result _ s.sized top.bound top.power_le top.next_power_gt (λ k l h. search rules) (omega arith)
