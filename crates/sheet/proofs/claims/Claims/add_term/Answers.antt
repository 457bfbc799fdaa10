use Rattle.std.proofs.Common.{arith}
use Rattle.sheet.proofs.Adding.{added}
use Rattle.sheet.proofs.claims.Claims.add_term.Goals as goal

pub returns-clause-after : goal.returns-clause-after
returns-clause-after c =
    let s = c.args.self.now in
    added s.table s.count.n c.count-n.result c.index-self-n.result _ c.args.term _ c.count-n.ensures (omega arith) (omega arith) c.push.ensures.after
