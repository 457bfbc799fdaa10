use Rattle.std.proofs.Common.{rules}
use Rattle.store_trace.proofs.Agreed.{agreed}
use Rattle.store_trace.proofs.steps.step_both.Goals as goal

pub returns-clause-both : goal.returns-clause-both
returns-clause-both g c =
    let same = agreed c.step-answer.result c.step-other.result in search rules

pub returns-clause-agree : goal.returns-clause-agree
returns-clause-agree g c =
    let same = agreed c.step-answer.result c.step-other.result in search rules
