use Rattle.std.proofs.Common.{vec_items}
use Rattle.store_trace.proofs.Drained.{drained_more}
use Rattle.store_trace.proofs.steps.drain.Goals as goal

pub loop-lowest-preserved : goal.loop-lowest-preserved
loop-lowest-preserved g c = drained_more (vec_items c.loop-lowest.all) _ c.in-Some.lowest _ _ _ c.in_ok-push.ensures.items c.in-Some.ensures.lowest c.take_lowest.ensures.rest c.loop-lowest.invariant
