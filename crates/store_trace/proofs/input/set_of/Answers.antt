use Rattle.std.proofs.Common.{◌<◌}
use Rattle.std.proofs.lemmas.List.{take_all, take_more}
use Rattle.std.proofs.lemmas.List.Elements.{All-push}
use Rattle.std.proofs.lemmas.List.Sums.{fold_more}
use Rattle.algebra.specs.Sets.{inserted}
use Rattle.store_trace.proofs.input.set_of.Goals as goal

pub loop-rank-preserved : goal.loop-rank-preserved
loop-rank-preserved c =
    let ranks = c.args.ranks.now in
    let i = c.loop-rank.rank-index in
    let rank = c.in_ok-rank_of.ensures in
    let more = fold_more inserted 0 ranks i 0 c.loop-rank-test.true in
    (rw (take_more ranks i 0 c.loop-rank-test.true) (All-push (λ k. k < 512) _ _ c.loop-rank.invariant.0 rank.0), cc)

pub returns : goal.returns
returns c = rw (← take_all c.loop-rank.rank-index c.args.ranks.now c.loop-rank-test.false) c.loop-rank.invariant
