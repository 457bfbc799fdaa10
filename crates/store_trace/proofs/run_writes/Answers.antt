use Rattle.std.proofs.Common.{◌∙◌}
use Rattle.std.proofs.lemmas.List.{take_all}
use Rattle.std.proofs.lemmas.List.Sums.{fold_more}
use Rattle.store_trace.specs.Told.{after}
use Rattle.store_trace.proofs.run_writes.Goals as goal

pub loop-write-preserved : goal.loop-write-preserved
loop-write-preserved g c =
    let i = c.loop-write.invariant in
    let e = c.step_both.ensures in
    let w = c.write-item.result in
    let n = c.loop-write.write-index in
    let row = fold_more (after (g.R.Store.room c.args.row.now)) (g.R.Store.poly c.args.row.now) c.args.writes.now n w c.loop-write-test.true in
    let buckets = fold_more (after (g.B.Store.room c.args.buckets.now)) (g.B.Store.poly c.args.buckets.now) c.args.writes.now n w c.loop-write-test.true in
    record { row = cc; buckets = cc; row_room = e.same.0 ∙ i.row_room; buckets_room = e.same.1 ∙ i.buckets_room }

pub returns : goal.returns
returns g c =
    let all = take_all c.loop-write.write-index c.args.writes.now c.loop-write-test.false in
    record { row = rw (← all) c.loop-write.invariant.row; buckets = rw (← all) c.loop-write.invariant.buckets }
