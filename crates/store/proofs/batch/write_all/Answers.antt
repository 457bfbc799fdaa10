use Rattle.std.proofs.Common.{rules}
use Rattle.algebra.proofs.Meanings.{meaning}
use Rattle.store.proofs.Ordered.{midway_more, midway_stop}
use Rattle.store.proofs.batch.write_all.Goals as goal

pub loop-i-preserved : goal.loop-i-preserved
loop-i-preserved g c =
    let w = c.write.ensures in
    midway_more _ _ _ _ _ _ _ _ c.loop-i.invariant _ c.index-terms-i.is c.loop-i-test.true w.wrote _ (search rules) w.same

pub returns-then-is_err : goal.returns-then-is_err
returns-then-is_err g c =
    let w = c.write.ensures in
    let M = c.loop-i.invariant in
    let e = midway_stop _ _ _ _ _ _ _ _ M _ c.index-terms-i.is c.loop-i-test.true w.wrote (search rules) in
    record { granted = e.0; after = e.1; same = search rules; law = meaning }

pub returns-clause-law : goal.returns-clause-law
returns-clause-law g c = meaning
