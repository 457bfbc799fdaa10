use Rattle.store.specs.Batches.{pairs}
use Rattle.store.proofs.Ordered.{Midway}
use Rattle.store.proofs.batch.write_all.Given as goal

abbrev pub invariant-loop-i : goal.invariant-loop-i
invariant-loop-i g l =
    Midway (g.S.Store.room l.initial.store) (g.S.Store.poly l.initial.store) (pairs l.terms) l.i (g.S.Store.poly l.store) (g.S.Store.room l.store)
