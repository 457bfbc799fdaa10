use Rattle.std.proofs.Common.{◌≡◌, ◌++◌, map, length, vec_items}
use Rattle.sets.specs.Numbers.{number}
use Rattle.store.specs.Terms.{term}
use Rattle.store_trace.proofs.steps.drain.Given as goal

-- what was taken, and then what still stands
abbrev pub invariant-loop-lowest : goal.invariant-loop-lowest
invariant-loop-lowest g l = map (term number) (vec_items l.all) ++ g.S.Store.poly l.store ≡ g.S.Store.poly l.initial.store

abbrev pub decreases-loop-lowest : goal.decreases-loop-lowest
decreases-loop-lowest g l = length (g.S.Store.poly l.store)
