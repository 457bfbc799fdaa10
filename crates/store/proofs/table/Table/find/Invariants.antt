use Rattle.std.proofs.Common.{◌-◌}
use Rattle.store.specs.Tables.{contents}
use Rattle.store.proofs.Searches.{Narrowed}
use Rattle.store.proofs.table.Table.find.Given as goal

abbrev pub invariant-loop-low : goal.invariant-loop-low
invariant-loop-low g l = Narrowed (contents l.self) (g.K.Key.number l.key) l.low l.high

abbrev pub decreases-loop-low : goal.decreases-loop-low
decreases-loop-low g l = l.high - l.low
