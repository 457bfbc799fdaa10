use Rattle.std.proofs.Common.{rules, arith}
use Rattle.store.proofs.Searches.{narrowed_up, narrowed_down, narrowed_here, narrowed_none}
use Rattle.store.proofs.table.Table.find.Goals as goal

pub loop-low-preserved-in-Less : goal.loop-low-preserved-in-Less
loop-low-preserved-in-Less g c =
    let law = g.met.K.Key.by_number c.index-slots-middle.result.key c.args.key.now in
    narrowed_up c.args.self.now _ c.standing-slots.ensures _ _ _ _ c.index-slots-middle.result c.loop-low.invariant (omega arith) (omega arith) (search rules)

pub returns-in-Equal : goal.returns-in-Equal
returns-in-Equal g c =
    let law = g.met.K.Key.by_number c.index-slots-middle.result.key c.args.key.now in
    narrowed_here c.args.self.now _ c.standing-slots.ensures _ _ _ _ c.index-slots-middle.result c.loop-low.invariant (omega arith) (omega arith) (search rules)

pub loop-low-preserved : goal.loop-low-preserved
loop-low-preserved g c =
    let law = g.met.K.Key.by_number c.index-slots-middle.result.key c.args.key.now in
    narrowed_down c.args.self.now _ c.standing-slots.ensures _ _ _ _ c.index-slots-middle.result c.loop-low.invariant (omega arith) (omega arith) (search rules)

pub returns : goal.returns
returns g c = narrowed_none _ _ _ _ c.loop-low.invariant c.loop-low-test.false
