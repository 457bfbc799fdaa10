use Rattle.std.proofs.Common.{rules, refl, arith, ◌∙◌}
use Rattle.algebra.specs.Rows.{set_at, StandsAt}
use Rattle.store.specs.Tables.{contents}
use Rattle.store.proofs.Places.{length_contents}
use Rattle.store.proofs.Writes.{removed, slot_removed, formed_put}
use Rattle.store.proofs.table.Table.remove.Goals as goal

pub invariant_of-self : goal.invariant_of-self
invariant_of-self g c =
    let t = c.args.self.now in
    let i = c.args.i in
    let is = slot_removed t i _ c.copy_within.new.self c.requires c.copy_within.ensures.after (omega arith) in
    let stands : StandsAt (contents t) (set_at (contents t) i) i = record { within = omega (arith, length_contents t); is = refl } in
    let f = formed_put t _ _ 0 (omega arith) (is ∙ removed (contents t) (set_at (contents t) i) i t.sorted stands) in
    record { within = search rules; sorted = f.sorted; nonzero = f.nonzero; bounded = f.bounded }

pub returns-clause-after : goal.returns-clause-after
returns-clause-after g c = slot_removed c.args.self.now c.args.i _ c.copy_within.new.self c.requires c.copy_within.ensures.after (omega arith)
