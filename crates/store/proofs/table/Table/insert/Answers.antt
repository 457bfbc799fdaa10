use Rattle.std.proofs.Common.{rules, arith, ◌∙◌}
use Rattle.store.specs.Tables.{contents}
use Rattle.store.proofs.Writes.{inserted, slot_inserted, formed_put}
use Rattle.store.proofs.table.Table.insert.Goals as goal

pub invariant_of-self : goal.invariant_of-self
invariant_of-self g c =
    let t = c.args.self.now in
    let h = c.requires in
    let is = slot_inserted t c.args.i c.args.slot c.copy_within.new.self h.falls.within h.free c.copy_within.ensures.after in
    let f = formed_put t _ _ _ (search rules) (is ∙ inserted (contents t) _ c.args.i c.args.slot.number h.falls (λ z. omega (arith, z, h.nonzero))) in
    record { within = search rules; sorted = f.sorted; nonzero = f.nonzero; bounded = f.bounded }

pub returns-clause-after : goal.returns-clause-after
returns-clause-after g c =
    slot_inserted c.args.self.now c.args.i c.args.slot c.copy_within.new.self c.requires.falls.within c.requires.free c.copy_within.ensures.after
