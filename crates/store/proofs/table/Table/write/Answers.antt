use Rattle.std.proofs.Common.{◌≤◌, subst, ◌∙◌, sym, rules, arith}
use Rattle.algebra.proofs.Rows.{length_first}
use Rattle.store.specs.Terms.{term}
use Rattle.store.specs.Tables.{contents, room}
use Rattle.store.proofs.Places.{contents_within}
use Rattle.store.proofs.Writes.{removed, inserted, nothing, slot_replaced, granted, refused, formed_put}
use Rattle.store.proofs.table.Table.write.Goals as goal

pub invariant_of-self : goal.invariant_of-self
invariant_of-self g c =
    let t = c.args.self.now in
    let v = c.in-Ok-default in
    let f = formed_put t _ _ _ (search rules) (slot_replaced t _ _ v.i c.index-self-i.result v.ensures v.is-1.1) in
    record { within = search rules; sorted = f.sorted; nonzero = f.nonzero; bounded = f.bounded }

pub returns-in-Ok-eq0-clause-wrote : goal.returns-in-Ok-eq0-clause-wrote
returns-in-Ok-eq0-clause-wrote g c =
    let t = c.args.self.now in
    let v = c.in-Ok-eq0 in
    granted t _ _ _ _ (omega (arith, contents_within c.remove.new.self, c.remove.ensures.room)) (c.remove.ensures.after ∙ removed (contents t) _ v.i t.sorted v.ensures) (omega arith)

pub returns-in-Ok-default-clause-wrote : goal.returns-in-Ok-default-clause-wrote
returns-in-Ok-default-clause-wrote g c =
    let t = c.args.self.now in
    let v = c.in-Ok-default in
    granted t _ _ _ _ (subst (λ m. m ≤ room t) (sym (length_first (term g.K.Key.number) _ t.len (search rules))) t.within)
    (slot_replaced t _ _ v.i c.index-self-i.result v.ensures v.is-1.1) (omega arith)

pub returns-in-Err-eq0-clause-wrote : goal.returns-in-Err-eq0-clause-wrote
returns-in-Err-eq0-clause-wrote g c =
    let t = c.args.self.now in
    let v = c.in-Err-eq0 in
    granted t _ _ _ _ (contents_within t) (nothing (contents t) _ v.field-0-0 v.ensures) (omega arith)

pub returns-in-Err-default-clause-wrote : goal.returns-in-Err-default-clause-wrote
returns-in-Err-default-clause-wrote g c =
    let v = c.in-Err-default in
    refused c.args.self.now _ _ v.field-0-0 c.if-self.true v.ensures (λ z. v.is-1.1 (omega arith))

pub returns-in-Err-default-2-clause-wrote : goal.returns-in-Err-default-2-clause-wrote
returns-in-Err-default-2-clause-wrote g c =
    let t = c.args.self.now in
    let v = c.in-Err-default in
    granted t _ _ _ _ (omega (arith, contents_within c.insert.new.self, c.insert.ensures.room))
    (c.insert.ensures.after ∙ inserted (contents t) (g.K.Key.number c.args.key.now) v.field-0-0 _ v.ensures v.is-1.1) (omega arith)
