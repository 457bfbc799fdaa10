use Rattle.std.proofs.Common.{rules, sym, ap, ◌∙◌, ◌+◌}
use Rattle.sheet.specs.Index.{index}
use Rattle.sheet.proofs.Indices.{indexed_after}
use Rattle.sheet.proofs.draft.Draft.declare_input.Goals as goal

pub invariant_of-self : goal.invariant_of-self
invariant_of-self c =
    let d = c.args.self.now in
    let after = indexed_after _ _ d.sheet.inputs.items c.args.label (c.len.result + 1) _ _ d.indexed (search rules) (search rules) c.write.ensures.wrote in
    record { large = c.write.ensures.room ∙ d.large; indexed = after ∙ ap index (sym c.push.ensures.items) }
