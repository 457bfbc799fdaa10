use Rattle.sheet.proofs.Indices.{known}
use Rattle.sheet.proofs.draft.Draft.is_declared.Goals as goal

pub returns : goal.returns
returns c = known _ _ _ _ c.read.ensures c.args.self.now.indexed
