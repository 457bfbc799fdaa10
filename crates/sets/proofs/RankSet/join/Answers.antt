use Rattle.std.proofs.Common.{rules, arith, inl, inr}
use Rattle.std.proofs.lemmas.Bool.{cases_lt}
use Rattle.std.proofs.lemmas.Grind.{common_steps}
use Rattle.sets.proofs.Worded.{value_or}
use Rattle.sets.proofs.RankSet.join.Goals as goal

pub returns : goal.returns
returns c =
    let s = c.args.self.now in
    let t = c.args.other.now in
    value_or s.words t.words c.from_fn-self.result s.sized.1 t.sized.1
    (λ k. elim (cases_lt k 8) [ inl l ↦ search rules | inr l ↦ grind (arith, common_steps) ])
