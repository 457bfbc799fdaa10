use Rattle.std.proofs.Common.{◌≡◌, fold, rules, ◌∙◌, ap}
use Rattle.sets.specs.Hash.{mix, hashed}
use Rattle.sets.specs.Numbers.{number}
use Rattle.sets.proofs.Hashes.{fold-mix}
use Rattle.sets.proofs.RankSet.hash.Goals as goal

pub returns : goal.returns
returns c =
    let s = c.args.self.now in
    let e : c.fold.result ≡ fold mix 0 s.words = search rules in
    e ∙ fold-mix s.words 0 s.sized.1 ∙ ap (λ n. hashed n 0 (number s)) s.sized.0
