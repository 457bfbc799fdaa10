use Rattle.std.proofs.Common.{◌≡◌, nat_eq, fold, rules, tests, ap, ◌∙◌, arith}
use lib.Bits.{bit_or, and_comm, or_comm}
use Rattle.std.proofs.lemmas.Iterator.{YieldsList-from_slice, YieldsList-from_zip}
use Rattle.std.proofs.lemmas.Iterator.Consumers.{fold_from_yields_List}
use Rattle.std.specs.List.{zip}
use Rattle.sets.proofs.Worded.{lacking, fold-within}
use Rattle.sets.proofs.RankSet.is_within.Goals as goal

pub returns : goal.returns
returns c =
    let s = c.args.self.now in
    let t = c.args.other.now in
    let e : c.fold-missing.result ≡ fold (λ bits p. bit_or bits (lacking p)) 0 (zip s.words t.words) =
    fold_from_yields_List _ (λ bits p. bit_or bits (lacking p)) 0 _ c.fold-missing.ensures.ran
    (YieldsList-from_zip (YieldsList-from_slice s.words cc) (YieldsList-from_slice t.words cc)) (λ a x b q k. search (rules, tests, and_comm, or_comm)) in
    ap (λ n. nat_eq n 0) e ∙ fold-within 0 s.words t.words (omega (arith, s.sized.0, t.sized.0)) s.sized.1 t.sized.1
