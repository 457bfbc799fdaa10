use Rattle.std.proofs.Common.{◌∷◌, ◌∙◌, length, ap, arith}
use Rattle.std.proofs.lemmas.Grind.{common_steps}
use Rattle.algebra.specs.Sets.{ranks_from}
use Rattle.algebra.proofs.Bitsets.{has_small}
use Rattle.algebra.proofs.RankLists.{ranks_none, ranks_next}
use Rattle.sets.specs.Numbers.{number}
use Rattle.sets.proofs.Numbers.{number_lt}
use Rattle.sets.proofs.ranks.RanksIterator.next.Goals as goal

pub returns-in_err-rank-clause-steps : goal.returns-in_err-rank-clause-steps
returns-in_err-rank-clause-steps c =
    let s = c.args.self.now in
    let e = ranks_none (number s.set) s.from c.in_err-rank.ensures in
    rw c.from_residual.ensures (e, e)

pub overflow_add-self : goal.overflow_add-self
overflow_add-self c =
    let s = c.args.self.now.set in
    omega (arith, has_small (number s) 512 c.in_ok-rank.rank (number_lt s) c.in_ok-rank.ensures.1)

pub returns-clause-steps : goal.returns-clause-steps
returns-clause-steps c =
    let s = c.args.self.now in
    let r = c.in_ok-rank.rank in
    let f = c.in_ok-rank.ensures in
    ranks_next (number s.set) s.from r f (has_small (number s.set) 512 r (number_lt s.set) f.1) ∙ ap (λ n. r ∷ ranks_from n (number s.set)) (omega arith)

pub returns-clause-goes : goal.returns-clause-goes
returns-clause-goes c =
    let s = c.args.self.now.set in
    let f = c.in_ok-rank.ensures in
    let shorter = ap length (returns-clause-steps c) in
    let small = has_small (number s) 512 c.in_ok-rank.rank (number_lt s) f.1 in
    grind (arith, common_steps, shorter, small, f.0)
