use Rattle.std.proofs.Common.{sym, rules}
use Rattle.std.proofs.lemmas.Bool.{both_ways}
use Rattle.algebra.proofs.Multiples.{sums, many_outside, multiples}
use Rattle.kind.proofs.multiples.many.Goals as goal

pub returns-then-not-is_code-clause-value : goal.returns-then-not-is_code-clause-value
returns-then-not-is_code-clause-value g c =
    let k = c.args.kind.now in
    sym (many_outside (g.K.Kind.ring k) (g.met.K.Kind.lawful k) c.args.times c.args.code (both_ways _ (sym c.if-not-is_code.ensures)))

pub returns-then-not-is_code-clause-law : goal.returns-then-not-is_code-clause-law
returns-then-not-is_code-clause-law g c = multiples _ (g.met.K.Kind.lawful c.args.kind.now)

pub returns-clause-value : goal.returns-clause-value
returns-clause-value g c =
    let k = c.args.kind.now in
    let r = g.K.Kind.ring k in
    c.repeated.ensures r.code r.sum (sums r (g.met.K.Kind.lawful k).laws) (λ a b x s t p. search rules) (sym c.if-not-is_code.ensures)

pub returns-clause-law : goal.returns-clause-law
returns-clause-law g c = multiples _ (g.met.K.Kind.lawful c.args.kind.now)
