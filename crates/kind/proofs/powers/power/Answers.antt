use Rattle.std.proofs.Common.{rules}
use Rattle.algebra.proofs.Multiples.{products, powers}
use Rattle.kind.proofs.powers.power.Goals as goal

pub returns-clause-value : goal.returns-clause-value
returns-clause-value g c =
    let k = c.args.kind.now in
    let r = g.K.Kind.ring k in
    let e = rw c.one.ensures at c.repeated.ensures in
    e r.code r.product (products r (g.met.K.Kind.lawful k).laws) (λ a b x s t p. search rules) c.requires

pub returns-clause-law : goal.returns-clause-law
returns-clause-law g c = powers _ (g.met.K.Kind.lawful c.args.kind.now)
