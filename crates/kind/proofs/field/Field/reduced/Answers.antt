use Rattle.std.proofs.Common.{◌≡◌, ◌-◌, ◌<◌, ◌≤◌, suc, ◌+◌, sym, ◌∙◌, subst, lt_of_lt_of_le, arith, pow_mono, shl_exact}
use Rattle.algebra.specs.Gf2.{remainder, OnlyRemainder}
use Rattle.algebra.proofs.Remainders.{remainder_small, only_remainder}
use Rattle.algebra.proofs.Division.{division_step}
use Rattle.kind.proofs.field.Field.reduced.Goals as goal

pub loop-i-preserved-then-rest-i-eq1 : goal.loop-i-preserved-then-rest-i-eq1
loop-i-preserved-then-rest-i-eq1 c =
    let f = c.args.self.now in
    let i = c.loop-i.i in
    let l : f.degree < i = omega arith in
    let s = division_step i c.loop-i.rest (omega arith) c.loop-i.invariant.0 f.degree f.modulus f.sized.degree l c.if-rest-i-eq1.true in
    let m : suc f.degree + (i - 1 - f.degree) ≤ 32 = omega (arith, c.loop-i.auto.i) in
    rw (shl_exact (suc f.degree) (i - 1 - f.degree) 32 f.sized.degree.1 m) (s.0, s.1 ∙ c.loop-i.invariant.1)

pub returns : goal.returns
returns c =
    let f = c.args.self.now in
    let l = lt_of_lt_of_le c.loop-i.invariant.0 (pow_mono c.loop-i-test.false) in
    let e : c.loop-i.rest ≡ remainder f.degree f.modulus c.args.x = sym (remainder_small f.degree f.modulus f.sized.degree c.loop-i.rest l) ∙ c.loop-i.invariant.1 in
    record { value = e; only = subst (OnlyRemainder f.degree f.modulus c.args.x) (sym e) (only_remainder f.degree f.modulus f.sized.degree c.args.x) }
