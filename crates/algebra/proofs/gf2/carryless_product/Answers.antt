use Rattle.std.proofs.Common.{◌≡◌, ℕ, ◌/◌, ◌^◌, ◌<◌, sym, ap, ◌∙◌, subst, lt_of_le_of_lt, arith}
use native.Mathlib.Nat.{div-eq_of_lt}
use lib.Pow.{shr_le}
use Rattle.algebra.specs.Gf2.{◌⊗◌}
use Rattle.algebra.proofs.Product.{times_zero}
use Rattle.algebra.proofs.OnlyProduct.{product_law}
use Rattle.algebra.proofs.Long.{long_one, long_none, times_lt}
use Rattle.algebra.proofs.gf2.carryless_product.Goals as goal

-- whatever part of b is gone through, the product is below 2^15
short : (a b i sum : ℕ) → a < 2 ^ 8 → b < 2 ^ 8 → sum ≡ a ⊗ (b / 2 ^ i) → sum < 2 ^ 15
short a b i sum ha hb e = subst (λ (x : ℕ). x < 2 ^ 15) (sym e) (times_lt 7 7 a (b / 2 ^ i) ha (lt_of_le_of_lt (shr_le b i) hb))

pub loop-i-init : goal.loop-i-init
loop-i-init c = sym (ap (λ (x : ℕ). c.args.a ⊗ x) (div-eq_of_lt c.ranges.b.fits) ∙ times_zero c.args.a)

pub overflow_mul-sum : goal.overflow_mul-sum
overflow_mul-sum c = record { fits = omega (arith, short c.args.a c.args.b c.loop-i.i c.loop-i.sum c.ranges.a.fits c.ranges.b.fits c.loop-i.invariant) }

pub loop-i-preserved-then-b-i-eq1 : goal.loop-i-preserved-then-b-i-eq1
loop-i-preserved-then-b-i-eq1 c =
    let e = long_one c.args.a c.args.b c.loop-i.i (omega arith) c.if-b-i-eq1.true in
    cc

pub loop-i-preserved : goal.loop-i-preserved
loop-i-preserved c =
    let e = long_none c.args.a c.args.b c.loop-i.i (omega arith) c.if-b-i-eq1.false in
    cc

pub returns-clause-bound : goal.returns-clause-bound
returns-clause-bound c = short c.args.a c.args.b c.loop-i.i c.loop-i.sum c.ranges.a.fits c.ranges.b.fits c.loop-i.invariant

pub returns-clause-law : goal.returns-clause-law
returns-clause-law c = product_law
