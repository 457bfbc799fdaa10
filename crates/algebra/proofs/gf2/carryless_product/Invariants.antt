use Rattle.std.proofs.Common.{◌≡◌, ◌/◌, ◌^◌}
use Rattle.algebra.specs.Gf2.{◌⊗◌}
use Rattle.algebra.proofs.gf2.carryless_product.Given as goal

abbrev pub invariant-loop-i : goal.invariant-loop-i
invariant-loop-i l = l.sum ≡ l.a ⊗ (l.b / 2 ^ l.i)
