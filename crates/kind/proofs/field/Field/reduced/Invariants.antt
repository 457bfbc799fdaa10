use Rattle.std.proofs.Common.{◌≡◌, ◌^◌, ◌<◌}
use Rattle.algebra.specs.Gf2.{remainder}
use Rattle.kind.proofs.field.Field.reduced.Given as goal

abbrev pub invariant-loop-i : goal.invariant-loop-i
invariant-loop-i l =
    (l.rest < 2 ^ l.i) × (remainder l.self.degree l.self.modulus l.rest ≡ remainder l.self.degree l.self.modulus l.x)
