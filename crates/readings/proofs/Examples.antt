-- The examples in fields, by computing the definitions. Assumes nothing.
use Rattle.std.proofs.Common.{◌≡◌, refl}
use Rattle.algebra.specs.Gf2.{◌⊗◌, carryless, remainder, reduce}
use Rattle.kind.specs.Field.{field}

pub smallest_field : (field 2 7).product 2 2 ≡ 3
unfolding ◌⊗◌ carryless remainder reduce
smallest_field = refl

pub aes_product : (field 8 0x11B).product 0x57 0x83 ≡ 0xC1
unfolding ◌⊗◌ carryless remainder reduce
aes_product = refl
