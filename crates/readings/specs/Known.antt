-- Known examples, as one fact about the definitions that the contracts cite. Assumes nothing.
--     Known   what the definitions give at each example
use Rattle.std.specs.Prelude.{◌≡◌}
use Rattle.kind.specs.Counts.{counts}
use Rattle.kind.specs.Field.{field}

pub record Known : Type 0 where
  -- modulo X^2 + X + 1: X · X = X + 1
  pub smallest_field : (field 2 7).product 2 2 ≡ 3
  -- the multiplication example of the AES standard
  pub aes_product : (field 8 0x11B).product 0x57 0x83 ≡ 0xC1
  -- 2^16 · 2^16 = 2^32, which is 0 modulo 2^32
  pub widest_counts : (counts 32).product 65536 65536 ≡ 0
