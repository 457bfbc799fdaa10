-- The refusal of a size or modulus that makes no kind. Assumes nothing.
--     bad_kind size   number 4, the size as the place, layer kind
use Rattle.std.specs.Prelude.{ℕ}
use Rattle.refusal.specs.declared.Refusal.{Refusal}
use Rattle.refusal.specs.declared.Fault.TheVariants.{BadKind}
use Rattle.refusal.specs.declared.Layer.TheVariants.{Kind}

abbrev pub bad_kind : ℕ → Refusal
bad_kind size = record { fault = BadKind; place = size; layer = Kind }
