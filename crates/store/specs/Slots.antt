-- The refusal of lent slots. Assumes nothing.
--     bad_slots n   number 17, the number of slots as the place, layer store
use Rattle.std.specs.Prelude.{ℕ}
use Rattle.refusal.specs.declared.Fault.TheVariants.{BadSlots}
use Rattle.refusal.specs.declared.Layer.TheVariants.{Store}
use Rattle.refusal.specs.declared.Refusal.{Refusal}

abbrev pub bad_slots : ℕ → Refusal
bad_slots slots = record { fault = BadSlots; place = slots; layer = Store }
