-- What a bounded list holds. Assumes nothing.
--     held b   its elements, in order
use Rattle.std.specs.Prelude.{ℕ, List, take}
use Rattle.sheet.specs.declared.bounded.Bounded.{Bounded}

abbrev pub held : {T : Type 0} {N : ℕ} → Bounded T N → List T
held b = take b.len b.items
