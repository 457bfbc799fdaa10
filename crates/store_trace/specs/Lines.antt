-- The line that names what is malformed. Assumes nothing.
--     text_of m   `line N is no number of slots`, or `line N is no write`, the number in decimal
use Rattle.std.specs.Prelude.{ℕ, List, ◌++◌, codes, decimal}
use Rattle.store_trace.specs.declared.input.Malformed.{Malformed}
use Rattle.store_trace.specs.declared.input.Malformed.TheVariants.{NoSlots, NoWrite}

abbrev pub text_of : Malformed → List ℕ
text_of (NoSlots line) = codes "line " ++ (decimal line ++ codes " is no number of slots")
text_of (NoWrite line) = codes "line " ++ (decimal line ++ codes " is no write")
