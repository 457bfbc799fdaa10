-- A sheet under construction. Assumes nothing.
--     drafted d          the sheet as it stands
--     input_answer s l   what the declaration of an input answers: one beyond 512 is refused, and then a label declared before
--     with_input s l     the sheet with one input more
use Rattle.std.specs.Prelude.{ℕ, [], ◌∷◌, ◌++◌, length, Result, Ok, Err, nat_lt, if◌then◌else◌}
use Rattle.refusal.specs.declared.Fault.{Fault}
use Rattle.refusal.specs.declared.Fault.TheVariants.{Duplicate, TooMany}
use Rattle.sheet.specs.declared.draft.Draft.{Draft}
use Rattle.sheet.specs.Sheets.{Sheet, sheet_of, has}

abbrev pub drafted : Draft → Sheet
drafted d = sheet_of d.sheet

abbrev pub input_answer : Sheet → ℕ → Result (Unit {0}) Fault
input_answer s l = if nat_lt (length s.inputs) 512 then (if has l s.inputs then Err Duplicate else Ok tt) else Err TooMany

abbrev pub with_input : Sheet → ℕ → Sheet
with_input s l = record s { inputs = s.inputs ++ l ∷ [] }
