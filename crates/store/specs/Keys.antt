-- The numbers that keys stand for; that of a set of ranks is `number` of the sets. Assumes nothing.
--     label_number label   the label itself
use Rattle.std.specs.Prelude.{ℕ}

abbrev pub label_number : ℕ → ℕ
label_number label = label
