-- What the numbers of a line say. Assumes nothing.
--     only_number xs           the number of a line that has no other
--     IsWrite xs               there are numbers, and all but the first are ranks
--     SaysWrite xs r           r is the write that they say: the number, and then the ranks of the set
--     Took xs n m ws vs fine   what the slots n and the writes ws so far become, and whether the numbers say anything: first the number of slots, and then writes
use Rattle.std.specs.Prelude.{◌≡◌, ℕ, ◌<◌, Bool, List, [], ◌∷◌, ◌++◌, length, drop, is_some, Some, None, Option, slice_index}
use Rattle.std.specs.Option.{SomeIff, option_map, option_to_list}
use Rattle.sets.specs.Numbers.{number}
use Rattle.sets.specs.declared.RankSet.{RankSet}
use Rattle.store_trace.specs.Numerals.{AreRanks, set_of}
use Rattle.store.specs.Terms.{term}
use Rattle.store.specs.declared.slot.Slot.{Slot}

abbrev pub only_number : List ℕ → Option ℕ
only_number [] = None
only_number (n ∷ []) = Some n
only_number (n ∷ (m ∷ xs)) = None

abbrev pub IsWrite : List ℕ → Type 0
IsWrite xs = (0 < length xs) × AreRanks (drop 1 xs)

abbrev pub SaysWrite : List ℕ → Option (Slot RankSet) → Type 0
SaysWrite xs r = SomeIff (option_map (term number) r) (IsWrite xs) (set_of (drop 1 xs), slice_index xs 0)

abbrev pub Took : List ℕ → Option ℕ → Option ℕ → List (Slot RankSet) → List (Slot RankSet) → Bool → Type 0
Took xs None slots ws vs fine = (slots ≡ only_number xs) × (vs ≡ ws) × (fine ≡ is_some (only_number xs))
Took xs (Some n) slots ws vs fine = (slots ≡ Some n) × ((e : Option (Slot RankSet)) × SaysWrite xs e × (vs ≡ ws ++ option_to_list e) × (fine ≡ is_some e))
