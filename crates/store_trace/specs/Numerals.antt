-- The numbers of a line: decimal digits, and ranks. Assumes nothing.
--     ReadsBelow limit bytes r   r is the number that the bytes write as decimal digits; none where they are no such digits, or the number is not below the limit
--     AreRanks xs                all are below 512
--     set_of xs                  the set of some ranks
use Rattle.std.specs.Prelude.{ℕ, ◌<◌, List, All, fold, Option}
use Rattle.std.specs.Option.{SomeIff}
use Rattle.std.specs.Str.Parse.{IsNumeral, digits_value}
use Rattle.algebra.specs.Sets.{inserted}

abbrev pub ReadsBelow : ℕ → List ℕ → Option ℕ → Type 0
ReadsBelow limit bytes r = SomeIff r (IsNumeral 10 bytes × (digits_value 10 bytes < limit)) (digits_value 10 bytes)

abbrev pub AreRanks : List ℕ → Type 0
AreRanks xs = All (λ k. k < 512) xs

abbrev pub set_of : List ℕ → ℕ
set_of xs = fold inserted 0 xs
