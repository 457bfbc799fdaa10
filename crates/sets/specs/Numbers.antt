-- A set of ranks as a number (`Sets` of the algebra says what such a number means). Assumes nothing.
--     number s   the number that has bit r where the rank r is in s
use Rattle.std.specs.Prelude.{ℕ}
use Rattle.sets.specs.declared.RankSet.{RankSet}
use Rattle.sets.specs.Words.{value}

abbrev pub number : RankSet → ℕ
number s = value s.words
