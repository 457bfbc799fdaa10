-- The ranks of a set one by one. Assumes nothing.
--     upcoming it    the ranks that an iterator will give
use Rattle.std.specs.Prelude.{ℕ, List}
use Rattle.algebra.specs.Sets.{ranks_from}
use Rattle.sets.specs.declared.ranks.Ranks.{Ranks}
use Rattle.sets.specs.Numbers.{number}

abbrev pub upcoming : Ranks → List ℕ
upcoming it = ranks_from it.from (number it.set)
