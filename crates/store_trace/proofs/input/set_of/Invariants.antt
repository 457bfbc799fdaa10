use Rattle.std.proofs.Common.{◌≡◌, take}
use Rattle.sets.specs.Numbers.{number}
use Rattle.store_trace.specs.Numerals.{AreRanks, set_of}
use Rattle.store_trace.proofs.input.set_of.Given as goal

-- the set of the ranks so far, each of them a rank
abbrev pub invariant-loop-rank : goal.invariant-loop-rank
invariant-loop-rank l = AreRanks (take l.rank-index l.ranks) × (number l.«set» ≡ set_of (take l.rank-index l.ranks))
