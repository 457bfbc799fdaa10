use Rattle.std.proofs.Common.{arith}
use lib.Bits.{or_lt}
use Rattle.std.proofs.lemmas.Grind.{common_steps}
use Rattle.sets.proofs.Worded.{value_insert}
use Rattle.sets.proofs.RankSet.insert.Goals as goal

pub invariant_of-self : goal.invariant_of-self
invariant_of-self c = record { sized = grind (arith, common_steps, or_lt 64) }

pub returns-then-rank-lt-RANKS : goal.returns-then-rank-lt-RANKS
returns-then-rank-lt-RANKS c = rw c.from.ensures (value_insert c.args.self.now.words c.args.rank c.args.self.now.sized c.if-rank-lt-RANKS.true)
