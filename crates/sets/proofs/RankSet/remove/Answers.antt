use Rattle.std.proofs.Common.{◌^◌, ◌-◌, sym}
use Rattle.std.proofs.lemmas.Bool.{cond-false}
use Rattle.algebra.specs.Sets.{has}
use Rattle.algebra.proofs.Bitsets.{has_past}
use Rattle.sets.specs.Numbers.{number}
use Rattle.sets.proofs.Numbers.{number_lt}
use Rattle.sets.proofs.Worded.{value_remove}
use Rattle.sets.proofs.RankSet.remove.Goals as goal

pub returns-then-rank-lt-RANKS : goal.returns-then-rank-lt-RANKS
returns-then-rank-lt-RANKS c = rw c.from.ensures (value_remove c.args.self.now.words c.args.rank c.args.self.now.sized c.if-rank-lt-RANKS.true)

pub returns-else-rank-lt-RANKS : goal.returns-else-rank-lt-RANKS
returns-else-rank-lt-RANKS c =
    let s = c.args.self.now in
    let r = c.args.rank in
    sym (cond-false (has (number s) r) (number s - 2 ^ r) (number s) (has_past (number s) 512 r (number_lt s) c.if-rank-lt-RANKS.false))
