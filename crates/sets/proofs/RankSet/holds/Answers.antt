use Rattle.std.proofs.Common.{arith, sym, ◌∙◌}
use Rattle.std.proofs.lemmas.Bool.{le-ltb}
use Rattle.algebra.proofs.Bitsets.{has_past, membership}
use Rattle.sets.specs.Numbers.{number}
use Rattle.sets.proofs.Numbers.{number_lt}
use Rattle.sets.proofs.Worded.{value_has}
use Rattle.sets.proofs.RankSet.holds.Goals as goal

pub returns-then-rank-lt-RANKS : goal.returns-then-rank-lt-RANKS
returns-then-rank-lt-RANKS c =
    let s = c.args.self.now in
    record { value = value_has s.words c.args.rank _ _ s.sized.1 (omega (arith, c.from.ensures)) (omega arith); law = membership }

pub returns-else-rank-lt-RANKS : goal.returns-else-rank-lt-RANKS
returns-else-rank-lt-RANKS c =
    let s = c.args.self.now in
    let r = c.args.rank in
    let past = c.if-rank-lt-RANKS.false in
    record { value = le-ltb r 512 past ∙ sym (has_past (number s) 512 r (number_lt s) past); law = membership }
