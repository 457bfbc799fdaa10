use Rattle.std.proofs.Common.{arith}
use lib.ListN.{length-replicate}
use Rattle.sheet.proofs.bounded.Bounded.new.Goals as goal

pub invariant_of-result : goal.invariant_of-result
invariant_of-result g c = record { filled = length-replicate g.row.N c.args.blank; within = omega arith }
