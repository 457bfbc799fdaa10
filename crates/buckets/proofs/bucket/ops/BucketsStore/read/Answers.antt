use Rattle.std.proofs.Common.{sym}
use Rattle.algebra.proofs.Gathers.{at_absent}
use Rattle.buckets.proofs.Tables.{reads}
use Rattle.buckets.proofs.bucket.ops.BucketsStore.read.Goals as goal

pub returns-in-Some : goal.returns-in-Some
returns-in-Some c = sym (reads _ c.args.self.now.sound c.in-Some.ensures.found _)

pub returns-in-None : goal.returns-in-None
returns-in-None c = sym (at_absent _ _ c.in-None.ensures.found)
