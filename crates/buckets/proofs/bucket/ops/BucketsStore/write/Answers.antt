use Rattle.std.proofs.Common.{arith}
use Rattle.std.proofs.lemmas.Grind.{common_steps}
use Rattle.buckets.proofs.Answers.{granted_as, nothing}
use Rattle.buckets.proofs.bucket.ops.BucketsStore.write.Goals as goal

-- that the number written is the one that was given is found each time, so that the body may name it otherwise

pub returns-in-Some-eq0-clause-wrote : goal.returns-in-Some-eq0-clause-wrote
returns-in-Some-eq0-clause-wrote c = granted_as _ _ _ _ c.remove.ensures.long c.in-Some-eq0.ensures.found.is c.remove.ensures.means (grind (arith, common_steps))

pub returns-in-Some-default-clause-wrote : goal.returns-in-Some-default-clause-wrote
returns-in-Some-default-clause-wrote c = granted_as _ _ _ _ c.replace.ensures.long c.in-Some-default.ensures.found.is c.replace.ensures.means (grind (arith, common_steps))

pub returns-in-None-eq0-clause-wrote : goal.returns-in-None-eq0-clause-wrote
returns-in-None-eq0-clause-wrote c = nothing _ _ _ (rw c.in-None-eq0.is-0 at c.slot_of.ensures.found) (grind (arith, common_steps))
