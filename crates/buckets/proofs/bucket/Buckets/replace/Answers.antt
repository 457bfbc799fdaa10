use Rattle.buckets.proofs.Tables.{found_at, replaced}
use Rattle.buckets.proofs.bucket.Buckets.replace.Goals as goal

pub invariant_of-self : goal.invariant_of-self
invariant_of-self c = record { sound = (replaced _ c.args.self.now.sound (found_at c.requires.taken) _ c.requires.some c.ranges.code.fits _).sound }

pub returns-clause-means : goal.returns-clause-means
returns-clause-means c = (replaced _ c.args.self.now.sound (found_at c.requires.taken) _ c.requires.some c.ranges.code.fits _).means
