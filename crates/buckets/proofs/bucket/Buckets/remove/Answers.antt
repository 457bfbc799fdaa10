use Rattle.std.proofs.Common.{◌-◌, arith}
use Rattle.algebra.specs.Gathered.{set_at}
use Rattle.buckets.specs.Records.{contents}
use Rattle.buckets.proofs.Tables.{Wrote, found_at, count_le, found_counts, removed}
use Rattle.buckets.proofs.bucket.Buckets.remove.Goals.{After-release}
use Rattle.buckets.proofs.bucket.Buckets.remove.Goals as goal

written : (c : After-release) → Wrote c.args.self.now.slots.now c.release.new.slots (set_at (contents c.args.self.now.slots.now) c.args.i) 0 (c.args.self.now.count - 1)
written c = removed _ c.args.self.now.sound (found_at c.requires.taken) _ c.home_of-bucket.ensures.value c.home_of-bucket.ensures.bound
    c.place_of-before.ensures.place c.relink.ensures c.release.ensures

pub overflow_sub-last : goal.overflow_sub-last
overflow_sub-last c = count_le _ c.args.self.now.sound

pub release-requires-clause-spare : goal.release-requires-clause-spare
release-requires-clause-spare c = omega (arith, count_le _ c.args.self.now.sound, found_counts c.args.self.now.sound (found_at c.requires.taken), c.relink.ensures.long)

pub overflow_sub-self : goal.overflow_sub-self
overflow_sub-self c = found_counts c.args.self.now.sound (found_at c.requires.taken)

pub invariant_of-self : goal.invariant_of-self
invariant_of-self c = record { sound = (written c).sound }

pub returns-clause-means : goal.returns-clause-means
returns-clause-means c = (written (goal.at.returns-clause-means c).After-release).means
