use Rattle.std.proofs.Common.{◌+◌, arith}
use Rattle.sets.specs.Numbers.{number}
use Rattle.buckets.proofs.Tables.{Wrote, count_le, inserted}
use Rattle.buckets.proofs.Answers.{granted, refused}
use Rattle.buckets.proofs.bucket.Buckets.insert.Goals.{After-relink}
use Rattle.buckets.proofs.bucket.Buckets.insert.Goals as goal

written : (c : After-relink) → Wrote c.args.self.now.slots.now c.relink.new.slots (number c.args.set.now) c.args.code (c.args.self.now.count + 1)
written c = inserted _ c.args.self.now.sound _ _ c.requires.absent c.requires.some c.ranges.code.fits c.if-self-n.false
    c.last_spare-free.ensures.value c.home_of-bucket.ensures.value c.home_of-bucket.ensures.bound
    c.place_of-before.ensures.place c.link_at-next.ensures c.take.ensures c.relink.ensures

pub returns-then-self-n-clause-wrote : goal.returns-then-self-n-clause-wrote
returns-then-self-n-clause-wrote c = refused _ _ _ c.args.self.now.sound c.requires.absent c.requires.some c.if-self-n.true

pub last_spare-free-requires : goal.last_spare-free-requires
last_spare-free-requires c = omega (arith, count_le _ c.args.self.now.sound, c.if-self-n.false)

pub overflow_add-self : goal.overflow_add-self
overflow_add-self c = record { fits = omega (arith, count_le _ c.args.self.now.sound, c.args.self.now.sound.few) }

pub invariant_of-self : goal.invariant_of-self
invariant_of-self c = record { sound = (written c).sound }

pub returns-clause-wrote : goal.returns-clause-wrote
returns-clause-wrote c =
    let w = written (goal.at.returns-clause-wrote c).After-relink in
    granted _ _ _ _ w.long w.means
