use Rattle.buckets.proofs.Spreads.{spread}
use Rattle.buckets.proofs.Wipes.{wiped_means, wiped_sound}
use Rattle.buckets.proofs.chains.wipe.Goals as goal

pub returns-clause-sound : goal.returns-clause-sound
returns-clause-sound c = wiped_sound _ _ _ c.loop-k.invariant c.loop-k-test.false c.requires

pub returns-clause-means : goal.returns-clause-means
returns-clause-means c = wiped_means _ _ _ c.loop-k.invariant c.loop-k-test.false c.requires

pub returns-clause-law : goal.returns-clause-law
returns-clause-law c = spread
