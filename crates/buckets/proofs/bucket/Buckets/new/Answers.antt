use Rattle.buckets.proofs.Spreads.{spread}
use Rattle.buckets.proofs.bucket.Buckets.new.Goals as goal

pub returns-clause-spread : goal.returns-clause-spread
returns-clause-spread c = λ b. spread b.slots.now b.count b.sound
