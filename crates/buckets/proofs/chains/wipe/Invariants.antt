use Rattle.buckets.proofs.Wipes.{WipedTo}
use Rattle.buckets.proofs.chains.wipe.Given as goal

abbrev pub invariant-loop-k : goal.invariant-loop-k
invariant-loop-k l = WipedTo l.slots l.initial.slots l.k
