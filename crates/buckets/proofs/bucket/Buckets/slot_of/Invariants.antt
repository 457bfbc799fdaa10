use Rattle.std.proofs.Common.{◌≡◌, ℕ, ◌-◌, ◌<◌, ◌≤◌, length}
use Rattle.sets.specs.Numbers.{number}
use Rattle.algebra.specs.Gathered.{set_at, number_at}
use Rattle.buckets.specs.Chains.{Member}
use Rattle.buckets.specs.Records.{home, contents}
use Rattle.buckets.proofs.bucket.Buckets.slot_of.Given as goal

-- i is a slot of the set's bucket, or none; a slot of the set is not before i
abbrev pub invariant-loop-i : goal.invariant-loop-i
invariant-loop-i l =
    let ts = contents l.slots in
    let h = home (length l.slots) in
    let S = number l.set in
    record {
      here : l.i < length ts → (0 < number_at ts l.i) × (h (set_at ts l.i) ≡ h S);
      left : (k : ℕ) → Member h ts (h S) 0 k → set_at ts k ≡ S → l.i ≤ k;
    }

abbrev pub decreases-loop-i : goal.decreases-loop-i
decreases-loop-i l = l.n - l.i
