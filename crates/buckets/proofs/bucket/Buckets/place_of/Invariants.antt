use Rattle.std.proofs.Common.{◌≡◌, ◌-◌, length}
use Rattle.buckets.specs.Chains.{After, link}
use Rattle.buckets.specs.Records.{home, contents, firsts, nexts}
use Rattle.buckets.proofs.bucket.Buckets.place_of.Given as goal

-- i is what the place links to, which comes after slots below j
abbrev pub invariant-loop-i : goal.invariant-loop-i
invariant-loop-i l =
    let xs = l.self.slots.now in
    record {
      linked : l.i ≡ link (firsts xs) (nexts xs) l.b l.before;
      after : After (home (length xs)) (contents xs) l.b l.j l.before;
    }

abbrev pub decreases-loop-i : goal.decreases-loop-i
decreases-loop-i l = l.j - l.i
