use Rattle.std.proofs.Common.{ℕ, Bool, IsTrue}
use Rattle.algebra.specs.Repeated.{Monoid, Computes}
use Rattle.algebra.proofs.Repeats.{Doubling}
use Rattle.kind.proofs.repeated.repeated.Given as goal

abbrev pub invariant-loop-rest : goal.invariant-loop-rest
invariant-loop-rest g l =
    goal.F-IsAlwaysCallable g l.join
    × ((is : ℕ → Bool) (op : ℕ → ℕ → ℕ) → Monoid (λ a. IsTrue (is a)) op l.unit → Computes (goal.F-post g l.join) is op → IsTrue (is l.number)
    → Doubling (λ a. IsTrue (is a)) op l.unit l.times l.number l.done l.double l.rest)

abbrev pub decreases-loop-rest : goal.decreases-loop-rest
decreases-loop-rest g l = l.rest
