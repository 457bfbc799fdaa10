-- Slots that are freed one after another.
use Rattle.std.proofs.Common.{◌≡◌, ℕ, ◌<◌, ◌≤◌, List, [], length, get_or, sym, ap, arith}
use Rattle.algebra.specs.Gathered.{number_at, gather}
use Rattle.algebra.proofs.Gathers.{gather_none}
use Rattle.buckets.specs.declared.term.Term.{Term}
use Rattle.buckets.specs.declared.term.TheConstants.{NONE}
use Rattle.buckets.specs.Records.{contents, firsts, spares, Sound}
use Rattle.buckets.proofs.Fields.{length_contents}

-- the slots below k are free, their buckets empty, and each is its own spare
pub record WipedTo (xs ys : List Term) (k : ℕ) : Type 0 where
  pub long : length xs ≡ length ys
  pub free : (i : ℕ) → i < k → number_at (contents xs) i ≡ 0
  pub none : (i : ℕ) → i < k → get_or (firsts xs) i 0 ≡ NONE
  pub own : (i : ℕ) → i < k → get_or (spares xs) i 0 ≡ i

module _ (xs ys : List Term) (k : ℕ) (w : WipedTo xs ys k) (l : length ys ≤ k) (few : length ys ≤ 65536) where
  all_free : (i : ℕ) → i < length (contents xs) → number_at (contents xs) i ≡ 0
  all_free i m = let e = w.long in w.free i (omega (arith, length_contents xs))

  pub wiped_means : gather (contents xs) ≡ []
  wiped_means = gather_none (contents xs) all_free

  pub wiped_sound : Sound xs 0
  wiped_sound = record {
    few = omega (arith, w.long);
    counted = sym (ap length wiped_means);
    apart = λ i j t. grind (arith, all_free j);
    bounded = λ i m. omega (arith, all_free i m);
    first = λ b m. grind (arith, length_contents xs, w.long, w.none b, all_free);
    next = λ j t. grind (arith, all_free j);
    spare = λ i m. grind (arith, length_contents xs, w.long, w.own i, all_free i);
    distinct = λ i j a m q. grind (arith, w.long, w.own i, w.own j);
  }
