-- How the sets of a table are spread over its buckets, and which slots a search goes through. Assumes nothing.
--     walk xs steps i   the slots from i on, each by the link of the one before, in at most `steps` steps; what is no slot ends the walk
--     chain xs b        the slots that a search goes through, for a set of the bucket b that has none
--     lies xs b k       the slot k is not free, and its set is of the bucket b
--     Spread xs         no set has two slots, the number of a set is that of its slot, and 0 where it has none; and a search of a bucket goes through its slots, from the lowest to the highest, and through no others
--     EverSpread        so it is, whatever a table has gone through
use Rattle.std.specs.Prelude.{◌≡◌, ℕ, zero, suc, ◌<◌, Bool, if◌then◌else◌, ◌&&◌, List, [], ◌∷◌, length, filter, ◌==◌, nat_lt, slice_index}
use Rattle.std.specs.List.{range_with_len}
use Rattle.algebra.specs.Poly.{at}
use Rattle.algebra.specs.Gathered.{set_at, number_at, gather, Absent, Apart}
use Rattle.buckets.specs.declared.term.Term.{Term}
use Rattle.buckets.specs.Chains.{Taken}
use Rattle.buckets.specs.Records.{home, contents, firsts, nexts, Sound}

abbrev pub walk : List Term → ℕ → ℕ → List ℕ
walk xs zero i = []
walk xs (suc steps) i = if nat_lt i (length xs) then i ∷ walk xs steps (slice_index (nexts xs) i) else []

abbrev pub chain : List Term → ℕ → List ℕ
chain xs b = walk xs (length xs) (slice_index (firsts xs) b)

abbrev pub lies : List Term → ℕ → ℕ → Bool
lies xs b k = nat_lt 0 (number_at (contents xs) k) && home (length xs) (set_at (contents xs) k) == b

pub record Spread (xs : List Term) : Type 0 where
  pub once : Apart (contents xs)
  pub numbers : (k : ℕ) → Taken (contents xs) k → at (gather (contents xs)) (set_at (contents xs) k) ≡ number_at (contents xs) k
  pub others : (S : ℕ) → Absent (contents xs) S → at (gather (contents xs)) S ≡ 0
  pub chains : (b : ℕ) → b < length xs → chain xs b ≡ filter (lies xs b) (range_with_len 0 (length xs))

abbrev pub EverSpread : Type 0
EverSpread = (xs : List Term) (count : ℕ) → Sound xs count → Spread xs
