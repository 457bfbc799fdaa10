-- Chains of slots. Each slot that is not free lies in one bucket, and a bucket's slots are chained from the lowest to the highest. `home` gives
-- the bucket of a set, `ts` the slots, `fs` the first slot of each bucket, `ns` the next slot after each; a number that is no slot's ends a
-- chain. Assumes nothing.
--     Taken ts k                  the slot k is not free
--     Member home ts b from k     k is a slot of the bucket b, from `from` on
--     Leads home ts b from i      i is the first slot of the bucket b from `from` on; where there is none, i is no slot
--     Firsts home ts fs           each bucket knows its first slot
--     Nexts home ts ns            each slot that is not free knows the next one of its bucket
--     Spares ts ss free           the first `free` spares are free slots
--     Distinct ss free            and no two of them are the same
--     link fs ns b p              what a place in the chain of b links to; a place p is at the front of the bucket, or after a slot
--     relinked_firsts fs b p x    the first slots once the place p links to x
--     relinked_nexts ns p x       and the next slots
--     After home ts b j p         the place comes after slots of b that are below the slot j
--     Place home ts fs ns b j p   p is the place in the chain of b where the slot j stands, or would
use Rattle.std.specs.Prelude.{◌≡◌, ℕ, suc, ◌<◌, ◌≤◌, List, length, Some, None, Option, ◌≢◌, slice_index, slice_set}
use Rattle.algebra.specs.Gathered.{Slots, set_at, number_at}

pub record Taken (ts : Slots) (k : ℕ) : Type 0 where
  pub within : k < length ts
  pub stands : 0 < number_at ts k

pub record Member (home : ℕ → ℕ) (ts : Slots) (b from k : ℕ) : Type 0 where
  pub within : k < length ts
  pub stands : 0 < number_at ts k
  pub homed : home (set_at ts k) ≡ b
  pub after : from ≤ k

abbrev pub Leads : (ℕ → ℕ) → Slots → ℕ → ℕ → ℕ → Type 0
Leads home ts b from i =
    (from ≤ i)
    × (i < length ts → (0 < number_at ts i) × (home (set_at ts i) ≡ b))
    × ((k : ℕ) → Member home ts b from k → i ≤ k)

abbrev pub Firsts : (ℕ → ℕ) → Slots → List ℕ → Type 0
Firsts home ts fs = (b : ℕ) → b < length ts → Leads home ts b 0 (slice_index fs b)

abbrev pub Nexts : (ℕ → ℕ) → Slots → List ℕ → Type 0
Nexts home ts ns = (j : ℕ) → Taken ts j → Leads home ts (home (set_at ts j)) (suc j) (slice_index ns j)

abbrev pub Spares : Slots → List ℕ → ℕ → Type 0
Spares ts ss free = (k : ℕ) → k < free → (slice_index ss k < length ts) × (number_at ts (slice_index ss k) ≡ 0)

abbrev pub Distinct : List ℕ → ℕ → Type 0
Distinct ss free = (k l : ℕ) → k < l → l < free → slice_index ss k ≢ slice_index ss l

-- ---- a place in a chain: at the front of a bucket, or after one of its slots

abbrev pub link : List ℕ → List ℕ → ℕ → Option ℕ → ℕ
link fs ns b None = slice_index fs b
link fs ns b (Some q) = slice_index ns q

abbrev pub relinked_firsts : List ℕ → ℕ → Option ℕ → ℕ → List ℕ
relinked_firsts fs b None x = slice_set fs b x
relinked_firsts fs b (Some q) x = fs

abbrev pub relinked_nexts : List ℕ → Option ℕ → ℕ → List ℕ
relinked_nexts ns None x = ns
relinked_nexts ns (Some q) x = slice_set ns q x

abbrev pub After : (ℕ → ℕ) → Slots → ℕ → ℕ → Option ℕ → Type 0
After home ts b j None = Unit {0}
After home ts b j (Some q) = Member home ts b 0 q × (q < j)

pub record Place (home : ℕ → ℕ) (ts : Slots) (fs ns : List ℕ) (b j : ℕ) (p : Option ℕ) : Type 0 where
  pub after : After home ts b j p
  pub upto : j ≤ link fs ns b p
