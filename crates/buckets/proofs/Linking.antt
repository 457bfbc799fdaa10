-- A slot put into a chain at its place, taken out of it, and given another number.
use Rattle.std.proofs.Common.{◌≡◌, ℕ, suc, ◌<◌, List, length, get_or, set, Some, None, Option, arith}
use Rattle.algebra.specs.Gathered.{Slots, set_at, number_at}
use Rattle.buckets.specs.Chains.{Member, Place, Leads, Firsts, Nexts, link, relinked_firsts, relinked_nexts}
use Rattle.buckets.proofs.Fields.{on_set}
use Rattle.buckets.proofs.Leading.{Links}

-- the slot from which the rest of the chain goes
abbrev from : Option ℕ → ℕ
from None = 0
from (Some q) = suc q

-- k is not the slot before the place
abbrev Other : Option ℕ → ℕ → Type 0
Other None k = Unit {0}
Other (Some q) k = k ≡ q → ⊥

module _ {home : ℕ → ℕ} {ts : Slots} {fs ns : List ℕ} (L : Links home ts fs ns) (b : ℕ) (bl : b < length ts) where
  -- what the link at a place leads to
  leads : (p : Option ℕ) (j : ℕ) → Place home ts fs ns b j p → Leads home ts b (from p) (link fs ns b p)
  leads None j P = grind (arith, L.first b bl)
  leads (Some q) j P = grind (arith, L.next q)

  -- a slot of the bucket below j stands before the place: it is the slot before, or leads no further than to it
  before : (j : ℕ) (p : Option ℕ) → Place home ts fs ns b j p → (k : ℕ) → Member home ts b 0 k → k < j → Other p k → get_or ns k 0 < j
  before j None P k m l e = grind (arith, leads None j P)
  before j (Some q) P k m l e = grind (arith, leads (Some q) j P, L.next k)

  -- ---- the slot f is taken by y
  module _ (f : ℕ) (y : ℕ × ℕ) (fin : f < length ts) (free : number_at ts f ≡ 0) (some : 0 < y.1) (homed : home y.0 ≡ b)
      (p : Option ℕ) (P : Place home ts fs ns b f p) where
    abbrev us : Slots
    us = set ts f y

    over : f < link fs ns b p
    over = grind (arith, leads p f P, P.upto)

    pub taken_firsts : Firsts home us (relinked_firsts fs b p f)
    taken_firsts c cl = go p P
      where
        go : (p : Option ℕ) → Place home ts fs ns b f p → Leads home us c 0 (get_or (relinked_firsts fs b p f) c 0)
        go None P = grind (arith, on_set, L.first c)
        go (Some q) P = grind (arith, on_set, L.first c)

    pub taken_nexts : Nexts home us (relinked_nexts (set ns f (link fs ns b p)) p f)
    taken_nexts j t = go p P over
      where
        go : (p : Option ℕ) → Place home ts fs ns b f p → f < link fs ns b p
            → Leads home us (home (set_at us j)) (suc j) (get_or (relinked_nexts (set ns f (link fs ns b p)) p f) j 0)
        go None P o = grind (arith, on_set, L.next j, leads None f P, before f None P j)
        go (Some q) P o = grind (arith, on_set, L.next j, leads (Some q) f P, before f (Some q) P j)

  -- ---- the slot j is freed
  module _ (j : ℕ) (y : ℕ × ℕ) (jl : j < length ts) (stood : 0 < number_at ts j) (homed : home (set_at ts j) ≡ b) (gone : y.1 ≡ 0)
      (p : Option ℕ) (P : Place home ts fs ns b j p) where
    abbrev vs : Slots
    vs = set ts j y

    -- its place is right before it
    right : link fs ns b p ≡ j
    right = grind (arith, leads p j P, P.upto)

    rest : Leads home ts b (suc j) (get_or ns j 0)
    rest = grind (arith, L.next j)

    pub freed_firsts : Firsts home vs (relinked_firsts fs b p (get_or ns j 0))
    freed_firsts c cl = go p P right
      where
        go : (p : Option ℕ) → Place home ts fs ns b j p → link fs ns b p ≡ j → Leads home vs c 0 (get_or (relinked_firsts fs b p (get_or ns j 0)) c 0)
        go None P r = grind (arith, on_set, L.first c, rest)
        go (Some q) P r = grind (arith, on_set, L.first c)

    pub freed_nexts : Nexts home vs (relinked_nexts ns p (get_or ns j 0))
    freed_nexts k t = go p P right
      where
        go : (p : Option ℕ) → Place home ts fs ns b j p → link fs ns b p ≡ j → Leads home vs (home (set_at vs k)) (suc k) (get_or (relinked_nexts ns p (get_or ns j 0)) k 0)
        go None P r = grind (arith, on_set, L.next k, before j None P k, leads None j P)
        go (Some q) P r = grind (arith, on_set, L.next k, before j (Some q) P k, rest, leads (Some q) j P)

-- ---- the slot j keeps its set and gets another number, not 0
module _ (home : ℕ → ℕ) (ts : Slots) (j : ℕ) (y : ℕ × ℕ) (jl : j < length ts) (stood : 0 < number_at ts j) (same : y.0 ≡ set_at ts j) (some : 0 < y.1) where
  pub renumbered_firsts : (fs : List ℕ) → Firsts home ts fs → Firsts home (set ts j y) fs
  renumbered_firsts fs F b l = grind (arith, on_set, F b)

  pub renumbered_nexts : (ns : List ℕ) → Nexts home ts ns → Nexts home (set ts j y) ns
  renumbered_nexts ns N k t = grind (arith, on_set, N k)
