-- The links of slots, one to each slot, and where they lead.
use Rattle.std.proofs.Common.{◌≡◌, ℕ, List, length, sym, ◌∙◌}
use Rattle.algebra.specs.Gathered.{Slots}
use Rattle.buckets.specs.Chains.{Firsts, Nexts}
use Rattle.buckets.specs.Records.{home, Keeps}

pub record Links (home : ℕ → ℕ) (ts : Slots) (fs ns : List ℕ) : Type 0 where
  pub first_long : length fs ≡ length ts
  pub next_long : length ns ≡ length ts
  pub first : Firsts home ts fs
  pub next : Nexts home ts ns

pub links_of : {n : ℕ} {ts : Slots} {fs ns ss : List ℕ} {count : ℕ} → Keeps n ts fs ns ss count → length ts ≡ n → length fs ≡ n → length ns ≡ n → Links (home n) ts fs ns
links_of k t f x = record { first_long = f ∙ sym t; next_long = x ∙ sym t; first = k.first; next = k.next }
