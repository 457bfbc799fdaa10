-- The polynomial of slots that stand in any order. A slot has a set and a number, and is free where the number is 0. Assumes nothing.
--     Slots          sets with their numbers, by slot; `set_at` and `number_at` as in Rows
--     gather ts      the polynomial: each slot that is not free gives its set its number
--     Absent ts S    no slot has the set S
--     Twice ts i j   the slots i and j have the same set
--     Apart ts       no set has two slots
use Rattle.std.specs.Prelude.{◌≡◌, ℕ, ◌<◌, if◌then◌else◌, List, [], ◌∷◌, length, ◌==◌, ◌≢◌}
use Rattle.algebra.specs.Poly.{Poly, put}
pub use Rattle.algebra.specs.Rows.{set_at, number_at}

abbrev pub Slots : Type 0
Slots = List (ℕ × ℕ)

abbrev pub gather : Slots → Poly
gather [] = []
gather (t ∷ ts) = if t.1 == 0 then gather ts else put (gather ts) t.0 t.1

abbrev pub Absent : Slots → ℕ → Type 0
Absent ts S = (i : ℕ) → i < length ts → 0 < number_at ts i → set_at ts i ≢ S

pub record Twice (ts : Slots) (i j : ℕ) : Type 0 where
  pub order : i < j
  pub within : j < length ts
  pub first : 0 < number_at ts i
  pub second : 0 < number_at ts j
  pub same : set_at ts i ≡ set_at ts j

abbrev pub Apart : Slots → Type 0
Apart ts = (i j : ℕ) → ¬ Twice ts i j
