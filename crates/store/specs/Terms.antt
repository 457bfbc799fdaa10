-- Slots as the terms of a polynomial. Assumes nothing.
--     term number x       a slot as a term, given the number that a key stands for
--     terms number xs n   the first n slots
use Rattle.std.specs.Prelude.{ℕ, List, map, take}
use Rattle.algebra.specs.Poly.{Poly}
use Rattle.store.specs.declared.slot.Slot.{Slot}

abbrev pub term : {K : Type 0} → (K → ℕ) → Slot K → ℕ × ℕ
term number x = (number x.key, x.number)

abbrev pub terms : {K : Type 0} → (K → ℕ) → List (Slot K) → ℕ → Poly
terms number xs n = map (term number) (take n xs)
