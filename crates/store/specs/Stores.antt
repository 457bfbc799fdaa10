-- What a store means, and what it can hold. A store means a polynomial; what it can hold is a question about the standing sets alone. Assumes
-- nothing.
--     Room                  which standing sets can be held
--     fits room p           the polynomial p can be held
--     at_most n             room for n sets
--     Sized t               the term's set has ranks below 512, and its number 32 bits
--     StoreLaws poly room   what every store owes of its polynomial and its room: the form, the sizes, that it holds what it can hold; that it can hold nothing, never more than 65,536 sets, and every part of what it can hold
--     takes most n          a store that takes up to `most` slots takes n of them
--     taken most n          how many it works over where n are lent: all, or none where it does not take n
use Rattle.std.specs.Prelude.{◌≡◌, ℕ, ◌^◌, ◌<◌, ◌≤◌, Bool, true, if◌then◌else◌, ◌&&◌, List, [], length, nat_le, nat_lt}
use Rattle.std.specs.List.{AllByRecursion}
use Rattle.algebra.specs.Poly.{Poly, Rising, standing}
use Rattle.algebra.specs.Parts.{Part}

abbrev pub Room : Type 0
Room = List ℕ → Bool

abbrev pub fits : Room → Poly → Bool
fits room p = room (standing p)

abbrev pub Sized : ℕ × ℕ → Type 0
Sized t = (t.0 < 2 ^ 512) × (t.1 < 2 ^ 32)

pub record StoreLaws {S : Type 0} (poly : S → Poly) (room : S → Room) : Type 0 where
  pub rising : (s : S) → Rising (poly s)
  pub sized : (s : S) → AllByRecursion Sized (poly s)
  pub held : (s : S) → fits (room s) (poly s) ≡ true
  pub empty : (s : S) → room s [] ≡ true
  pub few : (s : S) (sets : List ℕ) → room s sets ≡ true → length sets ≤ 65536
  pub part : (s : S) (some sets : List ℕ) → Part some sets → room s sets ≡ true → room s some ≡ true

abbrev pub at_most : ℕ → Room
at_most n sets = nat_le (length sets) n

abbrev pub takes : ℕ → ℕ → Bool
takes most n = nat_lt 0 n && nat_le n most

abbrev pub taken : ℕ → ℕ → ℕ
taken most n = if takes most n then n else 0
