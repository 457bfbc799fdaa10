-- What a store is asked after a write, in the words of its polynomial. Assumes nothing.
--     HandedOut asked r     r is what a question hands out, `asked` being how a call may go: the place that is lent, the answer, and the place after it
--     Tells p S a           the answers of a store that holds p, the read one at the set S
--     after room p w        what p becomes by a write, in a store with that room
--     Answered room p w a   the whole answer of a store that held p, in that room, to a write
use Rattle.std.specs.Prelude.{◌≡◌, ℕ, if◌then◌else◌, length, Option}
use Rattle.std.specs.Option.{option_map}
use Rattle.algebra.specs.Poly.{Poly, at, put, lowest, highest}
use Rattle.sets.specs.Numbers.{number}
use Rattle.sets.specs.declared.RankSet.{RankSet}
use Rattle.store.specs.Stores.{Room, fits}
use Rattle.store.specs.Terms.{term}
use Rattle.store.specs.declared.slot.Slot.{Slot}
use Rattle.store_trace.specs.declared.steps.Answer.{Answer}

pub record HandedOut (asked : RankSet → Option ℕ → RankSet → Type 0) (r : Option (Slot RankSet)) : Type 0 where
  pub was : RankSet
  pub told : Option ℕ
  pub is : RankSet
  pub call : asked was told is
  pub made : r ≡ option_map (λ n. record { key = is; number = n }) told

pub record Tells (p : Poly) (S : ℕ) (a : Answer) : Type 0 where
  pub count : a.count ≡ length p
  pub read : a.read ≡ at p S
  pub least : option_map (term number) a.lowest ≡ lowest p
  pub most : option_map (term number) a.highest ≡ highest p

abbrev pub after : Room → Poly → Slot RankSet → Poly
after room p w = if fits room (put p (number w.key) w.number) then put p (number w.key) w.number else p

pub record Answered (room : Room) (p : Poly) (w : Slot RankSet) (a : Answer) : Type 0 where
  pub granted : a.granted ≡ fits room (put p (number w.key) w.number)
  pub tells : Tells (after room p w) (number w.key) a
