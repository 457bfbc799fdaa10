-- A table's contents by the places of its slots.
use Rattle.std.proofs.Common.{◌≡◌, ℕ, ◌<◌, ◌≤◌, length, get_or, take, ap, ◌∙◌, arith}
use Rattle.std.proofs.lemmas.List.{length-take-le, get_or-map, get_or-take}
use Rattle.algebra.proofs.Rows.{length_first}
use Rattle.store.specs.declared.slot.Slot.{Slot}
use Rattle.store.specs.declared.table.Table.{Table}
use Rattle.store.specs.Terms.{term}
use Rattle.store.specs.Tables.{contents, room}

module _ {K : Type 0} {key : _} {o : _} {e : _} {p : _} (t : Table K key o e p) where
  pub length_contents : length (contents t) ≡ t.len
  length_contents = length_first (term key.number) t.slots.now t.len t.within

  pub contents_within : length (contents t) ≤ room t
  contents_within = omega (arith, t.within, length_contents)

  pub term_at : (i : ℕ) (d : Slot K) → i < length (contents t) → get_or (contents t) i (0, 0) ≡ term key.number (get_or t.slots.now i d)
  term_at i d lt =
      let long = length_contents in
      get_or-map (term key.number) (take t.len t.slots.now) i d (0, 0) (omega (arith, length-take-le t.len t.slots.now t.within)) ∙
      ap (term key.number) (get_or-take t.len t.slots.now i d (omega arith))
