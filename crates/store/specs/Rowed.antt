-- The row as a store. Assumes nothing.
--     row_poly r   its polynomial
--     row_room r   as many sets as the row has slots
--     row_laws     what every store owes
use Rattle.std.specs.Prelude.{ℕ, ◌^◌, ◌<◌, List, [], ◌∷◌, map, length, take}
use Rattle.std.proofs.Common.{arith}
use Rattle.std.specs.List.{AllByRecursion}
use Rattle.std.proofs.lemmas.Bool.{le-leb, leb-true}
use Rattle.algebra.specs.Poly.{Poly, standing}
use Rattle.algebra.proofs.Rows.{rising_from, all_sized, length_first, length_standing}
use Rattle.algebra.proofs.Parts.{part_length}
use Rattle.sets.specs.Numbers.{number}
use Rattle.sets.specs.declared.RankSet.{RankSet}
use Rattle.sets.proofs.Numbers.{number_lt}
use Rattle.store.specs.declared.slot.Slot.{Slot}
use Rattle.store.specs.declared.row.Row.{Row}
use Rattle.store.specs.Stores.{Room, StoreLaws, at_most}
use Rattle.store.specs.Terms.{term}
use Rattle.store.specs.Tables.{contents, room}

abbrev pub row_poly : Row → Poly
row_poly r = contents r.table

abbrev pub row_room : Row → Room
row_room r = at_most (room r.table)

-- each key has ranks below 512
small_keys : (xs : List (Slot RankSet)) → AllByRecursion (λ (t : ℕ × ℕ). t.0 < 2 ^ 512) (map (term number) xs)
small_keys [] = tt
small_keys (x ∷ xs) = (number_lt x.key, small_keys xs)

pub row_laws : StoreLaws row_poly row_room
row_laws = record {
  rising = λ r. rising_from (row_poly r) r.table.sorted r.table.nonzero;
  sized = λ r. all_sized (row_poly r) (2 ^ 512) (small_keys (take r.table.len r.table.slots.now)) r.table.bounded;
  held = λ r. le-leb (length (standing (row_poly r))) (room r.table) (omega (arith, length_standing (row_poly r), r.table.within, length_first (term number) r.table.slots.now r.table.len r.table.within));
  empty = λ r. le-leb 0 (room r.table) (omega arith);
  few = λ r sets h. omega (arith, r.few, leb-true (length sets) (room r.table) h);
  part = λ r some sets p h. le-leb (length some) (room r.table) (omega (arith, part_length some sets p, leb-true (length sets) (room r.table) h));
}
