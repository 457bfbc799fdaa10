-- The bucket table as a store. Assumes nothing.
--     held b          the sets and numbers of its slots
--     places b        how many slots there are
--     bucket_poly b   its polynomial
--     bucket_room b   as many sets as the table has slots
--     AlwaysSpread    every table that there is is spread as `Spread` says
--     bucket_laws     what every store owes
use Rattle.std.specs.Prelude.{ℕ, zero, suc, ◌^◌, ◌<◌, List, [], ◌∷◌, length}
use Rattle.std.proofs.Common.{arith}
use Rattle.std.proofs.lemmas.List.{length-map}
use Rattle.std.proofs.lemmas.Bool.{le-leb, leb-true}
use Rattle.algebra.specs.Poly.{Poly, standing}
use Rattle.algebra.proofs.Rows.{length_standing}
use Rattle.algebra.proofs.Parts.{part_length}
use Rattle.algebra.proofs.Gathers.{rising_gather, length_gather, gather_all}
use Rattle.algebra.specs.Gathered.{Slots, set_at, gather}
use Rattle.sets.proofs.Numbers.{number_lt}
use Rattle.buckets.specs.declared.term.Term.{Term}
use Rattle.store.specs.Stores.{Room, Sized, StoreLaws, at_most}
use Rattle.buckets.specs.declared.bucket.Buckets.{Buckets}
use Rattle.buckets.specs.Records.{content_of, contents}
use Rattle.buckets.specs.Spread.{Spread}

abbrev pub held : Buckets → Slots
held b = contents b.slots.now

abbrev pub places : Buckets → ℕ
places b = length b.slots.now

abbrev pub bucket_poly : Buckets → Poly
bucket_poly b = gather (held b)

abbrev pub bucket_room : Buckets → Room
bucket_room b = at_most (places b)

abbrev pub AlwaysSpread : Type 0
AlwaysSpread = (b : Buckets) → Spread b.slots.now

-- each set has ranks below 512
small_sets : (xs : List Term) (i : ℕ) → i < length (contents xs) → set_at (contents xs) i < 2 ^ 512
small_sets [] i l = absurd (omega arith)
small_sets (x ∷ xs) zero l = number_lt x.set
small_sets (x ∷ xs) (suc i) l = small_sets xs i (omega arith)

pub bucket_laws : StoreLaws bucket_poly bucket_room
bucket_laws = record {
  rising = λ b. rising_gather (held b);
  sized = λ b. gather_all Sized (held b) (λ i l _. (small_sets b.slots.now i l, b.sound.bounded i l));
  held = λ b.
      let a = length_standing (bucket_poly b) in
      let g = length_gather (held b) in
      let m = length-map b.slots.now content_of in
      le-leb (length (standing (bucket_poly b))) (places b) (omega arith);
  empty = λ b. le-leb 0 (places b) (omega arith);
  few = λ b sets h. omega (arith, b.sound.few, leb-true (length sets) (places b) h);
  part = λ b some sets p h. le-leb (length some) (places b) (omega (arith, part_length some sets p, leb-true (length sets) (places b) h));
}
