-- What the search by halving keeps.
use Rattle.std.proofs.Common.{◌≡◌, ℕ, ◌+◌, ◌<◌, ◌≤◌, List, length, take, get_or, Less, Equal, Greater, sym, ap, ◌∙◌, inl, inr, arith}
use Rattle.std.specs.Ordering.{nat_cmp}
use Rattle.std.proofs.lemmas.Bool.{cases_eq}
use Rattle.std.proofs.lemmas.Cmp.{ranked}
use Rattle.std.proofs.lemmas.List.{get_or-map, length-map}
use Rattle.algebra.specs.Poly.{Poly}
use Rattle.algebra.specs.Rows.{set_at, StandsAt, FallsAt}
use Rattle.algebra.proofs.Rows.{sorted_places}
use Rattle.store.specs.declared.slot.Slot.{Slot}
use Rattle.store.specs.declared.table.Table.{Table}
use Rattle.store.specs.Terms.{term}
use Rattle.store.specs.Tables.{contents}

-- the places of p below low have lower sets than S, those from high on have higher ones
pub record Narrowed (p : Poly) (S low high : ℕ) : Type 0 where
  pub order : low ≤ high
  pub within : high ≤ length p
  pub below : (k : ℕ) → k < low → set_at p k < S
  pub above : (k : ℕ) → high ≤ k → k < length p → S < set_at p k

pub narrowed_none : (p : Poly) (S low high : ℕ) → Narrowed p S low high → high ≤ low → FallsAt p S low
narrowed_none p S low high h le =
    record { within = omega (arith, h.order, h.within); below = h.below; above = λ k ge lt. h.above k (omega (arith, h.order)) lt }

-- a look at the standing slot i, in between
module _ {K : Type 0} {key : _} {o : _} {e : _} {q : _} (t : Table K key o e q) (xs : List (Slot K)) (is : xs ≡ take t.len t.slots.now)
    (S low high i : ℕ) (d : Slot K) (h : Narrowed (contents t) S low high) (from : low ≤ i) (before : i < high) where
  key_at : set_at (contents t) i ≡ key.number (get_or xs i d).key
  key_at =
      let standing = take t.len t.slots.now in
      rw is (ap (λ (x : ℕ × ℕ). x.0) (get_or-map (term key.number) standing i d (0, 0) (omega (arith, h.within, length-map standing (term key.number)))))

  pub narrowed_up : nat_cmp (key.number (get_or xs i d).key) S ≡ Less → Narrowed (contents t) S (i + 1) high
  narrowed_up found =
      let less : key.number (get_or xs i d).key < S = ranked _ _ _ (sym found) in
      record {
        order = omega arith;
        within = h.within;
        below = λ k lt. elim (cases_eq k i) [
          | inl e ↦ omega (arith, less, key_at, ap (set_at (contents t)) e)
          | inr e ↦ omega (arith, less, key_at, sorted_places (contents t) t.sorted k i (omega (arith, e)) (omega (arith, h.within)))
        ];
        above = h.above;
      }

  pub narrowed_down : nat_cmp (key.number (get_or xs i d).key) S ≡ Greater → Narrowed (contents t) S low i
  narrowed_down found =
      let more : S < key.number (get_or xs i d).key = ranked _ _ _ (sym found) in
      record {
        order = from;
        within = omega (arith, h.within);
        below = h.below;
        above = λ k ge lt. elim (cases_eq k i) [
          | inl e ↦ omega (arith, more, key_at, ap (set_at (contents t)) e)
          | inr e ↦ omega (arith, more, key_at, sorted_places (contents t) t.sorted i k (omega (arith, e)) lt)
        ];
      }

  pub narrowed_here : nat_cmp (key.number (get_or xs i d).key) S ≡ Equal → StandsAt (contents t) S i
  narrowed_here found = record { within = omega (arith, h.within); is = key_at ∙ ranked _ _ _ (sym found) }
