-- Writes that a store is given in order. Assumes nothing.
--     written fits p ws   what the writes of pairs (set, number) come to from p, up to the first outcome that cannot be held: how many are granted, and the polynomial
--     pairs xs            slots as such pairs
use Rattle.std.specs.Prelude.{ℕ, suc, Bool, if◌then◌else◌, List, [], ◌∷◌, map}
use Rattle.algebra.specs.Poly.{Poly, put}
use Rattle.sets.specs.Numbers.{number}
use Rattle.sets.specs.declared.RankSet.{RankSet}
use Rattle.store.specs.declared.slot.Slot.{Slot}
use Rattle.store.specs.Terms.{term}

abbrev pub written : (Poly → Bool) → Poly → List (ℕ × ℕ) → ℕ × Poly
written fits p [] = (0, p)
written fits p (w ∷ ws) =
    if fits (put p w.0 w.1) then (suc (written fits (put p w.0 w.1) ws).0, (written fits (put p w.0 w.1) ws).1) else (0, p)

abbrev pub pairs : List (Slot RankSet) → List (ℕ × ℕ)
pairs xs = map (term number) xs
