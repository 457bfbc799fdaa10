-- The first n elements of a list in which a place is closed or opened.
use Rattle.std.proofs.Common.{◌≡◌, ℕ, suc, ◌+◌, ◌-◌, ◌<◌, ◌≤◌, List, ◌∷◌, ◌++◌, map, length, take, drop, set, sym, ap, ◌∙◌, refl, arith}
use lib.Seq.{take-set-lt}
use Rattle.std.specs.List.{insert, remove, copy_within}
use Rattle.std.proofs.lemmas.List.{map-append, length-append, take-append-le, take-map, drop-map, take-take, drop_at, set_split, length-take-le, length-drop}
use Rattle.std.proofs.lemmas.List.Edits.{take-paste}
use Rattle.std.proofs.lemmas.Slice.{between_is}

pub map_inserted : {X Y : Type 0} (f : X → Y) (xs : List X) (i : ℕ) (x : X) → map f (insert xs i x) ≡ insert (map f xs) i (f x)
map_inserted f xs i x = rw (map-append f (take i xs) (x ∷ drop i xs), take-map f i xs, drop-map f i xs)

pub map_removed : {X Y : Type 0} (f : X → Y) (xs : List X) (i : ℕ) → map f (remove xs i) ≡ remove (map f xs) i
map_removed f xs i = rw (map-append f (take i xs) (drop (suc i) xs), take-map f i xs, drop-map f (suc i) xs)

module _ {X : Type 0} (xs : List X) (n i : ℕ) where
  -- what of the first n elements stands before i and from i on
  before : i ≤ n → take i xs ≡ take i (take n xs)
  before le = sym (take-take i n xs le)

  pub closed : i < n → n ≤ length xs → take (n - 1) (copy_within xs (i + 1) n i) ≡ remove (take n xs) i
  closed lt le =
      let e : n - 1 ≡ i + (n - (i + 1)) = omega arith in
      let from : i + 1 ≡ suc i = omega arith in
      let rest : n - (i + 1) ≤ length (drop (i + 1) xs) = omega (arith, length-drop (i + 1) xs) in
      rw (e, take-paste xs i (drop (i + 1) xs) (n - (i + 1)) (omega arith) rest, before (omega arith), between_is xs (i + 1) n, from) refl

  pub opened : (x : X) → i ≤ n → n < length xs → take (n + 1) (set (copy_within xs i n (i + 1)) i x) ≡ insert (take n xs) i x
  opened x le lt =
      let head = take (i + 1) xs in
      let tail = take (n - i) (drop i xs) in
      let e : n + 1 ≡ i + 1 + (n - i) = omega arith in
      let shown : length head ≡ suc i = length-take-le (i + 1) xs (omega arith) ∙ omega arith in
      let rest : n - i ≤ length (drop i xs) = omega (arith, length-drop i xs) in
      let moved = ap (λ m. take m (copy_within xs i n (i + 1))) e ∙ take-paste xs (i + 1) (drop i xs) (n - i) (omega arith) rest in
      take-set-lt (n + 1) (copy_within xs i n (i + 1)) i x (omega arith) ∙
      ap (λ ys. set ys i x) moved ∙
      set_split (head ++ tail) i x (omega (arith, shown, rest, length-append head tail)) ∙
      rw (take-append-le i head tail (omega (arith, shown)), take-take i (i + 1) xs (omega arith), drop_at head tail (suc i) shown, before le, between_is xs i n) refl
