-- Words of 64 bits as one number, the lowest first. Assumes nothing.
--     value ws           the number
--     Sized ws           eight words, each of 64 bits
--     SameFrom n ws us   the eight words ws and us are the same from word n on
--     Blank m n ws       the words from word m on, before word n, are 0
use Rattle.std.specs.Prelude.{◌≡◌, ℕ, ◌+◌, ◌*◌, ◌^◌, ◌<◌, ◌≤◌, List, [], ◌∷◌, length, slice_index}

abbrev pub value : List ℕ → ℕ
value [] = 0
value (w ∷ ws) = w + 2 ^ 64 * value ws

abbrev pub Sized : List ℕ → Type 0
Sized ws = (length ws ≡ 8) × ((k : ℕ) → slice_index ws k < 2 ^ 64)

abbrev pub SameFrom : ℕ → List ℕ → List ℕ → Type 0
SameFrom n ws us = (k : ℕ) → n ≤ k → k < 8 → slice_index ws k ≡ slice_index us k

abbrev pub Blank : ℕ → ℕ → List ℕ → Type 0
Blank m n ws = (k : ℕ) → m ≤ k → k < n → slice_index ws k ≡ 0
