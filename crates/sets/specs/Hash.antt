-- The hash of a set of ranks, by the set's number. Assumes nothing.
--     spread x       x times a multiplier, in 64 bits, and then the high half over the low one
--     mix h w        the hash h with a word w taken in
--     hashed n h S   the n lowest words of S taken in, the lowest first
--     hash S         the eight words of S taken in, from 0
use Rattle.std.specs.Prelude.{ℕ, zero, suc, ◌*◌, ◌/◌, ◌%◌, ◌^◌, bit_xor}

-- the multiplier is the odd number nearest to 2^64 over the golden ratio
abbrev pub spread : ℕ → ℕ
spread x = let y = x * 0x9E3779B97F4A7C15 % 2 ^ 64 in bit_xor y (y / 2 ^ 32)

abbrev pub mix : ℕ → ℕ → ℕ
mix h w = spread (spread (bit_xor h w))

unfoldable pub hashed : ℕ → ℕ → ℕ → ℕ
hashed zero h S = h
hashed (suc n) h S = hashed n (mix h (S % 2 ^ 64)) (S / 2 ^ 64)

abbrev pub hash : ℕ → ℕ
hash S = hashed 8 0 S
