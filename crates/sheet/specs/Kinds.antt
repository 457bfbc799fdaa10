-- The kind of coefficient that a file names. Assumes nothing.
--     Kind          a field kind of a degree and a modulus, or a counts kind of a width
--     ring_of k     its ring
--     among a b n   n is one of the numbers from a to b
--     has_degree k m  m has degree k as a polynomial over the two-element field, bit i being the coefficient of X^i
--     named f k m   the kind that the kind byte f, the size k and the modulus m name, if any
--     kind_in c     the kind that a value of the code stands for, or none
use Rattle.std.specs.Prelude.{ℕ, suc, ◌^◌, Bool, if◌then◌else◌, ◌&&◌, Some, None, Option, ◌==◌, nat_le, nat_lt}
use Rattle.algebra.specs.Ring.{Ring}
use Rattle.kind.specs.Field.{field as ring_of_field}
use Rattle.kind.specs.Counts.{counts as ring_of_counts}
use Rattle.sheet.specs.declared.coefficients.Coefficients.{Coefficients}
use Rattle.sheet.specs.declared.coefficients.Coefficients.TheVariants.{Field, Counts}

pub data Kind : Type 0 where
  field : ℕ → ℕ → Kind
  counts : ℕ → Kind

abbrev pub ring_of : Kind → Ring
ring_of (field k p) = ring_of_field k p
ring_of (counts m) = ring_of_counts m

abbrev pub among : ℕ → ℕ → ℕ → Bool
among a b n = nat_le a n && nat_le n b

abbrev pub has_degree : ℕ → ℕ → Bool
has_degree k m = nat_le (2 ^ k) m && nat_lt m (2 ^ suc k)

-- 1 names a field kind of degree 2 to 8, the modulus having that degree; 2 a counts kind of width 1 to 32, and 0 stands for the modulus
abbrev pub named : ℕ → ℕ → ℕ → Option Kind
named f k m =
    if f == 1 && (among 2 8 k && has_degree k m) then Some (field k m)
    else if f == 2 && (among 1 32 k && m == 0) then Some (counts k)
    else None

abbrev pub kind_of : Coefficients → Kind
kind_of (Field f) = field f.degree f.modulus
kind_of (Counts c) = counts c.width

abbrev pub kind_in : Option Coefficients → Option Kind
kind_in None = None
kind_in (Some c) = Some (kind_of c)
