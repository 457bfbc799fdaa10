-- The laws of the kind that a value of the code stands for. Assumes nothing.
use Rattle.algebra.specs.Ring.{Lawful}
use Rattle.kind.specs.FieldLaws.{field_lawful}
use Rattle.kind.specs.CountsLaws.{counts_lawful}
use Rattle.sheet.specs.declared.coefficients.Coefficients.{Coefficients}
use Rattle.sheet.specs.declared.coefficients.Coefficients.TheVariants.{Field, Counts}
use Rattle.sheet.specs.Kinds.{kind_of, ring_of}

pub lawful_kind : (c : Coefficients) → Lawful (ring_of (kind_of c))
lawful_kind (Field f) = field_lawful f.degree f.modulus f.sized
lawful_kind (Counts c) = counts_lawful c.width c.sized
