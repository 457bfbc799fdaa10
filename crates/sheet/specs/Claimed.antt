-- The claims of a sheet as lists of terms. Assumes nothing.
--     terms_of ts      the terms of each claim of a table
--     claims_of c      the claims that a table holds
--     latest cs        the terms of the claim opened last; none where there is none
--     on_latest cs t   the claims with one term more in that one
use Rattle.std.specs.Prelude.{◌-◌, List, [], ◌∷◌, ◌++◌, map, length, take, slice_index_or, slice_set}
use Rattle.sheet.specs.declared.claims.Claims.{Claims}
use Rattle.sheet.specs.declared.bounded.Bounded.{Bounded}
use Rattle.sheet.specs.declared.term.Term.{Term}
use Rattle.sheet.specs.Held.{held}

abbrev pub terms_of : List (Bounded Term 64) → List (List Term)
terms_of ts = map held ts

abbrev pub claims_of : Claims → List (List Term)
claims_of c = terms_of (take c.count.n c.table)

abbrev pub latest : List (List Term) → List Term
latest cs = slice_index_or cs (length cs - 1) []

abbrev pub on_latest : List (List Term) → Term → List (List Term)
on_latest cs t = slice_set cs (length cs - 1) (latest cs ++ t ∷ [])
