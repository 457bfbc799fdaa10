-- A sheet as lists. Assumes nothing.
--     Word, Sheet     a word's labels from position 0, and whether it was closed; a sheet
--     blank           the blank sheet
--     outputs gs      the labels of gates
--     names s         the labels of all signals, inputs first, as declared
--     word_at s n     the word of that number, if it was opened
--     bits s n        its labels; none where it was not opened
--     opened_at s n   the word of that number was opened
--     closed_at s n   it was closed
--     has l ls        the label l is one of ls
--     sheet_of o      the sheet that the tables of an open sheet hold
use Rattle.std.specs.Prelude.{ℕ, Bool, false, ◌||◌, List, [], ◌∷◌, ◌++◌, map, replicate, is_some, Some, None, Option, option_map, ◌==◌, slice_index_or}
use Rattle.sheet.specs.declared.gate.Declared.{Declared}
use Rattle.sheet.specs.declared.term.Term.{Term}
use Rattle.sheet.specs.declared.open.Word.{Word as WordRecord}
use Rattle.sheet.specs.declared.open.OpenSheet.{OpenSheet}
use Rattle.sheet.specs.Held.{held}
use Rattle.sheet.specs.Claimed.{claims_of}
use Rattle.sheet.specs.Kinds.{Kind, kind_in}

pub record Word : Type 0 where
  pub bits : List ℕ
  pub closed : Bool

pub record Sheet : Type 0 where
  pub kind : Option Kind
  pub inputs : List ℕ
  pub gates : List Declared
  pub words : List (Option Word)
  pub claims : List (List Term)

abbrev pub blank : Sheet
blank = record { kind = None; inputs = []; gates = []; words = replicate 16 None; claims = [] }

abbrev pub outputs : List Declared → List ℕ
outputs [] = []
outputs (g ∷ gs) = g.output ∷ outputs gs

abbrev pub names : Sheet → List ℕ
names s = s.inputs ++ outputs s.gates

abbrev pub word_at : Sheet → ℕ → Option Word
word_at s n = slice_index_or s.words n None

abbrev pub bits_of : Option Word → List ℕ
bits_of None = []
bits_of (Some w) = w.bits

abbrev pub is_closed : Option Word → Bool
is_closed None = false
is_closed (Some w) = w.closed

abbrev pub bits : Sheet → ℕ → List ℕ
bits s n = bits_of (word_at s n)

abbrev pub opened_at : Sheet → ℕ → Bool
opened_at s n = is_some (word_at s n)

abbrev pub closed_at : Sheet → ℕ → Bool
closed_at s n = is_closed (word_at s n)

abbrev pub has : ℕ → List ℕ → Bool
has l [] = false
has l (x ∷ xs) = x == l || has l xs

abbrev pub word_of : WordRecord → Word
word_of w = record { bits = held w.bits; closed = w.closed }

abbrev pub sheet_of : OpenSheet → Sheet
sheet_of o = record {
  kind = kind_in o.kind;
  inputs = o.inputs.items;
  gates = o.gates.items;
  words = map (option_map word_of) o.words;
  claims = claims_of o.claims;
}
