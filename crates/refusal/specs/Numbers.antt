-- The number of each fault, the word of each layer, and the line that shows a refusal. Assumes nothing.
--     number_of fault   1 to 17
--     word_of layer     the layer's word, as text
--     text_of refusal   `refused N at P layer L`, the number and the place in decimal
use Rattle.std.specs.Prelude.{ℕ, List, ◌++◌, codes, decimal}
use Rattle.refusal.specs.declared.Fault.{Fault}
use Rattle.refusal.specs.declared.Fault.TheVariants.{
  Truncated,
  UnknownCommand,
  OutOfSection,
  BadKind,
  TooMany,
  Duplicate,
  BadWord,
  NotACode,
  UnknownSignal,
  TrailingBytes,
  NoRank,
  UnknownClaim,
  ClaimOpen,
  WrongTicket,
  TallyFull,
  NotAnInput,
  BadSlots,
}
use Rattle.refusal.specs.declared.Layer.{Layer}
use Rattle.refusal.specs.declared.Layer.TheVariants.{File, Order, Bench, Simulate, Store, Kind}
use Rattle.refusal.specs.declared.Refusal.{Refusal}

abbrev pub number_of : Fault → ℕ
number_of Truncated = 1
number_of UnknownCommand = 2
number_of OutOfSection = 3
number_of BadKind = 4
number_of TooMany = 5
number_of Duplicate = 6
number_of BadWord = 7
number_of NotACode = 8
number_of UnknownSignal = 9
number_of TrailingBytes = 10
number_of NoRank = 11
number_of UnknownClaim = 12
number_of ClaimOpen = 13
number_of WrongTicket = 14
number_of TallyFull = 15
number_of NotAnInput = 16
number_of BadSlots = 17

abbrev pub word_of : Layer → List ℕ
word_of File = codes "file"
word_of Order = codes "order"
word_of Bench = codes "bench"
word_of Simulate = codes "simulate"
word_of Store = codes "store"
word_of Kind = codes "kind"

abbrev pub text_of : Refusal → List ℕ
text_of r =
    codes "refused " ++ (decimal (number_of r.fault) ++ (codes " at " ++ (decimal r.place ++ (codes " layer " ++ word_of r.layer))))
