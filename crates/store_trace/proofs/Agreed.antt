-- Two answers are equal exactly where they say the same.
--     same_slot x y    slots are equal, sets being compared by their numbers
--     Same a b         two answers are the same, sets compared by their numbers
use Rattle.std.proofs.Common.{◌≡◌, Bool, ◌&&◌, nat_eq, Option, None, Some, option_map, arith}
use Rattle.std.proofs.lemmas.Bool.Decides.{nat_tests, Decides-and, Decides-eqb}
use Rattle.std.specs.Bool.{Decides, beq}
use Rattle.std.specs.Cmp.{booleans_Decides}
use Rattle.std.specs.Option.{option_eq}
use Rattle.sets.specs.Numbers.{number}
use Rattle.sets.specs.declared.RankSet.{RankSet}
use Rattle.store.specs.Terms.{term}
use Rattle.store.specs.declared.slot.Slot.{Slot}
use Rattle.store_trace.specs.declared.steps.Answer.{Answer}

abbrev same_slot : Slot RankSet → Slot RankSet → Bool
same_slot x y = nat_eq (number x.key) (number y.key) && nat_eq x.number y.number

same_option : (a b : Option (Slot RankSet)) → Decides (option_eq same_slot a b) (option_map (term number) a ≡ option_map (term number) b)
same_option None None = grind (arith, nat_tests)
same_option None (Some y) = grind (arith, nat_tests)
same_option (Some x) None = grind (arith, nat_tests)
same_option (Some x) (Some y) = grind (arith, nat_tests)

abbrev equal : Answer → Answer → Bool
equal a b = beq a.granted b.granted && (nat_eq a.count b.count && (nat_eq a.read b.read && (option_eq same_slot a.lowest b.lowest && option_eq same_slot a.highest b.highest)))

abbrev Same : Answer → Answer → Type 0
Same a b = (a.granted ≡ b.granted) × ((a.count ≡ b.count) × ((a.read ≡ b.read) × ((option_map (term number) a.lowest ≡ option_map (term number) b.lowest) × (option_map (term number) a.highest ≡ option_map (term number) b.highest))))

pub agreed : (a b : Answer) → Decides (equal a b) (Same a b)
agreed a b =
    Decides-and _ _ (booleans_Decides a.granted b.granted) (
    Decides-and _ _ (Decides-eqb a.count b.count) (
    Decides-and _ _ (Decides-eqb a.read b.read) (
    Decides-and _ _ (same_option a.lowest b.lowest) (same_option a.highest b.highest))))
