use Rattle.sets.specs.Numbers.{number}
use Rattle.sets.proofs.Worded.{same_words, RanksDecide, decided_here, numbers_decide}
use Rattle.sets.proofs.RankSet.compare.Goals as goal

pub returns-in-None : goal.returns-in-None
returns-in-None c =
    let s = c.args.self.now in
    let t = c.args.other.now in
    let same = same_words s.words t.words s.sized t.sized c.in-None.ensures.same in
    record { numbers = same; ranks = same }

pub returns-in-Some : goal.returns-in-Some
returns-in-Some c =
    let s = c.args.self.now in
    let t = c.args.other.now in
    let w = c.in-Some.ensures in
    let d : RanksDecide c.cmp.result (number s) (number t) =
    rw c.cmp.ensures (decided_here s.words t.words c.in-Some.i s.sized t.sized w.same_above w.differs) in
    record { numbers = numbers_decide c.cmp.result (number s) (number t) d; ranks = d }
