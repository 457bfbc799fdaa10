use Rattle.std.proofs.Common.{◌∙◌}
use Rattle.algebra.proofs.Repeats.{doubling_starts, doubling_odd, doubling_even, doubling_ends}
use Rattle.kind.proofs.repeated.repeated.Goals as goal
use Rattle.kind.proofs.repeated.repeated.Goals.{then-rest-eq1, else-rest-eq1}

pub loop-rest-init : goal.loop-rest-init
loop-rest-init g c = (c.requires, λ is op m j t. doubling_starts m t)

pub loop-rest-preserved : goal.loop-rest-preserved
loop-rest-preserved g c = (
  c.requires,
  λ is op m j t.
      let d = c.loop-rest.invariant.1 is op m j t in
      let e = j _ _ _ d.double_in d.double_in c.join-double.ensures in
      elim c.if-rest-eq1.branch [
        | then-rest-eq1 w ↦ doubling_odd m d w.if-rest-eq1.true (w.done-is ∙ j _ _ _ d.done_in d.double_in w.join-done.ensures) e
        | else-rest-eq1 w ↦ doubling_even m d w.if-rest-eq1.false w.done-is e
      ],
)

pub returns : goal.returns
returns g c is op m j t = doubling_ends m (c.loop-rest.invariant.1 is op m j t) c.loop-rest-test.false
