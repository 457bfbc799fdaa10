use Rattle.std.proofs.Common.{refl, rules}
use Rattle.store_trace.proofs.steps.handed_out.Goals as goal

pub returns : goal.returns
returns g c = record {
  was = _;
  told = _;
  is = _;
  call = record { shown = _; shows = refl; left = _; met = c.question.ensures; leaves = refl };
  made = search rules;
}
