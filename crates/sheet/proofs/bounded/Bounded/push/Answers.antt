use Rattle.std.proofs.Common.{◌<◌, ◌≤◌, length, sym, arith}
use Rattle.std.proofs.lemmas.List.{length-take-le, take_more_set}
use Rattle.std.proofs.lemmas.Bool.{lt-ltb}
use Rattle.sheet.specs.Held.{held}
use Rattle.sheet.proofs.bounded.Bounded.push.Goals as goal

pub returns : goal.returns
returns g c =
    let b = c.args.self.now in
    let w = b.within in
    let f = b.filled in
    let h : b.len ≤ length b.items = omega arith in
    let e = length-take-le b.len b.items h in
    let l : b.len < length b.items = omega arith in
    record {
      answer = sym (lt-ltb (length (held b)) g.row.N (omega arith));
      after = take_more_set b.items b.len c.args.x l;
    }
