use Rattle.std.proofs.Common.{ℕ, sym, ap, arith}
use Rattle.algebra.proofs.Rows.{read_stands, read_falls}
use Rattle.store.specs.Tables.{contents}
use Rattle.store.proofs.Places.{term_at}
use Rattle.store.proofs.table.Table.read.Goals as goal

pub returns-in-Ok : goal.returns-in-Ok
returns-in-Ok g c =
    let t = c.args.self.now in
    let v = c.in-Ok in
    omega (arith, read_stands (contents t) _ v.i t.sorted v.ensures, ap (λ (x : ℕ × ℕ). x.1) (term_at t v.i c.index-self-i.result v.ensures.within))

pub returns-in-Err : goal.returns-in-Err
returns-in-Err g c = sym (read_falls _ _ _ c.in-Err.ensures)
