-- What an ordered table means. Assumes nothing.
--     contents t   the polynomial of a table
--     room t       how many keys can stand
use Rattle.std.specs.Prelude.{ℕ, length}
use Rattle.algebra.specs.Poly.{Poly}
use Rattle.store.specs.declared.table.Table.{Table}
use Rattle.store.specs.Terms.{terms}

abbrev pub contents : {K : Type 0} {key : _} {o : _} {e : _} {p : _} → Table K key o e p → Poly
contents {K} {key} t = terms key.number t.slots.now t.len

abbrev pub room : {K : Type 0} {key : _} {o : _} {e : _} {p : _} → Table K key o e p → ℕ
room t = length t.slots.now
