use Rattle.std.proofs.Common.{◌≡◌, take, fold}
use Rattle.store_trace.specs.Told.{after}
use Rattle.store_trace.proofs.run_writes.Given as goal

-- each store holds what the writes so far make of it, and keeps its room
abbrev pub invariant-loop-write : goal.invariant-loop-write
invariant-loop-write g l = record {
  row : g.R.Store.poly l.row ≡ fold (after (g.R.Store.room l.initial.row)) (g.R.Store.poly l.initial.row) (take l.write-index l.writes);
  buckets : g.B.Store.poly l.buckets ≡ fold (after (g.B.Store.room l.initial.buckets)) (g.B.Store.poly l.initial.buckets) (take l.write-index l.writes);
  row_room : g.R.Store.room l.row ≡ g.R.Store.room l.initial.row;
  buckets_room : g.B.Store.room l.buckets ≡ g.B.Store.room l.initial.buckets;
}
