use Rattle.std.proofs.Common.{◌≡◌}
use Rattle.kte_ranges.proofs.NearLemmas.{NearSettled}
use Rattle.kte_ranges.proofs.rows.settle_near.Given as goal

abbrev pub invariant-loop-n : goal.invariant-loop-n
invariant-loop-n g l = record {
  so_far : NearSettled (g.C.Cursors.hung l.initial.cursors) (g.C.Cursors.hung l.cursors) l.initial.rows l.rows (g.C.Cursors.near l.initial.cursors) l.n;
  lines : g.C.Cursors.ready l.cursors ≡ g.C.Cursors.ready l.initial.cursors;
  near : g.C.Cursors.near l.cursors ≡ g.C.Cursors.near l.initial.cursors;
  rest : g.C.Cursors.rest l.cursors ≡ g.C.Cursors.rest l.initial.cursors;
}
