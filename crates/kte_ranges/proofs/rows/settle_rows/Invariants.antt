use Rattle.std.proofs.Common.{◌≡◌}
use Rattle.kte_ranges.proofs.Settled.{SettledUpTo}
use Rattle.kte_ranges.proofs.rows.settle_rows.Given as goal

abbrev pub invariant-loop-row : goal.invariant-loop-row
invariant-loop-row g l = record {
  so_far : SettledUpTo (g.C.Cursors.hung l.initial.cursors) (g.C.Cursors.hung l.cursors) l.initial.row-items l.row-items l.row-index;
  lines : g.C.Cursors.ready l.cursors ≡ g.C.Cursors.ready l.initial.cursors;
  near : g.C.Cursors.near l.cursors ≡ g.C.Cursors.near l.initial.cursors;
  rest : g.C.Cursors.rest l.cursors ≡ g.C.Cursors.rest l.initial.cursors;
}
