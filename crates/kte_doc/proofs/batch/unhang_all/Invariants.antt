use Rattle.std.proofs.Common.{◌≡◌, ℕ, Option, vec_len}
use Rattle.kte_place.specs.Ends.{Ends}
use Rattle.kte_ranges.specs.declared.info.RangeInfo.{RangeInfo}
use Rattle.kte_ranges.specs.Cursors.{Hung}
use Rattle.kte_doc.specs.Batches.{ComeInTurn, HaveCome}
use Rattle.kte_doc.proofs.batch.unhang_all.Given as goal

-- the cursors of the ranges that are left came last, and before the same cursors
abbrev pub invariant-loop-info : goal.invariant-loop-info
invariant-loop-info l = record {
  come : HaveCome l.infos.items l.buffer.hung;
  before : (lines farthest : ℕ) (to : RangeInfo → Option Ends) (before : Hung)
      → ComeInTurn lines farthest to l.fn.infos.items before l.fn.buffer.hung
      → ComeInTurn lines farthest to l.infos.items before l.buffer.hung;
  text : l.buffer.text ≡ l.fn.buffer.text;
}

abbrev pub decreases-loop-info : goal.decreases-loop-info
decreases-loop-info l = vec_len l.infos
