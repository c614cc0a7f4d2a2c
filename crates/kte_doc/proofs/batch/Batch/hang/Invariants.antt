use Rattle.std.proofs.Common.{◌≡◌, ◌≤◌, length, map, take, vec_len, vec_capacity}
use Rattle.kte_doc.specs.Within.{farthest_at}
use Rattle.kte_doc.specs.Batches.{range_of, landed_info, standing_by, ComeInTurn}
use Rattle.kte_doc.proofs.batch.Batch.hang.Given as goal

-- the cursors of the ranges of the first spans hang
abbrev pub invariant-loop-n : goal.invariant-loop-n
invariant-loop-n l = record {
  count : vec_len l.infos ≡ l.n;
  room : length l.spans ≤ vec_capacity l.infos;
  come : ComeInTurn (length l.fn.buffer.text) (farthest_at l.history.revision) (landed_info l.history (length l.fn.buffer.text))
      l.infos.items l.fn.buffer.hung l.buffer.hung;
  ranges : map (standing_by l.history (length l.fn.buffer.text)) l.infos.items
      ≡ map (range_of l.history (length l.fn.buffer.text) l.self) (take l.n l.spans);
  text : l.buffer.text ≡ l.fn.buffer.text;
}
