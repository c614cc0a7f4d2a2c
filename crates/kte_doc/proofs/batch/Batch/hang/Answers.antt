use Rattle.std.proofs.Common.{◌≡◌, ℕ, List, length, sym, subst, ◌∙◌, arith}
use Rattle.kte_ranges.specs.declared.info.RangeInfo.{RangeInfo}
use Rattle.kte_ranges.specs.Cursors.{Hung}
use Rattle.kte_doc.specs.Within.{farthest_at}
use Rattle.kte_doc.specs.Batches.{range_of, landed_info, standing_by, Comes, ComeInTurn}
use Rattle.kte_doc.proofs.Batches.{come_more, ranges_more}
use Rattle.kte_doc.proofs.batch.Batch.hang.Goals as goal

pub unhang_all-requires : goal.unhang_all-requires
unhang_all-requires c =
    let lines = length c.args.buffer.now.text in
    let farthest = farthest_at c.args.history.now.revision in
    let to = landed_info c.args.history.now lines in
    record {
      lines = lines;
      farthest = farthest;
      to = to;
      before = c.args.buffer.now.hung;
      come = subst (λ (h : Hung). ComeInTurn lines farthest to c.loop-n.infos.items c.args.buffer.now.hung h) (sym c.in-Err.ensures.err)
          c.loop-n.invariant.come;
    }

pub loop-n-preserved : goal.loop-n-preserved
loop-n-preserved c =
    let inv = c.loop-n.invariant in
    let info = c.in-Ok.info in
    let span = c.get.result.now in
    let h = c.args.history.now in
    let farthest = farthest_at h.revision in
    let lines = length c.args.buffer.now.text in
    let Came : List (List ℕ) → Type 0 = λ t.
    Comes (length t) farthest (landed_info h (length t)) info c.loop-n.buffer.hung c.hang_one.new.buffer.hung in
    let Is : List (List ℕ) → Type 0 = λ t. standing_by h (length t) info ≡ range_of h (length t) c.args.self.now span in
    let In : List RangeInfo → Type 0 = λ l.
    ComeInTurn lines farthest (landed_info h lines) l c.args.buffer.now.hung c.hang_one.new.buffer.hung in
    record {
      count = omega (arith, inv.count, c.push_reserved.ensures.len);
      room = omega (arith, inv.room, c.push_reserved.ensures.capacity);
      come = subst In (sym c.push_reserved.ensures.items)
          (come_more lines farthest (landed_info h lines) c.loop-n.infos.items info c.args.buffer.now.hung c.loop-n.buffer.hung _
          inv.come (subst Came inv.text c.in-Ok.ensures.cursors));
      ranges = ranges_more (standing_by h lines) (range_of h lines c.args.self.now) c.loop-n.infos.items _ info c.args.spans.now c.loop-n.n span
          c.push_reserved.ensures.items inv.ranges (omega (arith, c.loop-n-test.true, c.len-n-end.ensures)) c.get.ensures
          (subst Is inv.text c.in-Ok.ensures.range);
      text = c.hang_one.ensures.text ∙ inv.text;
    }
