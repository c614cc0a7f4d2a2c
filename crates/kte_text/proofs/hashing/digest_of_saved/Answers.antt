use Rattle.std.proofs.Common.{◌≡◌, ◌∙◌, ◌<◌, ◌++◌, ℕ, List, length, arith}
use Rattle.kte_text.specs.Units.{utf8_of}
use Rattle.kte_text.specs.Digests.{blob_head}
use Rattle.kte_text.proofs.SavingLemmas.{mark_of, blob-first, written_more}
use Rattle.kte_text.proofs.hashing.digest_of_saved.Goals as goal

pub loop-n-init : goal.loop-n-init
loop-n-init g c =
    let text = g.L.Lines.text c.args.lines.now in
    let mark : c.mark_bytes.result.now ≡ mark_of text c.args.bom = rw c.line-first.ensures at c.mark_bytes.ensures in
    let head = c.new-writer.ensures.head in (
      c.put_line.ensures.inside,
      (
        blob_head c.saved_len.result ++ c.mark_bytes.result.now ++ utf8_of c.line-first.result.now,
        c.put_line.ensures.added _ (c.put.ensures.added _ head),
        rw (mark, c.line-first.ensures) (blob-first text c.args.eol c.args.bom c.saved_len.result c.lines-count.ensures.is_text.some c.saved_len.ensures),
      ),
    )

pub loop-n-preserved : goal.loop-n-preserved
loop-n-preserved g c =
    let text = g.L.Lines.text c.args.lines.now in
    let there : c.loop-n.n < length text = omega (arith, c.lines-count.ensures.count) in
    let before = c.loop-n.invariant.1 in (
      c.put_line-in-loop-n.ensures.inside,
      (
        before.0 ++ c.end_bytes.result.now ++ utf8_of c.line.result.now,
        c.put_line-in-loop-n.ensures.added _ (c.put-in-loop-n.ensures.added before.0 before.1),
        rw (c.end_bytes.ensures, c.line.ensures) (written_more before.0 c.args.eol text c.loop-n.n there ∙ before.2),
      ),
    )
