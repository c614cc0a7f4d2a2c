use Rattle.std.proofs.Common.{◌≡◌, ◌<◌, ℕ, length, ap, arith}
use Rattle.kte_text.specs.Texts.{line_at}
use Rattle.kte_text.specs.Units.{utf8_of}
use Rattle.kte_text.proofs.SavingLemmas.{mark_of, length-bytes_of, length-ended_more, length-bytes_of-le}
use Rattle.kte_text.proofs.saving.saved_len.Goals as goal

pub overflow_add-length : goal.overflow_add-length
overflow_add-length g c =
    let text = g.L.Lines.text c.args.lines.now in
    let whole = c.lines-count.ensures.is_text in
    let mark : c.mark_bytes.result.now ≡ mark_of text c.args.bom = rw c.line-first.ensures at c.mark_bytes.ensures in
    let first : c.utf8_len.result ≡ length (utf8_of (line_at text 0)) = rw c.line-first.ensures at c.utf8_len.ensures in
    let parts = length-bytes_of text c.args.eol c.args.bom whole.some in
    let small = length-bytes_of-le text c.args.eol c.args.bom whole in
    omega (arith, ap length mark, first, parts, small)

pub loop-n-init : goal.loop-n-init
loop-n-init g c =
    let text = g.L.Lines.text c.args.lines.now in
    let whole = c.lines-count.ensures.is_text in
    let mark : c.mark_bytes.result.now ≡ mark_of text c.args.bom = rw c.line-first.ensures at c.mark_bytes.ensures in
    let first : c.utf8_len.result ≡ length (utf8_of (line_at text 0)) = rw c.line-first.ensures at c.utf8_len.ensures in
    let parts = length-bytes_of text c.args.eol c.args.bom whole.some in
    omega (arith, ap length mark, first, parts)

pub overflow_add-length-in-loop-n : goal.overflow_add-length-in-loop-n
overflow_add-length-in-loop-n g c =
    let text = g.L.Lines.text c.args.lines.now in
    let whole = c.lines-count.ensures.is_text in
    let there : c.loop-n.n < length text = omega (arith, c.lines-count.ensures.count) in
    let line : c.utf8_len-in-loop-n.result ≡ length (utf8_of (line_at text c.loop-n.n)) = rw c.line.ensures at c.utf8_len-in-loop-n.ensures in
    let more = length-ended_more c.args.eol text c.loop-n.n there in
    let small = length-bytes_of-le text c.args.eol c.args.bom whole in
    omega (arith, ap length c.end_bytes-end.ensures, line, more, small, c.loop-n.invariant)

pub overflow_add-length-in-loop-n-2 : goal.overflow_add-length-in-loop-n-2
overflow_add-length-in-loop-n-2 g c =
    let text = g.L.Lines.text c.args.lines.now in
    let whole = c.lines-count.ensures.is_text in
    let there : c.loop-n.n < length text = omega (arith, c.lines-count.ensures.count) in
    let line : c.utf8_len-in-loop-n.result ≡ length (utf8_of (line_at text c.loop-n.n)) = rw c.line.ensures at c.utf8_len-in-loop-n.ensures in
    let more = length-ended_more c.args.eol text c.loop-n.n there in
    let small = length-bytes_of-le text c.args.eol c.args.bom whole in
    omega (arith, ap length c.end_bytes-end.ensures, line, more, small, c.loop-n.invariant)
