use Rattle.std.proofs.Common.{◌≡◌, sym}
use Rattle.kte_text.proofs.SavingLemmas.{bytes_of-first}
use Rattle.kte_text.proofs.saving.save.Goals as goal

pub loop-n-init : goal.loop-n-init
loop-n-init g c =
    let text = g.L.Lines.text c.args.lines.now in
    let none = c.in_ok-bytes.ensures.items in
    let mark = c.in_ok-extend_from_slice.ensures.items in
    let first = c.in_ok-push_utf8.ensures.ok in
    rw (first, mark, none, c.mark_bytes.ensures, c.line-first.ensures)
    (sym (bytes_of-first text c.args.eol c.args.bom c.lines-count.ensures.is_text.some))
