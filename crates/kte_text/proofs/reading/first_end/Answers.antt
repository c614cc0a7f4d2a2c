use Rattle.std.proofs.Common.{sym}
use Rattle.kte_text.proofs.SplitLemmas.{none_found, found_at, split, one_line}
use Rattle.kte_text.proofs.reading.first_end.Goals as goal

pub returns-in-Some : goal.returns-in-Some
returns-in-Some c =
    let found = found_at c.args.text.now c.in-Some.at (rw c.as_bytes.ensures.value at c.in-Some.ensures) in
    rw (c.end_at.ensures, c.as_bytes-in-Some.ensures.value) (sym (split c.args.text.now c.in-Some.at c.utf8.text found).first)

pub returns-in-None : goal.returns-in-None
returns-in-None c = sym (one_line c.args.text.now c.utf8.text (none_found c.args.text.now (rw c.as_bytes.ensures.value at c.in-None.ensures))).1
