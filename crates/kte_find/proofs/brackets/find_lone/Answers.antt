use Rattle.std.proofs.Common.{◌≡◌, ◌∙◌, ◌+◌, ◌++◌, ◌<◌, ◌≤◌, length, map, take, ap, subst, add-one, zero-add, arith}
use Rattle.std.proofs.lemmas.List.{take_all}
use Rattle.kte_text.specs.Texts.{line_at}
use Rattle.kte_find.specs.declared.found.TheConstants.{MAX_FINDINGS}
use Rattle.kte_find.specs.Brackets.{placed, placed_on, placed_from}
use Rattle.kte_find.specs.Findings.{span_of}
use Rattle.kte_find.specs.Reading.{HasRead}
use Rattle.kte_find.proofs.PlacedLemmas.{placed_from-more, rises_from, split_once, all_lone}
use Rattle.kte_find.proofs.SealLemmas.{read_none, read_all}
use Rattle.kte_find.proofs.brackets.find_lone.Goals as goal

pub loop-line-init : goal.loop-line-init
loop-line-init c = rw (c.new-2.ensures, c.new.ensures.items) (record { few = omega arith; read = read_none })

pub loop-line-preserved : goal.loop-line-preserved
loop-line-preserved c =
    let n = c.loop-line.line in
    let text = c.args.text.now in
    let here : n < length text = rw (← c.lines-line-end.ensures.count) c.loop-line-test.true in
    let more : placed_from 0 (take (n + 1) text) ≡ placed_from 0 (take n text) ++ placed_on n 0 (line_at text n) =
    rw add-one (placed_from-more 0 text n here ∙ ap (λ l. placed_from 0 (take n text) ++ placed_on l 0 (line_at text n)) (zero-add n)) in
    record {
      few = c.in_ok-read_line.ensures.few;
      read = rw (more, ← c.line.ensures) (c.in_ok-read_line.ensures.read (placed_from 0 (take n text)) c.loop-line.invariant.read);
    }

pub returns : goal.returns
returns c =
    let text = c.args.text.now in
    let past : length text ≤ c.loop-line.line = rw (← c.lines-line-end.ensures.count) c.loop-line-test.false in
    let whole : take c.loop-line.line text ≡ text = take_all c.loop-line.line text past in
    let read = read_all (placed text) c.loop-line.reading.opened.items c.loop-line.reading.found (split_once (placed text) (rises_from 0 text))
    (subst (λ ls. HasRead (placed_from 0 ls) c.loop-line.reading.opened.items c.loop-line.reading.found) whole c.loop-line.invariant.read) in
    let noted : c.note_all.new.found ≡ take MAX_FINDINGS (c.loop-line.reading.found ++ map span_of c.loop-line.reading.opened.items) =
    rw c.as_slice.ensures.value at c.in_ok-note_all.ensures in
    record { all = read.0; are_all = all_lone text read.0 read.1; first = noted ∙ read.2 }
