use Rattle.std.proofs.Common.{◌≡◌, drop, take, ap, ◌∙◌, append_assoc}
use Rattle.std.proofs.lemmas.Str.{IsCharBoundary-from_drop}
use Rattle.kte_text.specs.Reading.{utf16_of}
use Rattle.kte_text.proofs.SplitLemmas.{none_found, found_at, step, one_line, rest_is, part_is}
use Rattle.kte_text.proofs.reading.lines_of.Goals as goal

pub range-requires-clause-start_boundary : goal.range-requires-clause-start_boundary
range-requires-clause-start_boundary c =
    let held = c.loop-length.invariant in
    λ _. IsCharBoundary-from_drop c.args.text.now c.loop-length.from held.within held.utf8

pub of_text-requires : goal.of_text-requires
of_text-requires c =
    let rest = rest_is c.as_bytes-bytes.result.now c.args.text.now c.loop-length.from c.as_bytes-bytes.ensures.value in
    let found = found_at (drop c.loop-length.from c.args.text.now) c.in-Some.length (rw rest at c.in-Some.ensures) in
    rw (c.range.ensures.value, part_is c.args.text.now c.loop-length.from c.in-Some.length) found.none_before

pub loop-length-preserved : goal.loop-length-preserved
loop-length-preserved c =
    let text = c.args.text.now in
    let from = c.loop-length.from in
    let k = c.in-Some.length in
    let held = c.loop-length.invariant in
    let rest = rest_is c.as_bytes-bytes.result.now text from c.as_bytes-bytes.ensures.value in
    let found = found_at (drop from text) k (rw rest at c.in-Some.ensures) in
    let s = step text from k held.within held.utf8 found in
    let line : c.in_ok-of_text.field-0 ≡ utf16_of (take k (drop from text)) =
    c.in_ok-of_text.ensures ∙ ap utf16_of (c.range.ensures.value ∙ part_is text from k) in
    rw (c.end_len.ensures, c.end_at.ensures, c.as_bytes-bytes.ensures.value) (record {
      within = s.within;
      utf8 = s.utf8;
      made = rw (c.in_ok-push.ensures.items, line, append_assoc, ← s.lines) held.made;
    })

pub range_from-requires : goal.range_from-requires
range_from-requires c =
    let held = c.loop-length.invariant in
    λ _. IsCharBoundary-from_drop c.args.text.now c.loop-length.from held.within held.utf8

pub of_text-requires-2 : goal.of_text-requires-2
of_text-requires-2 c =
    let rest = rest_is c.as_bytes-bytes.result.now c.args.text.now c.loop-length.from c.as_bytes-bytes.ensures.value in
    rw c.range_from.ensures.value (none_found (drop c.loop-length.from c.args.text.now) (rw rest at c.in_default.ensures))

pub returns : goal.returns
returns c =
    let text = c.args.text.now in
    let from = c.loop-length.from in
    let held = c.loop-length.invariant in
    let rest = rest_is c.as_bytes-bytes.result.now text from c.as_bytes-bytes.ensures.value in
    let last = one_line (drop from text) held.utf8 (none_found (drop from text) (rw rest at c.in_default.ensures)) in
    let line : c.in_ok-of_text-2.field-0 ≡ utf16_of (drop from text) = c.in_ok-of_text-2.ensures ∙ ap utf16_of c.range_from.ensures.value in
    rw (c.in_ok-push-2.ensures.items, line, ← last.0) held.made
