use Rattle.std.proofs.Common.{◌∙◌, [], ◌∷◌, ◌++◌, sym, arith, length-append}
use Rattle.kte_script.proofs.PartLemmas.{no_first, first_read, no_next, next_read, last_read, size_one, size_more, no_lines-text, lines-text, too_large-text}
use Rattle.kte_script.proofs.quotation.text_of.Goals as goal

pub returns-in_default-clause-text : goal.returns-in_default-clause-text
returns-in_default-clause-text c =
    no_lines-text c.args.bytes.now
    (no_first c.args.bytes.now c.split_end.result.0.now c.split_end.result.1 c.split_end.ensures.parts
    (sym c.in_default.is ∙ c.in_ok-line.ensures.line))

pub returns-then-len-gt-MAX_SIZE-clause-text : goal.returns-then-len-gt-MAX_SIZE-clause-text
returns-then-len-gt-MAX_SIZE-clause-text c =
    let line = c.in-Some.line in
    too_large-text c.args.bytes.now (line ∷ []) _ (omega arith) (omega (arith, size_one line))
    (first_read c.args.bytes.now c.split_end.result.0.now line c.split_end.result.1 c.split_end.ensures.parts
    (sym c.in-Some.is ∙ c.in_ok-line.ensures.line))

pub lines-init : goal.lines-init
lines-init c =
    let line = c.in-Some.line in
    rw c.in_ok-text.ensures (record {
      so_far = first_read c.args.bytes.now c.split_end.result.0.now line c.split_end.result.1 c.split_end.ensures.parts
          (sym c.in-Some.is ∙ c.in_ok-line.ensures.line);
      some = omega arith;
      small = omega (arith, size_one line);
    })

pub returns-in_default-2-clause-text : goal.returns-in_default-2-clause-text
returns-in_default-2-clause-text c =
    no_lines-text c.args.bytes.now
    (no_next c.lines.text c.in-Some-more.rest.now c.split_end-in-lines.result.0.now c.split_end-in-lines.result.1 _
    c.split_end-in-lines.ensures.parts (sym c.in_default-2.is ∙ c.in_ok-line-2.ensures.line)
    (rw c.in-Some-more.is at c.lines.invariant.so_far))

pub returns-in_default-more-clause-text : goal.returns-in_default-more-clause-text
returns-in_default-more-clause-text c =
    lines-text c.args.bytes.now c.lines.text
    (last_read c.lines.text _ (rw c.in_default-more.is at c.lines.invariant.so_far)) c.lines.invariant.small

pub returns-then-size-len-ge-MAX_SIZE-clause-text : goal.returns-then-size-len-ge-MAX_SIZE-clause-text
returns-then-size-len-ge-MAX_SIZE-clause-text c =
    let line = c.in-Some-2.line in
    let rest = c.in-Some-more.rest.now in
    let held = rw c.in-Some-more.is at c.lines.invariant in
    too_large-text c.args.bytes.now (c.lines.text ++ line ∷ []) _ (omega (arith, length-append c.lines.text (line ∷ [])))
    (omega (arith, size_more c.lines.text line held.some))
    (next_read c.lines.text rest c.split_end-in-lines.result.0.now line c.split_end-in-lines.result.1 _
    c.split_end-in-lines.ensures.parts (sym c.in-Some-2.is ∙ c.in_ok-line-2.ensures.line) held.so_far)

pub lines-preserved : goal.lines-preserved
lines-preserved c =
    let line = c.in-Some-2.line in
    let rest = c.in-Some-more.rest.now in
    let held = rw c.in-Some-more.is at c.lines.invariant in
    rw c.in_ok-push.ensures.ok (record {
      so_far = next_read c.lines.text rest c.split_end-in-lines.result.0.now line c.split_end-in-lines.result.1 _
          c.split_end-in-lines.ensures.parts (sym c.in-Some-2.is ∙ c.in_ok-line-2.ensures.line) held.so_far;
      some = omega (arith, length-append c.lines.text (line ∷ []));
      small = omega (arith, size_more c.lines.text line held.some);
    })
