use Rattle.std.proofs.Common.{◌∙◌, sym, length}
use Rattle.std.proofs.lemmas.Result.{err_from_is_err_and}
use Rattle.kte_script.specs.Fields.{spans_from, spans_at}
use Rattle.kte_script.proofs.SpansLemmas.{at_start, shorter, more_read, fault_read}
use Rattle.kte_script.proofs.words.Words.spans.Goals as goal

pub spans-init : goal.spans-init
unfolding spans_at
spans-init c =
    let rest = c.args.self.now.rest.now in
    rw c.new-spans.ensures (at_start (spans_from c.args.limits (length rest) rest))

pub returns-in_err-span : goal.returns-in_err-span
returns-in_err-span c =
    let is = err_from_is_err_and c.from_residual.result c.from_residual.ensures.1 in
    let more = sym c.is_before_number.ensures ∙ c.spans-test.true in
    rw (is.1, is.2)
    (fault_read c.args.limits c.spans.spans c.spans.self.rest.now c.in_err-span.field-0.0 _ more c.in_err-span.ensures.moves c.spans.invariant)

pub spans-smaller : goal.spans-smaller
spans-smaller c =
    shorter c.args.limits c.spans.self.rest.now c.in_ok-span.field-0 c.span.new.self.rest.now c.in_ok-span.ensures.moves

pub spans-preserved : goal.spans-preserved
spans-preserved c =
    let more = sym c.is_before_number.ensures ∙ c.spans-test.true in
    rw c.in_ok-push.ensures.ok
    (more_read c.args.limits c.spans.spans c.spans.self.rest.now c.in_ok-span.field-0 c.span.new.self.rest.now _ more
    c.in_ok-span.ensures.moves c.spans.invariant)
