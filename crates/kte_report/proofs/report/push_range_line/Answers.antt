use Rattle.kte_report.proofs.ReportLemmas.{fails_three, fails_four, fails_five}
use Rattle.kte_report.proofs.report.push_range_line.Goals as goal

pub returns-in_err-push_expand-clause-err : goal.returns-in_err-push_expand-clause-err
returns-in_err-push_expand-clause-err c =
    fails_three c.from_residual-in_err-push_expand.result c.args.out.now.items _ _ _ c.extend_from_slice.new.self.items c.push_number.new.out.items c.push_kind.new.out.items
    c.push_expand.new.out.items c.in_ok-extend_from_slice.ensures.items c.in_ok-push_number.ensures.ok c.in_ok-push_kind.ensures.ok
    c.in_err-push_expand.ensures.err

pub returns-in_err-push_empty-clause-err : goal.returns-in_err-push_empty-clause-err
returns-in_err-push_empty-clause-err c =
    fails_four c.from_residual-in_err-push_empty.result c.args.out.now.items _ _ _ _ c.extend_from_slice.new.self.items c.push_number.new.out.items c.push_kind.new.out.items c.push_expand.new.out.items
    c.push_empty.new.out.items c.in_ok-extend_from_slice.ensures.items c.in_ok-push_number.ensures.ok c.in_ok-push_kind.ensures.ok c.in_ok-push_expand.ensures.ok
    c.in_err-push_empty.ensures.err

pub returns-in_err-push_span_or_invalid-clause-err : goal.returns-in_err-push_span_or_invalid-clause-err
returns-in_err-push_span_or_invalid-clause-err c =
    fails_five c.from_residual-in_err-push_span_or_invalid.result c.args.out.now.items _ _ _ _ _ c.extend_from_slice.new.self.items c.push_number.new.out.items c.push_kind.new.out.items c.push_expand.new.out.items c.push_empty.new.out.items
    c.push_span_or_invalid.new.out.items c.in_ok-extend_from_slice.ensures.items c.in_ok-push_number.ensures.ok c.in_ok-push_kind.ensures.ok c.in_ok-push_expand.ensures.ok c.in_ok-push_empty.ensures.ok
    c.in_err-push_span_or_invalid.ensures.err
