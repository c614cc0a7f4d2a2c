use Rattle.std.proofs.lemmas.Result.{on_ok_weaker, on_err_weaker}
use Rattle.kte_core.specs.Replay.{present}
use Rattle.kte_report.proofs.ReportLemmas.{keeps_five, fails_three, fails_four, reported}
use Rattle.kte_report.proofs.report.push_parts.Goals as goal

pub returns-clause-ok : goal.returns-clause-ok
returns-clause-ok c =
    on_ok_weaker c.push_text.result
    (reported (present c.args.core.now) c.doc-doc.result.now c.args.out.now.items c.extend_from_slice.new.self.items
    c.push_counts.new.out.items c.push_ranges.new.out.items c.push_hidden.new.out.items c.push_saved_digest.new.out.items
    c.push_text.new.out.items c.doc-doc.ensures c.in_ok-extend_from_slice.ensures.items c.in_ok-push_counts.ensures.ok
    c.in_ok-push_ranges.ensures.ok c.in_ok-push_hidden.ensures.ok c.in_ok-push_saved_digest.ensures.ok)
    c.push_text.ensures.ok

pub returns-in_err-push_hidden-clause-err : goal.returns-in_err-push_hidden-clause-err
returns-in_err-push_hidden-clause-err c =
    fails_three c.from_residual-in_err-push_hidden.result c.args.out.now.items _ _ _ c.extend_from_slice.new.self.items c.push_counts.new.out.items c.push_ranges.new.out.items
    c.push_hidden.new.out.items c.in_ok-extend_from_slice.ensures.items c.in_ok-push_counts.ensures.ok c.in_ok-push_ranges.ensures.ok
    c.in_err-push_hidden.ensures.err

pub returns-in_err-push_saved_digest-clause-err : goal.returns-in_err-push_saved_digest-clause-err
returns-in_err-push_saved_digest-clause-err c =
    fails_four c.from_residual-in_err-push_saved_digest.result c.args.out.now.items _ _ _ _ c.extend_from_slice.new.self.items c.push_counts.new.out.items c.push_ranges.new.out.items c.push_hidden.new.out.items
    c.push_saved_digest.new.out.items c.in_ok-extend_from_slice.ensures.items c.in_ok-push_counts.ensures.ok c.in_ok-push_ranges.ensures.ok c.in_ok-push_hidden.ensures.ok
    c.in_err-push_saved_digest.ensures.err

pub returns-clause-err : goal.returns-clause-err
returns-clause-err c =
    on_err_weaker c.push_text.result
    (keeps_five _ _ _ _ _ _ c.extend_from_slice.new.self.items c.push_counts.new.out.items c.push_ranges.new.out.items
    c.push_hidden.new.out.items c.push_saved_digest.new.out.items _ c.in_ok-extend_from_slice.ensures.items
    c.in_ok-push_counts.ensures.ok c.in_ok-push_ranges.ensures.ok c.in_ok-push_hidden.ensures.ok
    c.in_ok-push_saved_digest.ensures.ok)
    c.push_text.ensures.err
