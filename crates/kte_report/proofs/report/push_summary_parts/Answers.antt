use Rattle.std.proofs.Common.{length}
use Rattle.std.proofs.lemmas.Result.{on_ok_weaker}
use Rattle.kte_core.specs.Replay.{present}
use Rattle.kte_report.proofs.ReportLemmas.{summed_up}
use Rattle.kte_report.proofs.report.push_summary_parts.Goals as goal

pub returns-clause-ok : goal.returns-clause-ok
returns-clause-ok c =
    on_ok_weaker c.push_number_line.result
    (summed_up (present c.args.core.now) c.args.commands (length c.args.core.now.events) c.args.recovered c.args.out.now.items
    c.push_run_counts.new.out.items c.push_sizes.new.out.items c.push_groups.new.out.items c.push_range_count.new.out.items
    c.push_saved_digest.new.out.items c.push_number_line.new.out.items c.in_ok-push_run_counts.ensures.ok
    c.in_ok-push_sizes.ensures.ok c.in_ok-push_groups.ensures.ok c.in_ok-push_range_count.ensures.ok
    c.in_ok-push_saved_digest.ensures.ok)
    c.push_number_line.ensures.ok
