use Rattle.std.proofs.Common.{length, sym, ap, ◌∙◌, length-append, arith}
use Rattle.std.specs.Prelude.{filter}
use Rattle.std.specs.List.{range_with_len}
use Rattle.kte_core.specs.Folds.{is_line_hidden}
use Rattle.kte_core.specs.Replay.{present}
use Rattle.kte_report.specs.Report.{runs_of}
use Rattle.kte_report.proofs.HiddenLemmas.{passing_here, not_passing_here}
use Rattle.kte_report.proofs.hidden.hidden_runs.Goals.{then-is_hidden+in_ok-add_line, else-is_hidden}
use Rattle.kte_report.proofs.hidden.hidden_runs.Goals as goal

pub loop-line-preserved : goal.loop-line-preserved
loop-line-preserved c =
    let state = present c.args.core.now in
    let line = c.loop-line.line in
    let so_far = c.loop-line.invariant in
    elim c.if-is_hidden.branch [
      | then-is_hidden+in_ok-add_line w ↦
          let more = passing_here (is_line_hidden state) line (sym c.is_hidden.ensures ∙ w.if-is_hidden.true) in
          let pushed = w.in_ok-add_line.ensures (filter (is_line_hidden state) (range_with_len 0 line)) so_far.ends in
          rw w.hidden-is (record {
            lines = omega (arith, ap length more, so_far.lines, simp length-append at (ap length more));
            ends = pushed ∙ ap runs_of (sym more);
            within = omega arith;
          })
      | else-is_hidden w ↦
          let more = not_passing_here (is_line_hidden state) line (sym c.is_hidden.ensures ∙ w.if-is_hidden.false) in
          rw w.hidden-is (record {
            lines = so_far.lines ∙ ap length (sym more);
            ends = so_far.ends ∙ ap runs_of (sym more);
            within = omega arith;
          })
    ]
