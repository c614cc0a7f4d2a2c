use Rattle.std.proofs.Common.{◌≡◌, ℕ, ◌++◌, length, codes, ap, ◌∙◌, arith}
use Rattle.std.proofs.lemmas.List.{length-map}
use Rattle.std.proofs.lemmas.Result.{on_ok_weaker}
use Rattle.std.specs.FinMap.{entries}
use Rattle.kte_core.specs.Replay.{present}
use Rattle.kte_doc.specs.Standings.{Standing}
use Rattle.kte_report.specs.Report.{number_line}
use Rattle.kte_report.proofs.RangeLemmas.{count_alike}
use Rattle.kte_report.proofs.report.push_range_count.Goals as goal

pub returns-clause-ok : goal.returns-clause-ok
returns-clause-ok c =
    let state = present c.args.core.now in
    let ids = c.in_ok-ids.ensures.ids in
    let count : c.len.result ≡ length (entries state.ranges) =
    omega (arith, c.len.ensures, ap length ids, length-map (entries c.doc.result.now.ranges) (λ (e : ℕ × Standing). e.0), count_alike state c.doc.result.now c.doc.ensures) in
    on_ok_weaker c.push_number_line.result
    (λ is. is ∙ ap (λ (n : ℕ). c.args.out.now.items ++ number_line (codes "ranges") n) count) c.push_number_line.ensures.ok
