use Rattle.std.proofs.lemmas.Result.{err_from_is_err_and}
use Rattle.kte_report.proofs.ReportLemmas.{keeps_two}
use Rattle.std.proofs.Common.{refl, rules, ◌≡◌, ◌++◌, ◌<◌, length, get_or, codes, ap, arith}
use Rattle.std.specs.FinMap.{entries, keys}
use Rattle.kte_report.specs.Report.{number_line}
use Rattle.kte_report.proofs.RangeLemmas.{shown-push}
use Rattle.kte_report.proofs.report.push_ranges.Goals as goal

pub loop-id-preserved : goal.loop-id-preserved
loop-id-preserved c =
    let ranges = c.args.doc.now.ranges in
    let ids : c.deref-id-items.result.now ≡ keys ranges = search rules in
    let within : c.loop-id.id-index < length (keys ranges) = omega (arith, ap length ids) in
    shown-push ranges c.loop-id.id-index _ (c.args.out.now.items
    ++ number_line (codes "ranges") (length (entries ranges))) c.loop-id.out.items c.push_range.new.out.items within
    (ap (λ xs. get_or xs c.loop-id.id-index 0) ids) c.loop-id.invariant c.in_ok-push_range.ensures.ok

pub returns-in_err-push_range-clause-err : goal.returns-in_err-push_range-clause-err
returns-in_err-push_range-clause-err c =
    let is = err_from_is_err_and c.from_residual-in_err-push_range.result c.from_residual-in_err-push_range.ensures.1 in
    rw is.1 (keeps_two c.args.out.now.items _ _ _ c.loop-id.out.items _ refl c.loop-id.invariant c.in_err-push_range.ensures.err)
