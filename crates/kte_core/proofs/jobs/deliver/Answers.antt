use Rattle.std.proofs.Common.{sym, ◌∙◌}
use Rattle.std.proofs.lemmas.Bool.{false≢true}
use Rattle.kte_history.specs.declared.lock.Owner.TheVariants.{Job}
use Rattle.kte_core.proofs.LockLemmas.{lands}
use Rattle.kte_core.proofs.FindingLemmas.{Gives-delivered}
use Rattle.kte_core.proofs.jobs.deliver.Goals as goal

-- the job's own lock keeps the revision
pub unreachable-requires : goal.unreachable-requires
unreachable-requires c =
    let locked = c.requires.locked c.args.job c.args.seat c.in-Some.revision (sym c.taken_at.ensures ∙ c.in-Some.is) in
    let may = lands c.args.present.now.doc (Job c.args.job) c.in-Some.revision locked in
    false≢true (sym (c.make_ranges.ensures.not_locked c.in-Err-NotLocked.field-0-0 c.in-Err-NotLocked.field-0-1 (cc)) ∙ may)

pub returns-clause-gives : goal.returns-clause-gives
returns-clause-gives c = λ state shows.
    Gives-delivered state c.args.present.now c.args.seat c.args.job c.in-Some.revision c.args.findings.now c.make_ranges.new.doc c.release.new.doc
    c.finish.new.self c.in-Ok.first c.len-count.result shows (sym c.taken_at.ensures ∙ c.in-Some.is) c.in-Ok.ensures.made
    c.release.ensures.released c.release.ensures.trail c.finish.ensures c.in-Ok.ensures.first c.len-count.ensures
