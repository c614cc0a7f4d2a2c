use Rattle.std.proofs.Common.{◌∙◌, Result, Ok, Err, sym}
use Rattle.std.specs.Prelude.{OnErr}
use Rattle.kte_desk.specs.Serving.{NoneTaken}
use Rattle.kte_core.specs.Replay.{present}
use Rattle.kte_core.proofs.OneJobLemmas.{least_none}
use Rattle.kte_desk.proofs.HistoryLemmas.{Serves-none, Serves-then}
use Rattle.kte_desk.proofs.ServeLemmas.{all_done}
use Rattle.kte_desk.proofs.serving.serve_all.Goals as goal

pub loop-job-init : goal.loop-job-init
loop-job-init g c = (c.requires.can, λ idle. (Serves-none c.args.core.now, idle), λ none. none, c.requires.text)

pub loop-job-preserved : goal.loop-job-preserved
loop-job-preserved g c = (
  c.in_ok-serve.ensures.can,
  λ idle. (
    Serves-then c.args.core.now c.loop-job.core c.serve.new.core (c.loop-job.invariant.1 idle).0
        (c.in_ok-serve.ensures.ok (c.loop-job.invariant.1 idle).1),
    c.in_ok-serve.ensures.idle (c.loop-job.invariant.1 idle).1,
  ),
  λ none. c.in_ok-serve.ensures.none (c.loop-job.invariant.2 none),
  c.loop-job.invariant.3 ∙ sym c.in_ok-serve.ensures.text,
)

pub returns-clause-ok : goal.returns-clause-ok
returns-clause-ok g c = λ idle. record {
  serves = (c.loop-job.invariant.1 idle).0;
  done = all_done (present c.loop-job.core).jobs (least_none (present c.loop-job.core).jobs (sym c.in_default.ensures)) (c.loop-job.invariant.1 idle).1.none_taken;
}

-- what holds holds after an error
after_err : {T E : Type 0} (r : Result T E) (P : Type 0) → P → OnErr r P
after_err (Ok value) P h = tt
after_err (Err error) P h = h

pub returns-in_err-serve-clause-err : goal.returns-in_err-serve-clause-err
returns-in_err-serve-clause-err g c =
    after_err c.from_residual.result (NoneTaken (present c.args.core.now) → NoneTaken (present c.serve.new.core))
    (λ none. c.in_err-serve.ensures.err (c.loop-job.invariant.2 none))
