use Rattle.std.proofs.Common.{◌≡◌, ◌∙◌, ℕ, false, Option, Some, None, refl, sym}
use Rattle.std.specs.Prelude.{is_some}
use Rattle.std.proofs.lemmas.Bool.{true≢false}
use Rattle.kte_core.specs.Replay.{present}
use Rattle.kte_core.proofs.OneJobLemmas.{least_none}
use Rattle.kte_desk.proofs.HistoryLemmas.{Serves-none}
use Rattle.kte_desk.proofs.ServeLemmas.{all_done}
use Rattle.kte_desk.proofs.serving.drain.Goals as goal

none_of : (o : Option ℕ) → is_some o ≡ false → o ≡ None
none_of None is = refl
none_of (Some job) is = absurd (true≢false is)

-- no job waits, so all are done
pub returns-then-is_none-clause-ok : goal.returns-then-is_none-clause-ok
returns-then-is_none-clause-ok g c = λ idle. record {
  serves = Serves-none c.args.core.now;
  done = all_done (present c.args.core.now).jobs (least_none (present c.args.core.now).jobs (sym c.waiting.ensures ∙ none_of c.waiting.result c.if-is_none.ensures)) idle.none_taken;
}
