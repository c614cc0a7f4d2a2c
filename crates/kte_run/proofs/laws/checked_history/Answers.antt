use Rattle.kte_core.specs.Replay.{beginning}
use Rattle.kte_run.proofs.AskLemmas.{none_first}
use Rattle.kte_run.proofs.CheckedLemmas.{checked_law}
use Rattle.kte_run.proofs.laws.checked_history.Goals as goal

pub returns : goal.returns
returns g c = λ seen own commands loaded limit events editor_seen editor_own checkers legal history editor did some.
    checked_law seen own commands (beginning loaded limit) events editor_seen editor_own checkers history editor did legal
    (none_first loaded limit) some
