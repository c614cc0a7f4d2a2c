-- What a core's fields stand for.
use Rattle.std.specs.Prelude.{◌≡◌, ◌≤◌, ◌++◌}
use Rattle.kte_undo.specs.Steps.{redo_of}
use Rattle.kte_core.specs.Groups.{GroupsFit}
use Rattle.kte_core.specs.Replay.{Session, present, beginning, Answered, primitives_in, transactions}
use Rattle.kte_core.specs.Jobs.{KeepsRevisions}
use Rattle.kte_core.specs.Kept.{owed}
use Rattle.kte_core.specs.Shown.{Shows}
use Rattle.kte_core.specs.declared.session.Core.TheInside.{Inside}

abbrev pub session_of : Inside → Session
session_of core = record { loaded = core.loaded; limit = core.limit; events = core.journal.events }

-- What is held is that of the state now, the groups fit its text, the revision of each job that is
-- taken is locked for it, there is room for the events for which it is kept, all events are
-- answered, and the primitives are those of the finished transactions and of the open one
pub record IsSound (core : Inside) : Type 0 where
  pub shows : Shows (present (session_of core)) core.present
  pub fit : GroupsFit core.present.undo.edits core.present.doc.text
  pub locked : KeepsRevisions (present (session_of core))
  pub kept : core.kept ≡ owed (present (session_of core))
  pub room : core.kept ≤ core.journal.room
  pub answered : Answered (beginning core.loaded core.limit) core.journal.events
  pub parted : (present (session_of core)).editing.trail
      ≡ primitives_in (transactions (beginning core.loaded core.limit) core.journal.events)
      ++ redo_of (present (session_of core)).editing.edits.current
