-- The state of a session, and what comes of a request in it. Source: KTextEditor's Document and
-- MovingRange; jobs and the close of a session are this project's own.
use Rattle.std.specs.Prelude.{ℕ, Bool, List, [], Option, None}
use Rattle.std.specs.Ordering.{nat_cmp}
use Rattle.std.specs.FinMap.{FinMap}
use Rattle.kte_text.specs.declared.primitive.Primitive.{Primitive}
use Rattle.kte_place.specs.Ends.{Ends}
use Rattle.kte_place.specs.declared.span.Expand.{Expand}
use Rattle.kte_place.specs.declared.span.Empty.{Empty}
use Rattle.kte_ranges.specs.declared.info.RangeKind.{RangeKind}
use Rattle.kte_ranges.specs.declared.info.Origin.{Origin}
use Rattle.kte_history.specs.declared.lock.Lock.{Lock}
use Rattle.kte_doc.specs.Trail.{stand}
use Rattle.kte_jobs.specs.Job.{Job}
use Rattle.kte_core.specs.Editing.{Editing, EditReaction, revision_of}
use Rattle.kte_core.specs.declared.reply.Reply.{Reply}
use Rattle.kte_core.specs.declared.reply.Reply.TheVariants as reply
use Rattle.kte_core.specs.declared.reply.Refusal.{Refusal}

-- A range: what it does at a change, whose it is, and where it was made or last set
pub record Range : Type 0 where
  pub expand : Expand
  pub empty : Empty
  pub kind : RangeKind
  pub origin : Origin

-- where a range stands now: the trail since its origin determines it
abbrev pub stands : Editing → Range → Option Ends
stands editing range = stand editing.loaded.text editing.trail range.expand range.empty range.origin

-- a range that is made now
abbrev pub made_now : Editing → Ends → Expand → Empty → RangeKind → Range
made_now editing span expand empty kind = record {
  expand = expand;
  empty = empty;
  kind = kind;
  origin = record { revision = revision_of editing; span = span };
}

-- a range that is set now: only its origin changes
abbrev pub set_now : Editing → Ends → Range → Range
set_now editing span range = made_now editing span range.expand range.empty range.kind

-- What a core holds: what is edited, the ranges by their numbers, the number that the next range
-- gets, the locks, the jobs, and whether the session was closed
pub record State : Type 0 where
  pub editing : Editing
  pub ranges : FinMap nat_cmp Range
  pub next_id : ℕ
  -- the locks on revisions, in the order in which they were taken
  pub locks : List Lock
  -- the jobs, in the order of their numbers, which rise from 1
  pub jobs : List Job
  pub closed : Bool

-- What comes of a request: the reply, the primitives that were made, the transaction that it
-- finishes, if it finishes one that has primitives, and the state after it
pub record Reaction : Type 0 where
  pub reply : Reply
  pub made : List Primitive
  pub finished : Option (List Primitive)
  pub after : State

-- a reply that changes nothing
abbrev pub replied : State → Reply → Reaction
replied state reply = record { reply = reply; made = []; finished = None; after = state }

-- a refusal changes nothing
abbrev pub refused : State → Refusal → Reaction
refused state refusal = replied state (reply.Refused refusal)

-- an edit leaves the ranges as they are: where they stand follows from the trail
abbrev pub edited : State → EditReaction → Reaction
edited state edit = record {
  reply = edit.reply;
  made = edit.made;
  finished = edit.finished;
  after = record state { editing = edit.after };
}
