-- What a document shows of a state.
use Rattle.std.specs.Prelude.{◌≡◌, ℕ, ◌+◌, Bool, true, false, List, [], ◌++◌, length, Option, None, Some}
use Rattle.std.specs.Option.{option_map}
use Rattle.std.specs.FinMap.{get}
use Rattle.kte_text.specs.Primitives.{after_all}
use Rattle.kte_text.specs.declared.primitive.Primitive.{Primitive}
use Rattle.kte_undo.specs.Groups.{Edits}
use Rattle.kte_place.specs.Ends.{Ends}
use Rattle.kte_place.specs.declared.span.Empty.TheVariants.{Void}
use Rattle.kte_ranges.specs.declared.info.RangeKind.TheVariants as kind
use Rattle.kte_doc.specs.Documents.{Document, CameBy, KeepsTrail, made_of}
use Rattle.kte_doc.specs.Standings.{Standing, AllStandings, spans_of}
use Rattle.kte_fold.specs.Folds.{is_fold}
use Rattle.kte_fold.specs.Laws.{grows_at_no_end, FoldsAreIn}
use Rattle.kte_fold.specs.Tree.{Outline, KeepsTree}
use Rattle.kte_command.specs.declared.command.Command.{Command}
use Rattle.kte_command.specs.declared.command.Command.TheVariants as command
use Rattle.kte_jobs.specs.Job.{Job}
use Rattle.kte_core.specs.Editing.{cut_reaction}
use Rattle.kte_core.specs.State.{Range, State, Reaction, edited}
use Rattle.kte_core.specs.Folds.{is_fold_kind}
use Rattle.kte_core.specs.React.{react_command, react, react_by, cut_at, CutsBetween}
use Rattle.kte_core.specs.declared.present.Present.{Present}
use Rattle.kte_core.specs.declared.request.Request.{Request}
use Rattle.kte_core.specs.declared.event.Step.{Step}
use Rattle.kte_core.specs.declared.reply.Reply.{Reply}
use Rattle.kte_core.specs.declared.reply.Reply.TheVariants as reply
use Rattle.kte_core.specs.declared.reply.Refusal.{Refusal}
use Rattle.kte_core.specs.declared.reply.Refusal.TheVariants.{NoRange}

-- a range of a document, without where it stands
abbrev pub range_of : Standing → Range
range_of standing = record {
  expand = standing.expand;
  empty = standing.empty;
  kind = standing.kind;
  origin = standing.origin;
}

-- The document is that of the state: it came from the loaded text by the trail, so its text, its
-- revision and where its ranges stand are those of the state, and it has the same limit, ranges,
-- next number and locks
pub record IsOf (state : State) (document : Document) : Type 0 where
  pub came : CameBy state.editing.loaded.text state.editing.trail document
  pub limit : document.limit ≡ state.editing.limit
  pub ranges : (id : ℕ) → option_map range_of (get document.ranges id) ≡ get state.ranges id
  pub next_id : document.next ≡ state.next_id
  pub locks : document.locks ≡ state.locks

-- a reply is that of a reaction which makes no primitive, and the document is that of the state
-- after it
pub record Replies (reaction : Reaction) (told : Reply) (document : Document) : Type 0 where
  pub reply : told ≡ reaction.reply
  pub made : reaction.made ≡ []
  pub leads : IsOf reaction.after document

-- the standing range of a number is a fold, if there is one
abbrev pub is_standing_fold : Option Standing → Bool
is_standing_fold None = false
is_standing_fold (Some standing) = is_fold_kind standing.kind

-- a fold does not grow, and is invalid once it is empty
pub record IsFoldLike (standing : Standing) : Type 0 where
  pub expand : standing.expand ≡ grows_at_no_end
  pub empty : standing.empty ≡ Void

-- The folds are those of the document: their numbers are those of its ranges that are folds, each
-- of these is one in its behaviour, the valid ones are in the text, and where they stand keeps the
-- tree
pub record AreFoldsOf (document : Document) (folds : Outline) : Type 0 where
  pub numbers : (id : ℕ) → is_fold folds.numbers id ≡ is_standing_fold (get document.ranges id)
  pub alike : AllStandings (λ s. is_fold_kind s.kind ≡ true → IsFoldLike s) document.ranges
  pub within : FoldsAreIn document.text (spans_of document.ranges) folds.numbers
  pub tree : KeepsTree (spans_of document.ranges) folds.numbers folds.inside

-- a change of the document after which the folds are still its own
abbrev pub KeepsFolds : Document → Document → Type 0
KeepsFolds old new = (folds : Outline) → AreFoldsOf old folds → AreFoldsOf new folds

-- a document after these primitives: it came further by them, and nothing else changed
pub record IsAfter (primitives : List Primitive) (old new : Document) : Type 0 where
  pub came : (loaded : List (List ℕ)) (trail : List Primitive) → CameBy loaded trail old
      → CameBy loaded (trail ++ primitives) new
  pub text : new.text ≡ after_all primitives old.text
  pub revision : new.revision ≡ old.revision + length primitives
  pub limit : new.limit ≡ old.limit
  pub ranges : (id : ℕ) → option_map range_of (get new.ranges id)
      ≡ option_map range_of (get old.ranges id)
  pub next_id : new.next ≡ old.next
  pub locks : new.locks ≡ old.locks
  pub folds : KeepsFolds old new

-- A step is what comes of a request in a state, and leads to another one. Its reply tells where
-- memory ran out, if it did
pub record Reacts (before : State) (seat : ℕ) (request : Request) (step : Step) (after : State)
    : Type 0 where
  pub reply : step.reply ≡ (react_by before seat request (cut_at step.reply)).reply
  pub made : step.made ≡ (react_by before seat request (cut_at step.reply)).made
  pub leads : after ≡ (react_by before seat request (cut_at step.reply)).after
  pub cut : CutsBetween (react before seat request).made (cut_at step.reply)

-- what comes of a command where the session is not closed: after so many primitives memory may have
-- run out
abbrev pub react_open : State → Command → Option ℕ → Reaction
react_open state command None = react_command state command
react_open state command (Some n) = edited state (cut_reaction state.editing command n)

-- .. a step is what comes of it, and leads to another state
pub record Carries (before : State) (command : Command) (step : Step) (after : State) : Type 0 where
  pub reply : step.reply ≡ (react_open before command (cut_at step.reply)).reply
  pub made : step.made ≡ (react_open before command (cut_at step.reply)).made
  pub leads : after ≡ (react_open before command (cut_at step.reply)).after
  pub cut : CutsBetween (react_command before command).made (cut_at step.reply)

-- .. and the document, the groups and the jobs are those of that state
pub record Meets (before : State) (command : Command) (step : Step) (shown : Document)
    (groups : Edits) (jobs : List Job) : Type 0 where
  pub after : State
  pub carries : Carries before command step after
  pub document : IsOf after shown
  pub edits : groups ≡ after.editing.edits
  pub jobs_now : jobs ≡ after.jobs
  pub closed : after.closed ≡ before.closed

-- what is held is that of the state
pub record Shows (state : State) (present : Present) : Type 0 where
  pub document : IsOf state present.doc
  pub edits : present.undo.edits ≡ state.editing.edits
  pub jobs : present.jobs ≡ state.jobs
  pub folds : AreFoldsOf present.doc present.folds
  pub closed : present.is_closed ≡ state.closed

-- a reply is that of a reaction which makes no primitive, and what is held is that of the state
-- after it
pub record Gives (reaction : Reaction) (told : Reply) (present : Present) : Type 0 where
  pub reply : told ≡ reaction.reply
  pub made : reaction.made ≡ []
  pub uncut : cut_at told ≡ None
  pub shows : Shows reaction.after present

-- a step is what comes of a request in a state, and what is held is that of the state after it
pub record Answers (before : State) (seat : ℕ) (request : Request) (step : Step) (present : Present)
    : Type 0 where
  pub after : State
  pub reacts : Reacts before seat request step after
  pub shows : Shows after present

-- the command looks for something in the text: it changes nothing
abbrev pub IsSearch : Command → Type 0
IsSearch (command.Find from query) = Unit {0}
IsSearch (command.FindBack before query) = Unit {0}
IsSearch (command.All query) = Unit {0}
IsSearch _ = ⊥

-- what is replied of a number: where its range stands in the document
abbrev pub told_of : ℕ → Option Standing → Reply
told_of id None = reply.Refused (NoRange id)
told_of id (Some standing) = reply.Range id standing.span

-- a step that refuses a request for this cause
pub record IsRefused (refusal : Refusal) (step : Step) : Type 0 where
  pub reply : step.reply ≡ reply.Refused refusal
  pub made : step.made ≡ []

-- a document after ranges were made of a job's findings in the text at a revision
pub record MakesFindings (job revision : ℕ) (findings : List Ends) (old new : Document)
    : Type 0 where
  pub trail : KeepsTrail old new
  pub rest : new ≡ record old { ranges = new.ranges; next = old.next + length findings }
  pub ranges : (id : ℕ) → get new.ranges id
      ≡ made_of old revision (record { left = false; right = false }) Void (kind.Job job) findings
      id
