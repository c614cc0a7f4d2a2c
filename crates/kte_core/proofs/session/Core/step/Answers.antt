use Rattle.std.proofs.Common.{◌≡◌, ◌≤◌, Bool, List, [], ◌∷◌, ◌++◌, refl, ap, sym, subst, ◌∙◌, arith}
use Rattle.kte_jobs.specs.Job.{Job}
use Rattle.kte_core.specs.Kept.{is_kept, kept_after}
use Rattle.kte_core.specs.Inside.{session_of}
use Rattle.kte_core.specs.React.{cut_at}
use Rattle.kte_core.specs.Replay.{present}
use Rattle.kte_core.specs.declared.event.Event.{Event}
use Rattle.kte_core.specs.declared.present.Present.{Present}
use Rattle.kte_core.proofs.AnswerLemmas.{HasRoom, has_room}
use Rattle.kte_core.proofs.FoundLemmas.{Seeks, found_seeks, found_same}
use Rattle.kte_core.proofs.ReplayLemmas.{IsSound-again, IsSound-step, Reacts-push, kept_small}
use Rattle.kte_core.proofs.session.Core.step.Goals as goal
use Rattle.kte_core.proofs.session.Core.step.Goals.{In_ok-step, In_err-reply}

pub make_room-requires-clause-number : goal.make_room-requires-clause-number
make_room-requires-clause-number c =
    let few = kept_small c.self.inside c.args.self.now c.self.invariant c.self.view_is c.requires.numbers.jobs in
    omega arith

pub invariant_of-self : goal.invariant_of-self
invariant_of-self c =
    IsSound-again c.self.inside
    (record { loaded = c.self.inside.loaded; limit = c.self.inside.limit; present = c.self.inside.present; journal = c.make_room.new.journal; kept = c.self.inside.kept })
    c.self.invariant refl refl refl refl c.self.invariant.shows.folds refl c.make_room.ensures.events c.make_room.ensures.room

pub invariant_of-self-in_err-step : goal.invariant_of-self-in_err-step
invariant_of-self-in_err-step c =
    IsSound-again c.self.inside
    (record { loaded = c.self.inside.loaded; limit = c.self.inside.limit; present = c.answer.new.present; journal = c.make_room.new.journal; kept = c.self.inside.kept })
    c.self.invariant refl refl c.in_err-step.ensures.err c.in_err-step.ensures.err_edits
    (c.answer.ensures.folds (present (session_of c.self.inside)) c.self.invariant.shows) refl c.make_room.ensures.events c.make_room.ensures.room

-- only what is found may not be copied, and a search has changed nothing
seeks : (c : In_err-reply) → Seeks c.args.request
seeks c =
    let state = present (session_of c.self.inside) in
    let answers = c.in_ok-step.ensures.answers state c.self.invariant.shows in
    let told = c.in_err-reply.ensures.found in
    found_seeks state c.args.seat c.args.request (cut_at c.in_ok-step.step.reply) c.in_ok-step.step.reply told.0 answers.reacts.reply told.1

pub invariant_of-self-in_err-reply : goal.invariant_of-self-in_err-reply
invariant_of-self-in_err-reply c =
    let same : c.answer.new.present ≡ c.self.inside.present =
    found_same c.self.inside.present c.answer.new.present c.args.request (seeks (goal.at.invariant_of-self-in_err-reply c).In_err-reply)
    c.answer.ensures.searched in
    IsSound-again c.self.inside
    (record { loaded = c.self.inside.loaded; limit = c.self.inside.limit; present = c.answer.new.present; journal = c.make_room.new.journal; kept = c.self.inside.kept })
    c.self.invariant refl refl
    (subst (λ (p : Present). p ≡ record c.self.inside.present { undo = p.undo; folds = p.folds }) (sym same) refl)
    (ap (λ (p : Present). p.undo.edits) same)
    (c.answer.ensures.folds (present (session_of c.self.inside)) c.self.invariant.shows) refl c.make_room.ensures.events c.make_room.ensures.room

pub returns-in_err-reply-clause-closes : goal.returns-in_err-reply-clause-closes
returns-in_err-reply-clause-closes c = λ asked open_now.
    absurd (subst Seeks asked (seeks (goal.at.returns-in_err-reply-clause-closes c).In_err-reply))

pub returns-in_err-reply-clause-returns : goal.returns-in_err-reply-clause-returns
returns-in_err-reply-clause-returns c = λ job revision asked taken.
    absurd (subst Seeks asked (seeks (goal.at.returns-in_err-reply-clause-returns c).In_err-reply))

pub kept_after-self-inside-requires : goal.kept_after-self-inside-requires
kept_after-self-inside-requires c =
    let few = kept_small c.self.inside c.args.self.now c.self.invariant c.self.view_is c.requires.numbers.jobs in
    omega arith

-- there is room for the event, and then for those for which it is kept
room : (c : In_ok-step) → HasRoom c.self.inside.kept c.make_room.new.journal.room c.in_ok-step.step.reply
room c =
    let state = present (session_of c.self.inside) in
    let shows = c.self.invariant.shows in
    let answers = c.in_ok-step.ensures.answers state shows in
    has_room state c.args.seat c.args.request c.in_ok-step.step answers.after c.self.inside.kept c.make_room.new.journal.room
    c.keeps_room-is_kept.result answers.reacts
    (c.keeps_room-is_kept.ensures ∙ ap (λ (b : Bool). is_kept b c.self.inside.present.jobs c.args.seat c.args.request) shows.closed
    ∙ ap (λ (jobs : List Job). is_kept state.closed jobs c.args.seat c.args.request) shows.jobs)
    c.self.invariant.kept c.make_room.ensures.room c.in_ok-make_room.ensures.ok

pub note-requires : goal.note-requires
note-requires c = (room (goal.at.note-requires c).In_ok-step).some

pub invariant_of-self-2 : goal.invariant_of-self-2
invariant_of-self-2 c =
    let event : Event = record { seat = c.args.seat; request = c.args.request; reply = c.in_ok-reply.reply } in
    let state = present (session_of c.self.inside) in
    let enough = room (goal.at.invariant_of-self-2 c).In_ok-step in
    let left = enough.left in
    let kept = c.kept_after-self-inside.ensures in
    let same = ap (kept_after c.self.inside.kept) c.in_ok-reply.ensures.equal in
    let within : c.kept_after-self-inside.result ≤ c.note.new.self.room = omega (arith, c.note.ensures.room) in
    IsSound-step c.self.inside
    (record { loaded = c.self.inside.loaded; limit = c.self.inside.limit; present = c.answer.new.present; journal = c.note.new.self; kept = c.kept_after-self-inside.result })
    event c.in_ok-step.step c.self.invariant refl refl (c.note.ensures.events ∙ ap (λ (events : List Event). events ++ event ∷ []) c.make_room.ensures.events) c.requires.allowed c.in_ok-reply.ensures.equal
    (c.in_ok-step.ensures.answers state c.self.invariant.shows)
    (c.answer.ensures.fit state c.self.invariant.shows) (kept ∙ same) within

pub returns-clause-reacts : goal.returns-clause-reacts
returns-clause-reacts c =
    let event : Event = record { seat = c.args.seat; request = c.args.request; reply = c.in_ok-reply.reply } in
    let state = present (session_of c.self.inside) in
    let answers = c.in_ok-step.ensures.answers state c.self.invariant.shows in
    rw (← c.self.view_is)
    (Reacts-push (session_of c.self.inside)
    (record { loaded = c.self.inside.loaded; limit = c.self.inside.limit; events = c.note.new.self.events })
    event c.in_ok-step.step answers.after refl refl (c.note.ensures.events ∙ ap (λ (events : List Event). events ++ event ∷ []) c.make_room.ensures.events) c.in_ok-reply.ensures.equal answers.reacts)
