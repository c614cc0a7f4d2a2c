-- A step of a request, from what comes of a command or from one reply.
use Rattle.std.proofs.Common.{◌≡◌, ℕ, ◌+◌, ◌-◌, ◌≤◌, Bool, true, false, List, [], Option, None, Some, if◌then◌else◌, refl, ap, sym, subst, ◌∙◌, arith}
use Rattle.kte_doc.specs.Documents.{Document}
use Rattle.kte_undo.specs.Groups.{Kept}
use Rattle.kte_jobs.specs.Job.{Job}
use Rattle.kte_fold.specs.Tree.{Outline}
use Rattle.kte_command.specs.declared.command.Command.{Command}
use Rattle.kte_core.specs.State.{State, Reaction, refused, replied}
use Rattle.kte_core.specs.Kept.{owed, is_kept, kept_after}
use Rattle.kte_core.specs.React.{react, react_by, react_command, cut_at, CutsBetween}
use Rattle.kte_core.specs.Shown.{AreFoldsOf, Answers, Gives, Meets, Reacts, Shows, react_open}
use Rattle.kte_core.specs.declared.event.Step.{Step}
use Rattle.kte_core.specs.declared.present.Present.{Present}
use Rattle.kte_core.specs.declared.reply.Reply.{Reply}
use Rattle.kte_core.specs.declared.reply.Reply.TheVariants as reply
use Rattle.kte_core.specs.declared.reply.Refusal.TheVariants as refusal
use Rattle.kte_core.specs.declared.request.Request.{Request}
use Rattle.kte_core.specs.declared.request.Request.TheVariants.{Cmd, Close, Take, Deliver, GiveBack, Outcome}
use Rattle.kte_core.proofs.RisesLemmas.{gives_up, kept_within}
use Rattle.kte_core.proofs.TransactionLemmas.{IsCommand, no_cut}

-- a step of one reply, for which no primitive was made
pub Answers-given : (state : State) (seat : ℕ) (request : Request) (told : Reply) (step : Step) (present : Present)
    → Gives (react state seat request) told present → step.reply ≡ told → step.made ≡ [] → Answers state seat request step present
Answers-given state seat request told step present gives reply made =
    let whole : cut_at step.reply ≡ None = ap cut_at reply ∙ gives.uncut in
    record {
      after = (react state seat request).after;
      reacts = record {
        reply = subst (λ (o : Option ℕ). step.reply ≡ (react_by state seat request o).reply) (sym whole) (reply ∙ gives.reply);
        made = subst (λ (o : Option ℕ). step.made ≡ (react_by state seat request o).made) (sym whole) (made ∙ sym gives.made);
        leads = subst (λ (o : Option ℕ). (react state seat request).after ≡ (react_by state seat request o).after) (sym whole) refl;
        cut = subst (λ (o : Option ℕ). CutsBetween (react state seat request).made o) (sym whole) tt;
      };
      shows = gives.shows;
    }

-- a closed session refuses each command
pub Answers-closed : (state : State) (seat : ℕ) (command : Command) (step : Step) (present : Present) → Shows state present
    → present.is_closed ≡ true → step.reply ≡ reply.Refused refusal.Closed → step.made ≡ [] → Answers state seat (Cmd command) step present
Answers-closed state seat command step present shows closed told made =
    let is : refused state refusal.Closed ≡ react state seat (Cmd command) =
    ap (λ (b : Bool). if b then refused state refusal.Closed else react_command state command) (sym closed ∙ shows.closed) in
    Answers-given state seat (Cmd command) (reply.Refused refusal.Closed) step present
    (subst (λ (r : Reaction). Gives r (reply.Refused refusal.Closed) present) is
    (record { reply = refl; made = refl; uncut = refl; shows = shows })) told made

-- another carries it out
same_open : (state : State) (seat : ℕ) (command : Command) (o : Option ℕ) → state.closed ≡ false
    → react_open state command o ≡ react_by state seat (Cmd command) o
same_open state seat command None not_closed =
    ap (λ (b : Bool). if b then refused state refusal.Closed else react_command state command) (sym not_closed)
same_open state seat command (Some n) not_closed = refl

pub Answers-open : (state : State) (seat : ℕ) (command : Command) (step : Step) (present : Present) (doc : Document) (undo : Kept) (jobs : List Job) (folds : Outline)
    → Shows state present → present.is_closed ≡ false → Meets state command step doc undo.edits jobs → AreFoldsOf doc folds
    → Answers state seat (Cmd command) step (record present { doc = doc; undo = undo; jobs = jobs; folds = folds })
Answers-open state seat command step present doc undo jobs folds shows still_open meets are =
    let not_closed : state.closed ≡ false = sym shows.closed ∙ still_open in
    let is = same_open state seat command (cut_at step.reply) not_closed in
    record {
      after = meets.after;
      reacts = record {
        reply = meets.carries.reply ∙ ap (λ (r : Reaction). r.reply) is;
        made = meets.carries.made ∙ ap (λ (r : Reaction). r.made) is;
        leads = meets.carries.leads ∙ ap (λ (r : Reaction). r.after) is;
        cut = subst (λ (r : Reaction). CutsBetween r.made (cut_at step.reply)) (same_open state seat command None not_closed) meets.carries.cut;
      };
      shows = record {
        document = meets.document;
        edits = meets.edits;
        jobs = meets.jobs_now;
        folds = are;
        closed = shows.closed ∙ sym meets.closed;
      };
    }

-- an outcome is noted
pub Gives-noted : (state : State) (present : Present) → Shows state present
    → Gives (replied state reply.Noted) reply.Noted present
Gives-noted state present shows = record { reply = refl; made = refl; uncut = refl; shows = shows }

-- an event for which room is kept is no command, and is not cut
no_command : (closed : Bool) (jobs : List Job) (seat : ℕ) (request : Request) → is_kept closed jobs seat request ≡ true → IsCommand request → ⊥
no_command closed jobs seat (Cmd command) is command_is = absurd (cc)
no_command closed jobs seat Close is command_is = command_is
no_command closed jobs seat Take is command_is = command_is
no_command closed jobs seat (Deliver job findings) is command_is = command_is
no_command closed jobs seat (GiveBack job) is command_is = command_is
no_command closed jobs seat (Outcome call ok) is command_is = command_is

whole_reply : (state : State) (seat : ℕ) (request : Request) (o : Option ℕ) → (IsCommand request → ⊥)
    → CutsBetween (react state seat request).made o → react_by state seat request o ≡ react state seat request
whole_reply state seat request None none cut = refl
whole_reply state seat request (Some n) none cut = absurd (no_cut state seat request n none cut.1)

-- there is room for the event of a step, and then for as many as there must be
pub record HasRoom (kept room : ℕ) (told : Reply) : Type 0 where
  pub some : 1 ≤ room
  pub left : kept_after kept told + 1 ≤ room

pub has_room : (state : State) (seat : ℕ) (request : Request) (step : Step) (after : State) (kept room : ℕ) (flag : Bool)
    → Reacts state seat request step after → flag ≡ is_kept state.closed state.jobs seat request → kept ≡ owed state → kept ≤ room
    → (flag ≡ false → kept + 2 ≤ room) → HasRoom kept room step.reply
has_room state seat request step after kept room false reacts is same within more =
    let enough = more refl in
    let less = kept_within kept step.reply in
    record { some = omega arith; left = omega arith }
has_room state seat request step after kept room true reacts is same within more =
    let up = gives_up state seat request (sym is) in
    let told : step.reply ≡ (react state seat request).reply =
    reacts.reply ∙ ap (λ (r : Reaction). r.reply) (whole_reply state seat request (cut_at step.reply)
    (no_command state.closed state.jobs seat request (sym is)) reacts.cut) in
    let some = up.some in
    let less : kept_after kept step.reply ≡ kept - 1 =
    ap (kept_after kept) told ∙ ap (λ (n : ℕ). kept_after n (react state seat request).reply) same ∙ up.less ∙ ap (λ (n : ℕ). n - 1) (sym same) in
    record { some = omega arith; left = omega arith }
