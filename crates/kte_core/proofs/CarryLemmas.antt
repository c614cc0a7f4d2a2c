-- What comes of the commands that make no primitive.
use Rattle.std.proofs.Common.{◌≡◌, ℕ, ◌<◌, ◌==◌, ◌+◌, true, false, List, [], ◌∷◌, ◌++◌, length, Option, None, Some, ◌⊎◌, refl, ap, sym, subst, ◌∙◌, inl, inr, arith}
use Rattle.std.specs.Prelude.{Result, Ok, Err, IfOk}
use Rattle.std.specs.declared.alloc.AllocError.{AllocError}
use Rattle.std.proofs.lemmas.Bool.{cases_Bool, eq-eqb, eqb-true, eqb-false}
use Rattle.kte_doc.specs.Documents.{Document}
use Rattle.kte_undo.specs.Groups.{Edits, begun, ended}
use Rattle.kte_command.specs.declared.command.Command.{Command}
use Rattle.kte_command.specs.declared.command.Command.TheVariants as command
use Rattle.kte_core.specs.Editing.{Editing, not_open, still_open, judged, closing, text_of}
use Rattle.kte_core.specs.Groups.{GroupsFit}
use Rattle.kte_core.specs.State.{State, Reaction, edited}
use Rattle.kte_core.specs.React.{react_command, cut_at, ask_outside}
use Rattle.kte_find.specs.declared.rule.Rule.{Rule}
use Rattle.kte_jobs.specs.declared.job.JobState.TheVariants.{Waiting}
use Rattle.kte_jobs.specs.Job.{Job}
use Rattle.kte_core.specs.Shown.{IsOf, Meets, Replies}
use Rattle.kte_core.specs.declared.event.Step.{Step}
use Rattle.kte_core.specs.declared.reply.Reply.{Reply}
use Rattle.kte_core.specs.declared.reply.Reply.TheVariants as reply
use Rattle.kte_core.specs.declared.reply.Refusal.{Refusal}
use Rattle.kte_core.specs.declared.reply.Refusal.TheVariants as refusal
use Rattle.kte_core.proofs.EditLemmas.{Meets-refused, Carries-whole}
use Rattle.kte_core.proofs.GroupLemmas.{fit-begun, fit-ended}
use Rattle.kte_core.proofs.TransactionLemmas.{IsStill, still-outside}

-- a command that edits nothing
pub Meets-still : (state : State) (command : Command) (told : Reply) (step : Step) (later : Document) (edits : Edits) (jobs : List Job)
    → edits ≡ state.editing.edits → jobs ≡ state.jobs → Replies (react_command state command) told later
    → IsStill state (react_command state command) → step.reply ≡ told → step.made ≡ [] → Meets state command step later edits jobs
Meets-still state command told step later edits jobs same kept replies still reply made =
    let replied = reply ∙ replies.reply in
    record {
      after = (react_command state command).after;
      carries = Carries-whole state command step (react_command state command).after (ap cut_at replied ∙ still.uncut) replied
          (made ∙ sym replies.made) refl;
      document = replies.leads;
      edits = same ∙ sym (ap (λ (e : Editing). e.edits) still.editing);
      jobs_now = kept ∙ sym still.jobs;
      closed = still.closed;
    }

-- the jobs that are held are those of the state
pub with_jobs : (state : State) (command : Command) (step : Step) (document : Document) (edits : Edits) (jobs : List Job) → jobs ≡ state.jobs
    → Meets state command step document edits state.jobs → Meets state command step document edits jobs
with_jobs state command step document edits jobs same meets =
    subst (λ (js : List Job). Meets state command step document edits js) (sym same) meets

-- .. also where they are told of a command that is another's value
pub if_meets : (result : Result Step AllocError) (command given : Command) (document later : Document) (edits after : Edits) (jobs : List Job)
    → command ≡ given
    → IfOk result (λ step. (state : State) → IsOf state document → edits ≡ state.editing.edits → Meets state given step later after state.jobs)
    → IfOk result (λ step. (state : State) → IsOf state document → edits ≡ state.editing.edits → jobs ≡ state.jobs
    → Meets state command step later after jobs)
if_meets (Ok step) command given document later edits after jobs is h = λ state is_of same kept.
    rw is (with_jobs state given step later after jobs kept (h state is_of same))
if_meets (Err e) command given document later edits after jobs is h = tt

-- .. leaves the groups fitting
pub fit-still : (state : State) (command : Command) (told : Reply) (document later : Document) (edits : Edits) → IsOf state document
    → Replies (react_command state command) told later → IsStill state (react_command state command) → GroupsFit edits document.text
    → GroupsFit edits later.text
fit-still state command told document later edits is_of replies still fit =
    let same : later.text ≡ document.text =
    replies.leads.came.text ∙ ap text_of still.editing ∙ sym is_of.came.text in
    subst (λ (t : List (List ℕ)). GroupsFit edits t) (sym same) fit

-- a transaction is opened
pub Meets-begin : (state : State) (document : Document) (edits later : Edits) (jobs : List Job) (step : Step)
    → IsOf state document → edits ≡ state.editing.edits → jobs ≡ state.jobs → later ≡ begun edits → step.reply ≡ reply.Depth later.depth
    → step.made ≡ [] → Meets state command.Begin step document later jobs
Meets-begin state document edits later jobs step is_of same kept opened told made =
    let now : later ≡ begun state.editing.edits = opened ∙ ap begun same in
    record {
      after = (react_command state command.Begin).after;
      carries = Carries-whole state command.Begin step (react_command state command.Begin).after (ap cut_at told)
          (told ∙ ap (λ (e : Edits). reply.Depth e.depth) now) made refl;
      document = record { came = is_of.came; limit = is_of.limit; ranges = is_of.ranges; next_id = is_of.next_id; locks = is_of.locks };
      edits = now;
      jobs_now = kept;
      closed = refl;
    }

-- a transaction is closed, if one is open
pub Meets-end : (state : State) (document : Document) (edits later : Edits) (jobs : List Job) (step : Step) (given : Reply)
    → IsOf state document → edits ≡ state.editing.edits → jobs ≡ state.jobs
    → (edits.depth ≡ 0 → (given ≡ reply.Refused refusal.NotOpen) × (later ≡ edits))
    → (0 < edits.depth → (given ≡ reply.Depth later.depth) × (later ≡ ended edits)) → step.reply ≡ given → step.made ≡ []
    → Meets state command.End step document later jobs
Meets-end state document edits later jobs step given is_of same kept shut open_before told made =
    let depth = ap (λ (e : Edits). e.depth) same in
    elim (cases_Bool (edits.depth == 0)) [
      | inl t ↦
          let zero = eqb-true edits.depth 0 t in
          let refuses = shut zero in
          let cause : not_open state.editing.edits.depth ≡ Some refusal.NotOpen =
          let z : (state.editing.edits.depth == 0) ≡ true = eq-eqb state.editing.edits.depth 0 (sym depth ∙ zero) in
          rw z refl in
          with_jobs state command.End step document later jobs kept
          (Meets-refused state command.End document later refusal.NotOpen step (not_open state.editing.edits.depth) (closing state.editing)
          is_of (refuses.1 ∙ same) (record { reply = told ∙ refuses.0; made = made }) cause refl)
      | inr f ↦
          let some : 0 < edits.depth = omega (arith, eqb-false edits.depth 0 f) in
          let closes = open_before some in
          let z : (state.editing.edits.depth == 0) ≡ false = ap (λ (d : ℕ). d == 0) (sym depth) ∙ f in
          let now : later ≡ ended state.editing.edits = closes.1 ∙ ap ended same in
          let none : not_open state.editing.edits.depth ≡ None = rw z refl in
          let closed : react_command state command.End ≡ edited state (closing state.editing) =
          ap (λ (o : Option Refusal). edited state (judged o state.editing (closing state.editing))) none in
          record {
            after = (edited state (closing state.editing)).after;
            carries = Carries-whole state command.End step (edited state (closing state.editing)).after (ap cut_at (told ∙ closes.0))
                (told ∙ closes.0 ∙ ap (λ (e : Edits). reply.Depth e.depth) now ∙ sym (ap (λ (r : Reaction). r.reply) closed))
                (made ∙ sym (ap (λ (r : Reaction). r.made) closed)) (sym (ap (λ (r : Reaction). r.after) closed));
            document = record { came = is_of.came; limit = is_of.limit; ranges = is_of.ranges; next_id = is_of.next_id; locks = is_of.locks };
            edits = now;
            jobs_now = kept;
            closed = refl;
          }
    ]

-- a job is posted
pub Meets-check : (state : State) (rule : Rule) (document : Document) (edits : Edits) (jobs later : List Job) (step : Step) (given : Reply)
    → IsOf state document → edits ≡ state.editing.edits → jobs ≡ state.jobs → given ≡ reply.Posted (length jobs + 1)
    → later ≡ jobs ++ record { rule = rule; state = Waiting } ∷ [] → step.reply ≡ given → step.made ≡ []
    → Meets state (command.Check rule) step document edits later
Meets-check state rule document edits jobs later step given is_of same kept number posted told made =
    let replied : step.reply ≡ reply.Posted (length state.jobs + 1) = told ∙ number ∙ ap (λ (js : List Job). reply.Posted (length js + 1)) kept in
    record {
      after = (react_command state (command.Check rule)).after;
      carries = Carries-whole state (command.Check rule) step (react_command state (command.Check rule)).after (ap cut_at replied) replied made refl;
      document = record { came = is_of.came; limit = is_of.limit; ranges = is_of.ranges; next_id = is_of.next_id; locks = is_of.locks };
      edits = same;
      jobs_now = posted ∙ ap (λ (js : List Job). js ++ record { rule = rule; state = Waiting } ∷ []) kept;
      closed = refl;
    }

-- what is to be done outside is asked for, if no transaction is open
Replies-outside : (state : State) (document : Document) (depth : ℕ) (given : Reply) → IsOf state document → depth ≡ state.editing.edits.depth
    → (depth ≡ 0 → given ≡ reply.Asked) → (0 < depth → given ≡ reply.Refused (refusal.StillOpen depth))
    → Replies (ask_outside state (still_open state.editing.edits.depth)) given document
Replies-outside state document depth given is_of same shut inside =
    elim (cases_Bool (state.editing.edits.depth == 0)) [
      | inl t ↦
          let zero : depth ≡ 0 = omega (arith, eqb-true state.editing.edits.depth 0 t, same) in
          rw t (record { reply = shut zero; made = refl; leads = is_of })
      | inr f ↦
          let some : 0 < depth = omega (arith, eqb-false state.editing.edits.depth 0 f, same) in
          rw f (record {
            reply = inside some ∙ ap (λ (d : ℕ). reply.Refused (refusal.StillOpen d)) same;
            made = refl;
            leads = is_of;
          })
    ]

pub Meets-outside : (state : State) (asked : Command) (document : Document) (edits : Edits) (jobs : List Job) (step : Step) (given : Reply)
    → (asked ≡ command.Sync) ⊎ (asked ≡ command.Save) → IsOf state document → edits ≡ state.editing.edits → jobs ≡ state.jobs
    → (edits.depth ≡ 0 → given ≡ reply.Asked) → (0 < edits.depth → given ≡ reply.Refused (refusal.StillOpen edits.depth))
    → step.reply ≡ given → step.made ≡ [] → Meets state asked step document edits jobs
Meets-outside state asked document edits jobs step given which is_of same kept shut inside told made =
    let depth = ap (λ (e : Edits). e.depth) same in
    let replies = Replies-outside state document edits.depth given is_of depth shut inside in
    let still = still-outside state (still_open state.editing.edits.depth) in
    elim which [
      | inl is ↦ rw is (Meets-still state command.Sync given step document edits jobs same kept replies still told made)
      | inr is ↦ rw is (Meets-still state command.Save given step document edits jobs same kept replies still told made)
    ]

pub fit-begin : (edits later : Edits) (text : List (List ℕ)) → later ≡ begun edits → GroupsFit edits text → GroupsFit later text
fit-begin edits later text is fit = subst (λ (e : Edits). GroupsFit e text) (sym is) (fit-begun edits text fit)

pub fit-end : (edits later : Edits) (given : Reply) (text : List (List ℕ))
    → (edits.depth ≡ 0 → (given ≡ reply.Refused refusal.NotOpen) × (later ≡ edits))
    → (0 < edits.depth → (given ≡ reply.Depth later.depth) × (later ≡ ended edits)) → GroupsFit edits text → GroupsFit later text
fit-end edits later given text shut open_before fit =
    elim (cases_Bool (edits.depth == 0)) [
      | inl t ↦ subst (λ (e : Edits). GroupsFit e text) (sym (shut (eqb-true edits.depth 0 t)).1) fit
      | inr f ↦
          let some : 0 < edits.depth = omega (arith, eqb-false edits.depth 0 f) in
          subst (λ (e : Edits). GroupsFit e text) (sym (open_before some).1) (fit-ended edits text some fit)
    ]
