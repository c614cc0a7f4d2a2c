use Rattle.std.proofs.Common.{◌≡◌, ◌∙◌, ◌++◌, ◌∷◌, [], List, None, false, true, refl, sym, ap, subst}
use Rattle.kte_text.specs.Texts.{IsText}
use Rattle.kte_text.specs.Primitives.{FitInTurn}
use Rattle.kte_text.specs.declared.primitive.Primitive.{Primitive}
use Rattle.kte_core.specs.Editing.{saved_form, text_of}
use Rattle.kte_core.specs.State.{State}
use Rattle.kte_core.specs.Replay.{Session, after_event, present, replay}
use Rattle.kte_core.specs.declared.event.Event.{Event}
use Rattle.kte_desk.specs.Schedule.{lost_after, nothing}
use Rattle.kte_desk.specs.Serving.{own}
use Rattle.kte_run.specs.Editor.{Follows, Part, call_after, finished_after, is_lost}
use Rattle.kte_run.specs.Alone.{due_left}
use Rattle.kte_run.proofs.AskLemmas.{Asked, AskingAlone-none, AskingAlone-numbers, AskingAlone-more, AskingAlone-all, first_state, fit-now, keeps-asked, next-by, none-owed, work-less}
use Rattle.kte_run.proofs.CountLemmas.{Counting, Counting-none, Counting-more, Counting-counted, Counting-ending, Counting-ended, Ends, ends-by, reads-more}
use Rattle.kte_run.proofs.SmallLemmas.{less-by, step-records, told-self, told-then}
use Rattle.kte_run.proofs.FinishLemmas.{heard-parts}
use Rattle.kte_run.proofs.KeepLemmas.{Keeping, Keeping-none, Keeping-more, Keeping-keeps}
use Rattle.kte_desk.proofs.ServeLemmas.{answered_of}
use Rattle.kte_run.proofs.alone.ask_all.Goals as goal
use Rattle.kte_run.proofs.alone.ask_all.Goals.{After-drop-form-in-Some, After-drop-editor-inside-4}
use Rattle.kte_run.proofs.alone.ask_all.Given.{Over}

pub loop-request-init : goal.loop-request-init
loop-request-init g c =
    let before : Session = c.args.core.now in
    let commands = c.args.commands.items in
    let fresh = c.requires.fresh in
    let part = c.new-editor.result in
    let moments = g.D.Disk.moments c.args.disk.now in (
      AskingAlone-none commands before c.args.swap part fresh c.new-editor.ensures c.requires.can.guarded,
      Counting-none before.events commands c.args.swap part (g.D.Disk.faults c.args.disk.now) fresh c.new-editor.ensures c.requires.can.guarded,
      c.made_fits.ensures.text,
      told-self moments,
      λ file begins. subst (λ (state : State). Keeping file (first_state before) state before.events part moments)
          (sym (ap (replay (first_state before)) fresh))
          (Keeping-none file (first_state before) before.events commands c.args.swap part moments fresh c.new-editor.ensures refl begins),
    )

pub step-requires-clause-numbers : goal.step-requires-clause-numbers
step-requires-clause-numbers g c =
    AskingAlone-numbers c.args.commands.items c.args.core.now c.loop-request.core c.loop-request.editor c.in-Some.request c.loop-request.invariant.0
    c.requires.can.few c.in-Some.ensures.own

pub answered-requires : goal.answered-requires
answered-requires g c =
    step-records (present c.loop-request.core) (present c.step.new.self) c.in-Some.request c.in_ok-step.step.reply c.in_ok-step.step.made
    c.in_ok-step.ensures.reacts.leads c.in_ok-step.ensures.reacts.made c.made_fits-in-Some.ensures.turn c.loop-request.invariant.2
    c.inserts_lines.ensures

-- what the core replied to the request
asked_of : (g : Over) (c : After-drop-form-in-Some g)
    → Asked (present c.loop-request.core) c.loop-request.editor c.in-Some.request c.in_ok-step.step.reply
asked_of g c = record {
  next_is = sym c.in-Some.ensures.next;
  own_is = c.in-Some.ensures.own;
  answered = answered_of (present c.loop-request.core) c.in-Some.request c.in_ok-step.step (present c.step.new.self) c.in-Some.ensures.allowed
      c.in_ok-step.ensures.reacts;
  whole = c.in_ok-answered.ensures.whole (refl {a = true});
}

fit_of : (g : Over) (c : After-drop-form-in-Some g)
    → FitInTurn (after_event (present c.loop-request.core) (own c.in-Some.request c.in_ok-step.step.reply)).editing.trail
    (present c.loop-request.core).editing.loaded.text
fit_of g c =
    fit-now (present c.loop-request.core) (present c.step.new.self) (own c.in-Some.request c.in_ok-step.step.reply)
    c.in_ok-step.ensures.reacts.leads c.made_fits-in-Some.ensures.turn

-- what the editor made of the reply
follows_of : (g : Over) (c : After-drop-form-in-Some g)
    → Follows (present c.loop-request.core) (lost_after false c.loop-request.core.events)
    (due_left (first_state c.args.core.now) nothing c.loop-request.core.events) (own c.in-Some.request c.in_ok-step.step.reply) c.loop-request.editor
    c.answered.new.self
follows_of g c =
    let asked = asked_of g c in
    c.in_ok-answered.ensures.follows c.loop-request.editor (present c.loop-request.core) (lost_after false c.loop-request.core.events)
    (due_left (first_state c.args.core.now) nothing c.loop-request.core.events) c.in-Some.request c.in-Some.ensures.asked asked.next_is
    c.loop-request.invariant.0.asks.at asked.answered c.in_ok-step.ensures.reacts.made (fit_of g c)

pub loop-request-preserved : goal.loop-request-preserved
loop-request-preserved g c =
    let before : Session = c.args.core.now in
    let now : Session = c.loop-request.core in
    let next : Session = c.step.new.self in
    let part : Part = c.loop-request.editor in
    let mid : Part = c.next.new.self in
    let later : Part = c.answered.new.self in
    let request = c.in-Some.request in
    let answer = c.in_ok-step.step.reply in
    let made : List Primitive = c.in_ok-step.step.made in
    let event : Event = own request answer in
    let asking = c.loop-request.invariant.0 in
    let asks = asking.asks in
    let asked = asked_of g (goal.at.loop-request-preserved g c).After-drop-form-in-Some in
    let follows = follows_of g (goal.at.loop-request-preserved g c).After-drop-form-in-Some in
    let fit = fit_of g (goal.at.loop-request-preserved g c).After-drop-form-in-Some in
    let kept = keeps-asked part mid c.in-Some.ensures.asked in
    let by = next-by part request asked.next_is in
    let events : next.events ≡ now.events ++ event ∷ [] = ap (λ (session : Session). session.events) c.in_ok-step.ensures.event in
    let state : present next ≡ after_event (present now) event = c.in_ok-step.ensures.reacts.leads in
    let call = call_after answer mid.asking in
    let parts = heard-parts answer made part mid later kept c.in_ok-answered.ensures.rest in (
      AskingAlone-more c.args.commands.items before now next part later request answer asking c.in_ok-step.ensures.event asked follows,
      subst (λ (es : List Event). Counting es later (g.D.Disk.faults c.args.disk.now) (g.D.Disk.faults c.answered.new.disk)) (sym events)
          (Counting-more now.events part mid later request answer (g.D.Disk.faults c.args.disk.now) (g.D.Disk.faults c.loop-request.disk)
          (g.D.Disk.faults c.answered.new.disk) c.loop-request.invariant.1 by asks.at.lost kept c.in_ok-answered.ensures.lost
          c.in_ok-answered.ensures.faults),
      c.made_fits-in-Some.ensures.text,
      told-then (g.D.Disk.moments c.args.disk.now) (g.D.Disk.moments c.loop-request.disk) (g.D.Disk.moments c.answered.new.disk)
          c.loop-request.invariant.3 c.in_ok-answered.ensures.tells,
      λ file begins.
          subst (λ (es : List Event). Keeping file (first_state before) (present next) es later (g.D.Disk.moments c.answered.new.disk)) (sym events)
          (subst (λ (s : State). Keeping file (first_state before) s (now.events ++ event ∷ []) later (g.D.Disk.moments c.answered.new.disk)) (sym state)
          (Keeping-more file (first_state before) now.events (present now) part later (lost_after false now.events)
          (due_left (first_state before) nothing now.events) request answer made (finished_after answer made mid) call c.deref.result.now mid.swap
          (g.D.Disk.moments c.loop-request.disk) (g.D.Disk.moments c.answered.new.disk) (c.loop-request.invariant.4 file begins)
          asks.now_is by asks.at follows asked.answered asked.whole c.in_ok-step.ensures.reacts.made fit
          (subst (λ (s : State). IsText (text_of s.editing)) state c.made_fits-in-Some.ensures.text) parts
          (λ saves. c.deref.ensures.value ∙ c.in_ok-form.ensures (c.is_saving.ensures.1 saves) ∙ ap (λ (s : State). saved_form s.editing) state)
          kept.swap
          (record {
            told = c.in_ok-answered.ensures.told;
            lost = c.in_ok-answered.ensures.lost;
            stands = λ text present ts. c.in_ok-answered.ensures.stands text present ts;
            saves = c.in_ok-answered.ensures.saves;
          }))),
    )

pub loop-request-smaller : goal.loop-request-smaller
loop-request-smaller g c =
    let at = (goal.at.loop-request-smaller g c).After-drop-form-in-Some in
    let asked = asked_of g at in
    less-by _ _ (work-less (present c.loop-request.core) (lost_after false c.loop-request.core.events)
    (due_left (first_state c.args.core.now) nothing c.loop-request.core.events) c.in-Some.request c.in_ok-step.step.reply c.loop-request.editor
    c.answered.new.self asked.next_is asked.whole asked.answered (follows_of g at))

pub returns-clause-ok : goal.returns-clause-ok
returns-clause-ok g c =
    AskingAlone-all c.args.commands.items c.args.core.now c.loop-request.core c.loop-request.editor c.requires.fresh c.loop-request.invariant.0
    c.requires.can.few (sym c.in_default.ensures.next)

-- what the status says
ends_of : (g : Over) (c : After-drop-editor-inside-4 g) → Ends c.ending.result c.loop-request.editor
ends_of g c =
    ends-by c.ending.result c.loop-request.editor c.next.new.self (keeps-asked c.loop-request.editor c.next.new.self c.in_default.ensures.asked)
    (record { failed = c.ending.ensures.failed; lost = c.ending.ensures.lost; ok = c.ending.ensures.ok })

pub returns-clause-tells : goal.returns-clause-tells
returns-clause-tells g c =
    let first = g.D.Disk.faults c.args.disk.now in
    let last = g.D.Disk.faults c.loop-request.disk in
    let events = c.loop-request.core.events in
    let part : Part = c.loop-request.editor in
    let counting = c.loop-request.invariant.1 in
    let lost = c.loop-request.invariant.0.asks.at.lost in
    let owed = none-owed part (sym c.in_default.ensures.next) in
    let ends = ends_of g (goal.at.returns-clause-tells g c).After-drop-editor-inside-4 in
    record {
      counted = Counting-counted events part first last counting owed;
      ends = Counting-ending events part c.ending.result first last counting owed lost ends;
      ended = Counting-ended events part c.ending.result first last counting ends;
      keeps = λ file begins. Keeping-keeps file (first_state c.args.core.now) (present c.loop-request.core) events part
          (g.D.Disk.moments c.loop-request.disk) (c.loop-request.invariant.4 file begins) owed lost;
    }

pub returns-clause-goes_on : goal.returns-clause-goes_on
returns-clause-goes_on g c = record { reads = c.loop-request.invariant.1.counted.reads; told = c.loop-request.invariant.3 }

pub returns-in_err-step-clause-goes_on : goal.returns-in_err-step-clause-goes_on
returns-in_err-step-clause-goes_on g c = record { reads = c.loop-request.invariant.1.counted.reads; told = c.loop-request.invariant.3 }

pub returns-in_err-form-clause-goes_on : goal.returns-in_err-form-clause-goes_on
returns-in_err-form-clause-goes_on g c = record { reads = c.loop-request.invariant.1.counted.reads; told = c.loop-request.invariant.3 }

pub returns-in_err-answered-clause-goes_on : goal.returns-in_err-answered-clause-goes_on
returns-in_err-answered-clause-goes_on g c = record {
  reads = reads-more (g.D.Disk.faults c.args.disk.now) (g.D.Disk.faults c.loop-request.disk) (g.D.Disk.faults c.answered.new.disk) None
      (is_lost c.next.new.self.swap.state) c.next.new.self.replace_failed c.answered.new.self.replace_failed
      c.loop-request.invariant.1.counted.reads c.in_err-answered.ensures.faults;
  told = told-then (g.D.Disk.moments c.args.disk.now) (g.D.Disk.moments c.loop-request.disk) (g.D.Disk.moments c.answered.new.disk)
      c.loop-request.invariant.3 c.in_err-answered.ensures.tells;
}
