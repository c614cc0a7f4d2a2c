use Rattle.std.proofs.Common.{◌≡◌, ap, ◌∙◌}
use Rattle.kte_undo.specs.Groups.{Kept}
use Rattle.kte_core.specs.Groups.{GroupsFit}
use Rattle.kte_core.specs.React.{react_command}
use Rattle.kte_core.specs.Shown.{AreFoldsOf, IsOf, Meets, Replies}
use Rattle.kte_core.specs.State.{State}
use Rattle.kte_core.proofs.CarryLemmas.{if_meets, Meets-still, Meets-begin, Meets-end, Meets-check, Meets-outside, fit-still, fit-begin, fit-end}
use Rattle.kte_core.proofs.FoldLemmas.{fold_refused, refusal_alike}
use Rattle.kte_core.proofs.SearchLemmas.{Replies-all, Replies-find, Replies-find_back}
use Rattle.kte_core.proofs.TransactionLemmas.{IsPlain, still}
use Rattle.kte_core.proofs.commands.carry_out.Goals as goal
use Rattle.kte_core.proofs.commands.carry_out.Goals.{After-replied, in-Begin, in-End, in-MakeRange+in_ok-reply-in-MakeRange, in-SetRange+in_ok-reply-in-SetRange, in-DropRange, in-ShowRange, in-Lock+in_ok-reply-in-Lock, in-Unlock, in-Land, in-Fold+in_ok-reply-in-Fold, in-Unfold, in-Find+in_ok-reply-in-Find, in-FindBack+in_ok-reply-in-FindBack, in-All+in_ok-reply-in-All, in-Check+in_ok-reply-in-Check, in-Sync}

pub returns-in-Edit-clause-meets : goal.returns-in-Edit-clause-meets
returns-in-Edit-clause-meets c =
    if_meets c.change.result c.args.command.now _ c.args.doc.now c.change.new.doc c.args.undo.now.edits c.change.new.undo.edits c.args.jobs.now c.in-Edit.is
    c.change.ensures.meets

pub returns-in-Undo-clause-meets : goal.returns-in-Undo-clause-meets
returns-in-Undo-clause-meets c =
    if_meets c.go.result c.args.command.now _ c.args.doc.now c.go.new.doc c.args.undo.now.edits c.go.new.undo.edits c.args.jobs.now c.in-Undo.is
    c.go.ensures.meets

pub returns-in-Redo-clause-meets : goal.returns-in-Redo-clause-meets
returns-in-Redo-clause-meets c =
    if_meets c.go-in-Redo.result c.args.command.now _ c.args.doc.now c.go-in-Redo.new.doc c.args.undo.now.edits c.go-in-Redo.new.undo.edits c.args.jobs.now c.in-Redo.is
    c.go-in-Redo.ensures.meets

pub returns-in_err-reply-in-Fold-clause-refused : goal.returns-in_err-reply-in-Fold-clause-refused
returns-in_err-reply-in-Fold-clause-refused c = λ state refusal is_of same told other.
    let found = fold_refused state c.in-Fold.span _ refusal (rw c.in-Fold.is at told) in
    let fine = c.in_err-reply-in-Fold.ensures.refused found.0
    (refusal_alike state c.args.doc.now c.args.folds.now c.in-Fold.span is_of c.requires.folds ∙ found.1) in
    absurd (cc)

-- what comes of a command for which no primitive is made, in a state of the document
record Comes (c : After-replied) (state : State) : Type 0 where
  meets : c.args.undo.now.edits ≡ state.editing.edits → c.args.jobs.now ≡ state.jobs
      → Meets state c.args.command.now c.replied.result c.match-command.doc c.match-command.undo.edits c.match-command.jobs
  fit : GroupsFit c.match-command.undo.edits c.match-command.doc.text
  folds : AreFoldsOf c.match-command.doc c.match-command.folds

-- .. where neither groups nor jobs change
plainly : (c : After-replied) (state : State) → IsOf state c.args.doc.now → c.match-command.undo ≡ c.args.undo.now → c.match-command.jobs ≡ c.args.jobs.now
    → IsPlain c.args.command.now → Replies (react_command state c.args.command.now) c.match-command.reply c.match-command.doc
    → AreFoldsOf c.match-command.doc c.match-command.folds → Comes c state
plainly c state is_of undo jobs plain replies folds = record {
  meets = λ same kept. Meets-still state c.args.command.now c.match-command.reply c.replied.result c.match-command.doc c.match-command.undo.edits
      c.match-command.jobs (ap (λ (u : Kept). u.edits) undo ∙ same) (jobs ∙ kept) replies (still state c.args.command.now plain)
      c.replied.ensures.reply c.replied.ensures.made;
  fit = rw undo (fit-still state c.args.command.now c.match-command.reply c.args.doc.now c.match-command.doc c.args.undo.now.edits is_of replies
      (still state c.args.command.now plain) c.requires.fit);
  folds = folds;
}

-- .. where the document is unchanged
apart : (c : After-replied) (state : State) → c.match-command.doc ≡ c.args.doc.now → c.match-command.folds ≡ c.args.folds.now
    → (c.args.undo.now.edits ≡ state.editing.edits → c.args.jobs.now ≡ state.jobs
    → Meets state c.args.command.now c.replied.result c.match-command.doc c.match-command.undo.edits c.match-command.jobs)
    → GroupsFit c.match-command.undo.edits c.args.doc.now.text → Comes c state
apart c state doc folds meets fit = record { meets = meets; fit = rw doc fit; folds = rw (doc, folds) c.requires.folds }

comes : (c : After-replied) (state : State) → IsOf state c.args.doc.now → Comes c state
comes c state is_of =
    elim c.match-command.branch [
      | in-Begin w ↦ apart c state w.doc-is w.folds-is
          (λ same kept. rw (w.doc-is, w.undo-is, w.jobs-is, w.in-Begin.is) (Meets-begin state c.args.doc.now c.args.undo.now.edits
          w.begin-reply.new.undo.edits c.args.jobs.now c.replied.result is_of same kept w.begin-reply.ensures.begun (cc) c.replied.ensures.made))
          (rw w.undo-is (fit-begin c.args.undo.now.edits w.begin-reply.new.undo.edits c.args.doc.now.text w.begin-reply.ensures.begun c.requires.fit))
      | in-End w ↦ apart c state w.doc-is w.folds-is
          (λ same kept. rw (w.doc-is, w.undo-is, w.jobs-is, w.in-End.is) (Meets-end state c.args.doc.now c.args.undo.now.edits
          w.end-reply.new.undo.edits c.args.jobs.now c.replied.result w.end-reply.result is_of same kept w.end-reply.ensures.not_open
          w.end-reply.ensures.ended (cc) c.replied.ensures.made))
          (rw w.undo-is (fit-end c.args.undo.now.edits w.end-reply.new.undo.edits w.end-reply.result c.args.doc.now.text
          w.end-reply.ensures.not_open w.end-reply.ensures.ended c.requires.fit))
      | in-MakeRange+in_ok-reply-in-MakeRange w ↦ plainly c state is_of w.undo-is w.jobs-is (rw w.in-MakeRange.is tt)
          (rw (w.in-MakeRange.is, w.doc-is, w.reply-is) (w.in_ok-reply-in-MakeRange.ensures.replies state is_of))
          (rw (w.doc-is, w.folds-is) (w.in_ok-reply-in-MakeRange.ensures.folds state is_of c.args.folds.now c.requires.folds))
      | in-SetRange+in_ok-reply-in-SetRange w ↦ plainly c state is_of w.undo-is w.jobs-is (rw w.in-SetRange.is tt)
          (rw (w.in-SetRange.is, w.doc-is, w.reply-is) (w.in_ok-reply-in-SetRange.ensures.replies state is_of))
          (rw (w.doc-is, w.folds-is) (w.set.ensures.folds c.args.folds.now c.requires.folds))
      | in-DropRange w ↦ plainly c state is_of w.undo-is w.jobs-is (rw w.in-DropRange.is tt)
          (rw (w.in-DropRange.is, w.doc-is, w.reply-is) (w.take_away-reply.ensures.replies state is_of))
          (rw (w.doc-is, w.folds-is) (w.take_away-reply.ensures.folds c.args.folds.now c.requires.folds))
      | in-ShowRange w ↦ plainly c state is_of w.undo-is w.jobs-is (rw w.in-ShowRange.is tt)
          (rw (w.in-ShowRange.is, w.doc-is, w.reply-is) (w.show-reply.ensures state is_of)) (rw (w.doc-is, w.folds-is) c.requires.folds)
      | in-Lock+in_ok-reply-in-Lock w ↦ plainly c state is_of w.undo-is w.jobs-is (rw w.in-Lock.is tt)
          (rw (w.in-Lock.is, w.doc-is, w.reply-is) (w.in_ok-reply-in-Lock.ensures.replies state is_of))
          (rw (w.doc-is, w.folds-is) (w.lock.ensures.folds c.args.folds.now c.requires.folds))
      | in-Unlock w ↦ plainly c state is_of w.undo-is w.jobs-is (rw w.in-Unlock.is tt)
          (rw (w.in-Unlock.is, w.doc-is, w.reply-is) (w.unlock-reply.ensures.replies state is_of))
          (rw (w.doc-is, w.folds-is) (w.unlock-reply.ensures.folds c.args.folds.now c.requires.folds))
      | in-Land w ↦ plainly c state is_of w.undo-is w.jobs-is (rw w.in-Land.is tt)
          (rw (w.in-Land.is, w.doc-is, w.reply-is) (w.land-reply.ensures state is_of)) (rw (w.doc-is, w.folds-is) c.requires.folds)
      | in-Fold+in_ok-reply-in-Fold w ↦ plainly c state is_of w.undo-is w.jobs-is (rw w.in-Fold.is tt)
          (rw (w.in-Fold.is, w.doc-is, w.reply-is) (w.in_ok-reply-in-Fold.ensures.replies state is_of))
          (rw (w.doc-is, w.folds-is) (w.make-in-Fold.ensures.folds state is_of))
      | in-Unfold w ↦ plainly c state is_of w.undo-is w.jobs-is (rw w.in-Unfold.is tt)
          (rw (w.in-Unfold.is, w.doc-is, w.reply-is) (w.remove-reply.ensures.replies state is_of)) (rw (w.doc-is, w.folds-is) w.remove-reply.ensures.folds)
      | in-Find+in_ok-reply-in-Find w ↦ plainly c state is_of w.undo-is w.jobs-is (rw w.in-Find.is tt)
          (rw (w.in-Find.is, w.doc-is, w.reply-is) (Replies-find state c.args.doc.now w.in-Find.from w.in-Find.query w.in_ok-reply-in-Find.reply is_of
          w.in_ok-reply-in-Find.ensures.reply))
          (rw (w.doc-is, w.folds-is) c.requires.folds)
      | in-FindBack+in_ok-reply-in-FindBack w ↦ plainly c state is_of w.undo-is w.jobs-is (rw w.in-FindBack.is tt)
          (rw (w.in-FindBack.is, w.doc-is, w.reply-is) (Replies-find_back state c.args.doc.now w.in-FindBack.before w.in-FindBack.query
          w.in_ok-reply-in-FindBack.reply is_of w.in_ok-reply-in-FindBack.ensures.reply))
          (rw (w.doc-is, w.folds-is) c.requires.folds)
      | in-All+in_ok-reply-in-All w ↦ plainly c state is_of w.undo-is w.jobs-is (rw w.in-All.is tt)
          (rw (w.in-All.is, w.doc-is, w.reply-is) (Replies-all state c.args.doc.now w.in-All.query w.in_ok-reply-in-All.reply is_of
          w.in_ok-reply-in-All.ensures.reply))
          (rw (w.doc-is, w.folds-is) c.requires.folds)
      | in-Check+in_ok-reply-in-Check w ↦ apart c state w.doc-is w.folds-is
          (λ same kept. rw (w.doc-is, w.undo-is, w.jobs-is, w.in-Check.is) (Meets-check state w.in-Check.rule c.args.doc.now c.args.undo.now.edits
          c.args.jobs.now w.post.new.jobs c.replied.result w.in_ok-reply-in-Check.reply is_of same kept w.in_ok-reply-in-Check.ensures.reply
          w.in_ok-reply-in-Check.ensures.ok (cc) c.replied.ensures.made))
          (rw w.undo-is c.requires.fit)
      | in-Sync w ↦ apart c state w.doc-is w.folds-is
          (λ same kept. rw (w.doc-is, w.undo-is, w.jobs-is) (Meets-outside state c.args.command.now c.args.doc.now c.args.undo.now.edits c.args.jobs.now
          c.replied.result w.ask_outside-reply.result w.in-Sync.is is_of same kept w.ask_outside-reply.ensures.shut
          w.ask_outside-reply.ensures.still_open (cc) c.replied.ensures.made))
          (rw w.undo-is c.requires.fit)
    ]

pub returns-clause-meets : goal.returns-clause-meets
returns-clause-meets c = λ state is_of same kept. (comes c state is_of).meets same kept

pub returns-clause-fit : goal.returns-clause-fit
returns-clause-fit c = λ state is_of. (comes c state is_of).fit

pub returns-clause-folds : goal.returns-clause-folds
returns-clause-folds c = λ state is_of. (comes c state is_of).folds
