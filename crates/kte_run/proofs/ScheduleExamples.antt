-- Worked examples of the definitions.
use Rattle.std.proofs.Common.{◌≡◌, ℕ, false, List, [], ◌∷◌, Some, refl, inl, subst, arith}
use Rattle.std.specs.Prelude.{codes}
use Rattle.kte_text.specs.declared.loading.Eol.TheVariants.{Lf}
use Rattle.kte_text.specs.declared.primitive.Primitive.{Primitive}
use Rattle.kte_text.specs.declared.primitive.Primitive.TheVariants.{Insert}
use Rattle.kte_edit.specs.declared.change.Change.TheVariants as Change
use Rattle.std.specs.Prelude.{Contains, slice_index}
use Rattle.std.proofs.lemmas.List.Elements.{All-nil, All-cons}
use Rattle.kte_place.specs.Ends.{Ends, SpanIsInReach}
use Rattle.kte_find.specs.Findings.{AreFindings, IsFinding}
use Rattle.kte_find.specs.declared.rule.Rule.{Rule}
use Rattle.kte_find.specs.declared.rule.Rule.TheVariants.{Blanks}
use Rattle.kte_jobs.specs.declared.job.JobState.TheVariants.{Done}
use Rattle.kte_jobs.specs.Job.{Job}
use Rattle.kte_doc.specs.Trail.{text_at}
use Rattle.kte_text.specs.Texts.{line_at}
use Rattle.kte_command.specs.declared.command.Command.{Command}
use Rattle.kte_command.specs.declared.command.Command.TheVariants.{Edit, Begin, End, Check}
use Rattle.kte_core.specs.State.{State}
use Rattle.kte_core.specs.Replay.{beginning}
use Rattle.kte_core.specs.declared.event.Event.{Event}
use Rattle.kte_core.specs.declared.reply.Reply.{Reply}
use Rattle.kte_core.specs.declared.reply.Reply.TheVariants as reply
use Rattle.kte_core.specs.declared.request.Request.{Request}
use Rattle.kte_core.specs.declared.request.Request.TheVariants.{Cmd, Close, Take, Deliver}
use Rattle.kte_desk.specs.Schedule.{asked_for, Schedule}

-- `hi` on one line
abbrev hi : State
hi = beginning (record { text = codes "hi" ∷ []; eol = Lf; bom = false }) 9

-- an event of the editor, and of a checker
abbrev own : Request → Reply → Event
own request reply = record { seat = 0; request = request; reply = reply }

abbrev by : ℕ → Request → Reply → Event
by seat request reply = record { seat = seat; request = request; reply = reply }

abbrev mark : Command
mark = Edit (Change.Insert (record { line = 0; column = 2 }) (codes "!" ∷ []))

-- each level that is left open is closed; an end where none is open does not count
pub open_levels : asked_for (Begin ∷ End ∷ End ∷ Begin ∷ Begin ∷ []) ≡ Cmd Begin ∷ Cmd End ∷ Cmd End ∷ Cmd Begin ∷ Cmd Begin ∷ Cmd End ∷ Cmd End ∷ Close ∷ []
open_levels = refl

-- the empty script
empty_script : Schedule [] 0 hi (own Close reply.Closed ∷ [])
empty_script = record {
  legal = (record { answered = record { allowed = refl; reply = refl; cut = tt }; finds = tt }, tt);
  fit = (record { seat = omega arith; whole = refl; served = tt }, tt);
  ordered = refl;
  in_turn = (λ at. tt, tt);
  done = λ k d h. absurd (omega arith);
}

-- one insertion, which finishes a transaction
one_insert : Schedule (mark ∷ []) 0 hi (own (Cmd mark) (reply.Edited 1 1 0) ∷ own Close reply.Closed ∷ [])
one_insert = record {
  legal = (
    record { answered = record { allowed = (refl, tt); reply = refl; cut = tt }; finds = tt },
    (record { answered = record { allowed = refl; reply = refl; cut = tt }; finds = tt }, tt),
  );
  fit = (
    record { seat = omega arith; whole = refl; served = tt },
    (record { seat = omega arith; whole = refl; served = tt }, tt),
  );
  ordered = refl;
  in_turn = (λ at. tt, (λ at. inl tt, tt));
  done = λ k d h. absurd (omega arith);
}

-- `hi` does not end in blanks
no_blanks : AreFindings Blanks (codes "hi" ∷ []) []
no_blanks = record {
  all = [];
  are_all = record {
    each = λ span. (
      λ there. absurd (omega (arith, there.1)),
      λ found. none span found,
    );
    ordered = λ i j d early late. absurd (omega arith);
  };
  first = refl;
} where
  last : (line : ℕ) → line ≡ 0 → slice_index (line_at (codes "hi" ∷ []) line) 1 ≡ 105
  last line is = rw is refl

  none : (span : Ends) → IsFinding Blanks (codes "hi" ∷ []) span → Contains [] span
  none span found =
      let line : span.start.line ≡ 0 = let there = found.there in omega arith in
      let whole : span.end.column ≡ 2 = rw line at found.found.whole in
      let blank = found.found.blank 1 (let some = found.found.some in omega arith) (omega arith) in
      let never = rw (last span.start.line line) at blank in
      absurd (cc)

-- .. so that a job finds none that was taken at first, whatever was changed since
found : (trail : List Primitive) (rule : Rule) (revision : ℕ) → Some Blanks ≡ Some rule → Some 0 ≡ Some revision
    → AreFindings rule (text_at (codes "hi" ∷ []) trail revision) []
found trail rule revision is at =
    let blanks : Blanks ≡ rule = cc in
    let first : 0 ≡ revision = cc in
    subst (λ (r : Rule). AreFindings r (text_at (codes "hi" ∷ []) trail revision) []) blanks
    (subst (λ (n : ℕ). AreFindings Blanks (text_at (codes "hi" ∷ []) trail n) []) first no_blanks)

-- a job that is posted is taken and delivered once the session is closed
one_check : Schedule (Check Blanks ∷ []) 0 hi (own (Cmd (Check Blanks)) (reply.Posted 1) ∷ own Close reply.Closed
    ∷ own Take (reply.Took 1 0) ∷ own (Deliver 1 []) (reply.Delivered 1 1 0) ∷ [])
one_check = record {
  legal = (
    record { answered = record { allowed = (refl, tt); reply = refl; cut = tt }; finds = tt },
    (
      record { answered = record { allowed = refl; reply = refl; cut = tt }; finds = tt },
      (
        record { answered = record { allowed = tt; reply = refl; cut = tt }; finds = tt },
        (
          record {
            answered = record { allowed = All-nil SpanIsInReach; reply = refl; cut = tt };
            finds = λ rule revision is at. found [] rule revision is at;
          },
          tt,
        ),
      ),
    ),
  );
  fit = (
    record { seat = omega arith; whole = refl; served = tt },
    (
      record { seat = omega arith; whole = refl; served = tt },
      (
        record { seat = omega arith; whole = refl; served = (refl, refl) },
        (record { seat = omega arith; whole = refl; served = refl }, tt),
      ),
    ),
  );
  ordered = refl;
  in_turn = (λ at. tt, (λ at. tt, (λ at. tt, (λ at. refl, tt))));
  done = All-cons (λ (job : Job). job.state ≡ Done) (record { rule = Blanks; state = Done }) [] refl (All-nil (λ (job : Job). job.state ≡ Done));
}

-- the second of two checkers takes a job while the editor edits, and delivers what its rule finds in
-- the text as it was
two_checkers : Schedule (Check Blanks ∷ mark ∷ []) 2 hi (own (Cmd (Check Blanks)) (reply.Posted 1)
    ∷ by 2 Take (reply.Took 1 0) ∷ own (Cmd mark) (reply.Edited 1 1 0)
    ∷ by 2 (Deliver 1 []) (reply.Delivered 1 1 0) ∷ own Close reply.Closed ∷ [])
two_checkers = record {
  legal = (
    record { answered = record { allowed = (refl, tt); reply = refl; cut = tt }; finds = tt },
    (
      record { answered = record { allowed = tt; reply = refl; cut = tt }; finds = tt },
      (
        record { answered = record { allowed = (refl, tt); reply = refl; cut = tt }; finds = tt },
        (
          record {
            answered = record { allowed = All-nil SpanIsInReach; reply = refl; cut = tt };
            finds = λ rule revision is at. found (Insert 0 2 (codes "!") ∷ []) rule revision is at;
          },
          (record { answered = record { allowed = refl; reply = refl; cut = tt }; finds = tt }, tt),
        ),
      ),
    ),
  );
  fit = (
    record { seat = omega arith; whole = refl; served = tt },
    (
      record { seat = omega arith; whole = refl; served = (omega arith, refl) },
      (
        record { seat = omega arith; whole = refl; served = tt },
        (
          record { seat = omega arith; whole = refl; served = refl },
          (record { seat = omega arith; whole = refl; served = tt }, tt),
        ),
      ),
    ),
  );
  ordered = refl;
  in_turn = (λ at. tt, (λ at. absurd (omega arith), (λ at. tt, (λ at. absurd (omega arith), (λ at. inl tt, tt)))));
  done = All-cons (λ (job : Job). job.state ≡ Done) (record { rule = Blanks; state = Done }) [] refl (All-nil (λ (job : Job). job.state ≡ Done));
}
