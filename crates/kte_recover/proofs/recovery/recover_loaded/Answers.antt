use Rattle.std.proofs.Common.{◌≡◌, ◌⊎◌, inl, inr, None, Some, refl}
use Rattle.std.specs.Option.{IfSome}
use Rattle.kte_record.specs.Recovery.{Answers}
use Rattle.kte_recover.specs.Answers.{answer_of}
use Rattle.kte_recover.proofs.RecoveryLemmas.{only_answer, no_answer}
use Rattle.kte_recover.proofs.recovery.recover_loaded.Goals as goal

pub returns-clause-only : goal.returns-clause-only
returns-clause-only c answer h =
    elim (only_answer c.args.saved.now c.args.swap.now (answer_of c.recover_beside.result) answer c.recover_beside.ensures.answer h) [
      | inl e ↦ inl (no_answer c.recover_beside.result e)
      | inr e ↦ inr e
    ]

pub returns-clause-refusal : goal.returns-clause-refusal
returns-clause-refusal c answer r h =
    elim (only_answer c.args.saved.now c.args.swap.now (answer_of c.recover_beside.result) answer c.recover_beside.ensures.answer h) [
      | inl e ↦ absurd (c.recover_beside.ensures.memory answer r h (no_answer c.recover_beside.result e))
      | inr e ↦ e
    ]
