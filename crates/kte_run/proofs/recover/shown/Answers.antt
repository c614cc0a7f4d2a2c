use Rattle.std.proofs.Common.{rules, ◌≡◌, ◌∙◌, ℕ, List, ◌++◌, length, Err, IfSome, refl, ap, subst}
use Rattle.kte_record.specs.Recovery.{Answers, no_swap, version, changed}
use Rattle.kte_recover.specs.Answers.{KeepsFile, answer_of}
use Rattle.kte_recover.specs.declared.answer.RecoverFault.{RecoverFault}
use Rattle.kte_report.specs.Recovery.{recovered_text, damaged_text}
use Rattle.kte_run.proofs.RecoverLemmas.{empty_of, shows_found, shows_damage}
use Rattle.kte_run.proofs.recover.shown.Goals as goal

pub returns-then-is_empty-clause-told : goal.returns-then-is_empty-clause-told
returns-then-is_empty-clause-told c = λ some.
    let none : length c.args.swap.now ≡ 0 = search rules in
    (refl, record { answer = no_swap; answers = empty_of c.args.swap.now none; told = refl })

pub returns-in_ok-push_recovered-in-Ok-clause-shown :
    goal.returns-in_ok-push_recovered-in-Ok-clause-shown
returns-in_ok-push_recovered-in-Ok-clause-shown c = (
  refl,
  shows_found c.args.saved.now c.args.swap.now c.in-Ok.found c.push_recovered.new.out.items c.in-Ok.ensures.answer c.in-Ok.ensures.file
      (c.in_ok-push_recovered-in-Ok.ensures.ok ∙ ap (λ (bytes : List ℕ). bytes ++ recovered_text c.in-Ok.found) c.new-output.ensures.items),
)

pub returns-in_ok-push_damaged-in-Err-Damaged-clause-shown :
    goal.returns-in_ok-push_damaged-in-Err-Damaged-clause-shown
returns-in_ok-push_damaged-in-Err-Damaged-clause-shown c = (
  refl,
  shows_damage c.args.saved.now c.args.swap.now c.in-Err-Damaged.damage c.push_damaged.new.out.items (subst (λ (f : RecoverFault). IfSome (answer_of (Err f)) (Answers c.args.saved.now c.args.swap.now)) c.in-Err-Damaged.field-0-is c.in-Err-Damaged.ensures.answer) (subst (λ (f : RecoverFault). KeepsFile c.args.saved.now (Err f)) c.in-Err-Damaged.field-0-is c.in-Err-Damaged.ensures.file)
      (c.in_ok-push_damaged-in-Err-Damaged.ensures.ok ∙ ap (λ (bytes : List ℕ). bytes ++ damaged_text c.in-Err-Damaged.damage) c.new-output.ensures.items),
)

pub returns-in-Err-Version-clause-told : goal.returns-in-Err-Version-clause-told
returns-in-Err-Version-clause-told c = λ some.
    (refl, record { answer = version; answers = (subst (λ (f : RecoverFault). IfSome (answer_of (Err f)) (Answers c.args.saved.now c.args.swap.now)) c.in-Err-Version.field-0-is c.in-Err-Version.ensures.answer); told = refl })

pub returns-in-Err-FileChanged-clause-told : goal.returns-in-Err-FileChanged-clause-told
returns-in-Err-FileChanged-clause-told c = λ some.
    let kept = c.in-Err-FileChanged.kept in
    let found = c.in-Err-FileChanged.found in (
      refl,
      record {
        answer = changed kept.0 found.0;
        answers = (subst (λ (f : RecoverFault). IfSome (answer_of (Err f)) (Answers c.args.saved.now c.args.swap.now)) c.in-Err-FileChanged.field-0-is c.in-Err-FileChanged.ensures.answer);
        told = record { kept_digest = kept; found_digest = found; told = refl; kept_is = refl; found_is = refl };
      },
    )
