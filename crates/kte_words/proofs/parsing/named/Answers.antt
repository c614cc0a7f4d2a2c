use Rattle.std.proofs.Common.{rules, ◌∙◌, ap, Some, codes}
use Rattle.kte_words.proofs.CommandLemmas.{form-stopped, edit-form, check-form, recover-form, gen-form, no-command}
use Rattle.kte_words.proofs.parsing.named.Goals as goal

pub returns-in_err-file_alone-in-edit-clause-misfit :
    goal.returns-in_err-file_alone-in-edit-clause-misfit
returns-in_err-file_alone-in-edit-clause-misfit c =
    let is = c.requires ∙ ap Some c.in-edit.is in
    let first = form-stopped _ _ edit-form c.args.words.now _ is (c.in_err-file_alone-in-edit.ensures.err (codes "edit") is) in
    search (rules, first)

pub returns-in_err-workers-in-check-clause-misfit :
    goal.returns-in_err-workers-in-check-clause-misfit
returns-in_err-workers-in-check-clause-misfit c =
    let is = c.requires ∙ ap Some c.in-check.is in
    let first = form-stopped _ _ check-form c.args.words.now _ is c.in_err-workers-in-check.ensures.err in
    search (rules, first)

pub returns-in_err-file_alone-in-recover-clause-misfit :
    goal.returns-in_err-file_alone-in-recover-clause-misfit
returns-in_err-file_alone-in-recover-clause-misfit c =
    let is = c.requires ∙ ap Some c.in-recover.is in
    let first = form-stopped _ _ recover-form c.args.words.now _ is (c.in_err-file_alone-in-recover.ensures.err (codes "recover") is) in
    search (rules, first)

pub returns-in_err-number-in-gen-clause-misfit : goal.returns-in_err-number-in-gen-clause-misfit
returns-in_err-number-in-gen-clause-misfit c =
    let is = c.requires ∙ ap Some c.in-gen.is in
    let first = form-stopped _ _ gen-form c.args.words.now _ is c.in_err-number-in-gen.ensures.err in
    search (rules, first)

pub returns-in_default-clause-misfit : goal.returns-in_default-clause-misfit
returns-in_default-clause-misfit c =
    no-command c.args.name.now c.args.words.now c.requires (record {
      edit = c.in_default.not-edit;
      check = c.in_default.not-check;
      recover = c.in_default.not-recover;
      gen = c.in_default.not-gen;
    })
