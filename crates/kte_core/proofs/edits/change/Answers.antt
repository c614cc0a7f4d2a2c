use Rattle.std.proofs.Common.{◌≡◌, List, None, Some, refl, ap, sym, subst, ◌∙◌}
use Rattle.kte_text.specs.declared.primitive.Primitive.{Primitive}
use Rattle.kte_edit.specs.Steps.{change_misfit}
use Rattle.kte_undo.specs.Steps.{steps_along}
use Rattle.kte_command.specs.declared.command.Command.TheVariants as command
use Rattle.kte_core.specs.Editing.{noted_change}
use Rattle.kte_core.specs.declared.reply.Refusal.TheVariants as refusal
use Rattle.kte_core.proofs.GroupLemmas.{fits_change}
use Rattle.kte_core.proofs.EditLemmas.{Calls, Tells, Meets-refused, Meets-told, calls_change, change_misfits, change_is_full, if_ok, listed_fits, none_some, room_allows, room_refuses, told_of_all}
use Rattle.kte_core.proofs.edits.change.Goals as goal

pub returns-in-Err-Misfit-clause-meets : goal.returns-in-Err-Misfit-clause-meets
returns-in-Err-Misfit-clause-meets c = λ state is_of same.
    Meets-refused state (command.Edit c.args.change.now) c.args.doc.now c.args.undo.now.edits (refusal.Misfit c.in-Err-Misfit.misfit) c.refused.result
    _ _ is_of same c.refused.ensures
    (change_misfits state c.args.doc.now c.args.change.now c.in-Err-Misfit.misfit is_of ((c.steps.ensures.misfit c.in-Err-Misfit.misfit).0 (cc))) refl

pub returns-in-Err-NoMemory-clause-misfits : goal.returns-in-Err-NoMemory-clause-misfits
returns-in-Err-NoMemory-clause-misfits c = λ misfit misfits. let is = (c.steps.ensures.misfit misfit).1 misfits in cc

pub returns-in-Err-clause-meets : goal.returns-in-Err-clause-meets
returns-in-Err-clause-meets c = λ state is_of same.
    let fits : change_misfit c.args.change.now c.args.doc.now.text ≡ None =
    listed_fits _ c.steps.result c.in-Ok.made c.steps.ensures.misfit c.in-Ok.is in
    let less = room_refuses c.args.doc.now c.in-Ok.made c.len.result c.room.result c.in-Err.field-0 c.len.ensures c.room.ensures c.in-Err.is in
    Meets-refused state (command.Edit c.args.change.now) c.args.doc.now c.args.undo.now.edits (refusal.RevisionsFull c.in-Err.field-0.revision) c.refused-in-Err.result
    _ _ is_of same c.refused-in-Err.ensures
    (change_is_full state c.args.doc.now c.args.change.now c.in-Ok.made is_of fits c.in-Ok.ensures.steps less.0
    ∙ ap (λ revision. Some (refusal.RevisionsFull revision)) (sym less.1)) refl

pub returns-clause-meets : goal.returns-clause-meets
returns-clause-meets c =
    let change = c.args.change.now in
    let document = c.args.doc.now in
    let later = c.apply_change-done.new.doc in
    let edits = c.apply_change-done.new.undo.edits in
    let done = c.apply_change-done.result in
    let made = c.in-Ok.made in
    let fits : change_misfit change document.text ≡ None =
    listed_fits _ c.steps.result c.in-Ok.made c.steps.ensures.misfit c.in-Ok.is in
    let enough = room_allows document made c.len.result c.room.result c.in_default.field-0 c.len.ensures c.room.ensures c.in_default.is in
    if_ok c.told.result (Tells made done later edits) _
    (λ step tells state is_of same.
    Meets-told state (command.Edit change) made (λ ps. noted_change (steps_along ps document.text) c.args.undo.now.edits) done
    document later edits step is_of c.apply_change-done.ensures.after c.apply_change-done.ensures.noted tells
    (subst (λ (ps : List Primitive). Calls state (command.Edit change) ps (λ qs. noted_change (steps_along qs document.text) c.args.undo.now.edits))
    (sym c.in-Ok.ensures.steps)
    (calls_change state document c.args.undo.now.edits change is_of same fits (rw c.in-Ok.ensures.steps at enough))))
    (told_of_all c.told.result made done later edits c.apply_change-done.ensures.count c.told.ensures.made c.told.ensures.whole c.told.ensures.part c.told.ensures.some)

pub returns-clause-misfits : goal.returns-clause-misfits
returns-clause-misfits c = λ misfit misfits.
    let fits = listed_fits _ c.steps.result c.in-Ok.made c.steps.ensures.misfit c.in-Ok.is in
    absurd (none_some _ misfit fits misfits)

pub returns-clause-fit : goal.returns-clause-fit
returns-clause-fit c =
    fits_change c.args.undo.now.edits c.apply_change-done.new.undo.edits c.args.doc.now.text c.apply_change-done.new.doc.text
    c.in-Ok.made c.apply_change-done.result c.requires c.in-Ok.ensures.fit c.apply_change-done.ensures.lines
    c.apply_change-done.ensures.noted c.apply_change-done.ensures.after.text
