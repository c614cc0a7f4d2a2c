use Rattle.std.proofs.Common.{◌≡◌, ◌<◌, List, length, ap, sym, subst, ◌∙◌, arith, Some}
use Rattle.kte_text.specs.declared.primitive.Primitive.{Primitive}
use Rattle.kte_undo.specs.Groups.{Edits, Kept}
use Rattle.kte_core.specs.Editing.{group_refusal}
use Rattle.kte_core.specs.Groups.{command_of, groups_to, group_steps, gone}
use Rattle.kte_core.specs.declared.reply.Refusal.TheVariants as refusal
use Rattle.kte_core.specs.declared.reply.Reply.TheVariants as reply
use Rattle.kte_core.proofs.EditLemmas.{Calls, Tells, moved, group_reacts, Meets-no_group, Meets-refused, Meets-told, calls_group, if_ok, room_allows, room_refuses, told_of_all}
use Rattle.kte_core.proofs.UndoLemmas.{Going, err_same, goes, is_replied, group_fits_text, has_steps, going_is_full, gone_some, gone_edits, fits_gone, fits_same}
use Rattle.kte_core.proofs.edits.go.Goals as goal
use Rattle.kte_core.proofs.edits.go.Goals.{In-Ok, then-done-gt0, else-done-gt0}

-- no transaction is open, there is a group, and its primitives are given
going : (c : In-Ok) → Going c.args.direction c.args.undo.now.edits c.args.doc.now.text c.in-Ok.made
going c =
    let go = goes c.last_group.result c.in-Ok.made c.args.undo.now.edits.depth (groups_to c.args.direction c.args.undo.now.edits)
    c.last_group.ensures.still_open c.last_group.ensures.nothing c.in-Ok.is in
    record { fit = c.requires; shut = go.0; some = go.1; all = c.in-Ok.ensures.steps }

pub returns-in-Err-clause-meets : goal.returns-in-Err-clause-meets
returns-in-Err-clause-meets c =
    Meets-no_group c.args.direction c.no_group.result c.in-Err.fault c.args.doc.now c.args.undo.now.edits c.last_group.new.undo.edits c.last_group.ensures.edits
    (λ depth is. (c.last_group.ensures.still_open depth).0 (err_same c.last_group.result c.in-Err.fault _ c.in-Err.is is))
    (λ is. c.last_group.ensures.nothing.0 (err_same c.last_group.result c.in-Err.fault _ c.in-Err.is is))
    c.no_group.ensures.still_open c.no_group.ensures.nothing (λ is. c.no_group.ensures.memory.1 is)

pub returns-in-Err-clause-still_open : goal.returns-in-Err-clause-still_open
returns-in-Err-clause-still_open c =
    (is_replied c.last_group.result c.in-Err.fault c.args.undo.now.edits.depth (groups_to c.args.direction c.args.undo.now.edits) c.no_group.result
    c.in-Err.is c.last_group.ensures.still_open c.last_group.ensures.nothing c.no_group.ensures.still_open c.no_group.ensures.nothing).inside

pub returns-in-Err-clause-nothing : goal.returns-in-Err-clause-nothing
returns-in-Err-clause-nothing c =
    (is_replied c.last_group.result c.in-Err.fault c.args.undo.now.edits.depth (groups_to c.args.direction c.args.undo.now.edits) c.no_group.result
    c.in-Err.is c.last_group.ensures.still_open c.last_group.ensures.nothing c.no_group.ensures.still_open c.no_group.ensures.nothing).none

pub returns-in-Err-room-clause-meets : goal.returns-in-Err-room-clause-meets
returns-in-Err-room-clause-meets c = λ state is_of same.
    let now = going (goal.at.returns-in-Err-room-clause-meets c).In-Ok in
    let less = room_refuses c.args.doc.now c.in-Ok.made c.len.result c.room.result c.in-Err-room.field-0 c.len.ensures c.room.ensures c.in-Err-room.is in
    Meets-refused state (command_of c.args.direction) c.args.doc.now c.last_group.new.undo.edits (refusal.RevisionsFull c.in-Err-room.field-0.revision)
    c.refused.result
    (group_refusal state.editing (groups_to c.args.direction state.editing.edits) (group_steps c.args.direction state.editing.edits))
    (moved c.args.direction reply.Edited state.editing (group_steps c.args.direction state.editing.edits))
    is_of (c.last_group.ensures.edits ∙ same) c.refused.ensures
    (going_is_full c.args.direction state c.args.doc.now c.args.undo.now.edits c.args.doc.now.text c.in-Ok.made now is_of same less.0
    ∙ ap (λ revision. Some (refusal.RevisionsFull revision)) (sym less.1)) (group_reacts c.args.direction state)

pub apply_all-done-requires-clause-fit : goal.apply_all-done-requires-clause-fit
apply_all-done-requires-clause-fit c =
    group_fits_text c.args.direction c.args.undo.now.edits c.args.doc.now.text c.in-Ok.made (going (goal.at.apply_all-done-requires-clause-fit c).In-Ok)

pub went-requires-clause-shut : goal.went-requires-clause-shut
went-requires-clause-shut c =
    let now = going (goal.at.went-requires-clause-shut c).In-Ok in
    ap (λ (e : Edits). e.depth) c.last_group.ensures.edits ∙ now.shut

pub went-requires-clause-some : goal.went-requires-clause-some
went-requires-clause-some c =
    let now = going (goal.at.went-requires-clause-some c).In-Ok in
    rw c.last_group.ensures.edits now.some

pub went-requires-clause-done : goal.went-requires-clause-done
went-requires-clause-done c =
    let now = going (goal.at.went-requires-clause-done c).In-Ok in
    let long = (has_steps c.args.direction c.args.undo.now.edits c.args.doc.now.text c.in-Ok.made now).long in
    rw c.last_group.ensures.edits (omega (arith, c.apply_all-done.ensures.count))

pub returns-clause-meets : goal.returns-clause-meets
returns-clause-meets c =
    let now = going (goal.at.returns-clause-meets c).In-Ok in
    let document = c.args.doc.now in
    let edits = c.args.undo.now.edits in
    let later = c.if-done-gt0.undo.edits in
    let done = c.apply_all-done.result in
    let made = c.in-Ok.made in
    let went : 0 < done → later ≡ gone c.args.direction done edits = λ some. elim c.if-done-gt0.branch [
      | then-done-gt0 w ↦ ap (λ (u : Kept). u.edits) w.undo-is ∙ w.went.ensures ∙ ap (gone c.args.direction done) c.last_group.ensures.edits
      | else-done-gt0 w ↦ absurd (omega arith)
    ] in
    let enough = room_allows document made c.len.result c.room.result c.in_default.field-0 c.len.ensures c.room.ensures c.in_default.is in
    if_ok c.told.result (Tells made done c.apply_all-done.new.doc later) _
    (λ step tells state is_of same.
    Meets-told state (command_of c.args.direction) made (λ ps. gone c.args.direction (length ps) edits) done document c.apply_all-done.new.doc later step is_of
    c.apply_all-done.ensures.after
    (gone_edits c.args.direction edits later made done tells.count (went (gone_some c.args.direction edits document.text made done now tells.some))) tells
    (subst (λ (ps : List Primitive). Calls state (command_of c.args.direction) ps (λ qs. gone c.args.direction (length qs) edits)) (sym now.all)
    (calls_group c.args.direction state document edits is_of same now.shut now.some (rw now.all at enough))))
    (told_of_all c.told.result made done c.apply_all-done.new.doc later c.apply_all-done.ensures.count c.told.ensures.made c.told.ensures.whole
    c.told.ensures.part c.told.ensures.some)

pub returns-clause-still_open : goal.returns-clause-still_open
returns-clause-still_open c = λ inside.
    let now = going (goal.at.returns-clause-still_open c).In-Ok in
    absurd (omega arith)

pub returns-clause-fit : goal.returns-clause-fit
returns-clause-fit c =
    let now = going (goal.at.returns-clause-fit c).In-Ok in
    let edits = c.args.undo.now.edits in
    elim c.if-done-gt0.branch [
      | then-done-gt0 w ↦ fits_gone c.args.direction edits c.if-done-gt0.undo.edits c.args.doc.now.text c.apply_all-done.new.doc.text c.in-Ok.made c.apply_all-done.result
          now w.if-done-gt0.true c.apply_all-done.ensures.count
          (ap (λ (u : Kept). u.edits) w.undo-is ∙ w.went.ensures ∙ ap (gone c.args.direction c.apply_all-done.result) c.last_group.ensures.edits)
          c.apply_all-done.ensures.after.text
      | else-done-gt0 w ↦ fits_same edits c.if-done-gt0.undo.edits c.args.doc.now c.apply_all-done.new.doc c.requires
          (ap (λ (u : Kept). u.edits) w.undo-is ∙ c.last_group.ensures.edits) (c.apply_all-done.ensures.none (omega arith))
    ]
