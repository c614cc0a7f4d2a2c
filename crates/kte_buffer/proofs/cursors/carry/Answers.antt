use Rattle.std.proofs.Common.{ap, ◌∙◌, sym, arith}
use Rattle.std.specs.Vec.{vec_capacity}
use Rattle.std.specs.Option.{option_copied_mut}
use Rattle.kte_buffer.proofs.CursorLemmas.{CarriedBelow-more, carried_there, carried_nowhere, key_below, listed_there, listed_elsewhere, listed_nowhere}
use Rattle.kte_buffer.proofs.cursors.carry.Goals as goal
use Rattle.kte_buffer.proofs.cursors.carry.Goals.{in-Some+then-is_touched, in-Some+else-is_touched, in_default}

pub push_reserved-requires : goal.push_reserved-requires
push_reserved-requires c =
    let read = sym c.get_mut.ensures.value ∙ ap option_copied_mut c.in-Some.is in
    let below = key_below c.args.cursors.now c.loop-key.key c.in-Some.cursor.now
    (sym (c.loop-key.invariant.0.waiting c.loop-key.key (omega arith)) ∙ read) in
    omega (arith, below, c.loop-key.invariant.1.few, c.loop-key.invariant.2)

pub loop-key-preserved : goal.loop-key-preserved
loop-key-preserved c =
    elim c.match-get_mut.branch [
      | in-Some+then-is_touched w ↦
          let read = sym c.get_mut.ensures.value ∙ ap option_copied_mut w.in-Some.is in
          let made = carried_there _ _ _ _ w.in-Some.cursor.now _ read w.carry-cursor.ensures w.cursors-is in (
            CarriedBelow-more _ _ _ _ _ c.loop-key.invariant.0 made,
            listed_there _ _ _ _ _ _ _ c.loop-key.invariant.1 made (ap (λ (v : _). v.items) w.near-is ∙ w.push_reserved.ensures.items),
            omega (arith, c.loop-key.invariant.2, ap vec_capacity w.near-is, w.push_reserved.ensures.capacity),
          )
      | in-Some+else-is_touched w ↦
          let read = sym c.get_mut.ensures.value ∙ ap option_copied_mut w.in-Some.is in
          let made = carried_there _ _ _ _ w.in-Some.cursor.now _ read w.carry-cursor.ensures w.cursors-is in
          rw w.near-is (
            CarriedBelow-more _ _ _ _ _ c.loop-key.invariant.0 made,
            listed_elsewhere _ _ _ _ _ _ _ c.loop-key.invariant.1 read w.carry-cursor.ensures made (sym w.is_touched.ensures ∙ w.if-is_touched.false),
            c.loop-key.invariant.2,
          )
      | in_default w ↦
          let read = sym c.get_mut.ensures.value ∙ ap option_copied_mut w.in_default.is in
          let made = carried_nowhere _ _ _ _ read w.cursors-is in
          rw w.near-is (
            CarriedBelow-more _ _ _ _ _ c.loop-key.invariant.0 made,
            listed_nowhere _ _ _ _ _ c.loop-key.invariant.1 read made,
            c.loop-key.invariant.2,
          )
    ]
