use Rattle.std.proofs.Common.{◌∙◌, ap, sym, refl, arith}
use Rattle.kte_gen.specs.Commands.{Generator, one_more, with_parts, after_commands}
use Rattle.kte_gen.proofs.KeptLemmas.{kept_one_more, after_one_more}
use Rattle.kte_gen.proofs.make_script.Goals as goal

pub loop-init : goal.loop-init
unfolding after_commands
loop-init c =
    rw (c.in_ok-push.ensures.items, c.new-lengths.ensures.items, c.new-script.ensures.items)
    (refl, (omega arith, omega arith))

pub loop-preserved : goal.loop-preserved
loop-preserved c =
    let is = c.in_ok-add_command.ensures.ok in
    let kept = kept_one_more _ (with_parts c.loop.x c.loop.lengths.items c.loop.script.items) c.loop.invariant.1 in (
      is ∙ ap one_more c.loop.invariant.0 ∙ sym (after_one_more c.args.number c.loop.counter),
      rw (ap (λ (g : Generator). g.lengths) is) (kept.0, omega (arith, kept.1)),
    )
