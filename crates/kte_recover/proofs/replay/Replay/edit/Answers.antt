use Rattle.std.proofs.Common.{◌≡◌, refl, sym, ap, subst, ◌∙◌}
use Rattle.kte_record.specs.Grammar.{item_of}
use Rattle.kte_recover.proofs.ReplayLemmas.{took_edit, applied_edit, empty_edit, no_primitive, is_writable, unfit, fits_ok, fits_err}
use Rattle.kte_recover.proofs.replay.Replay.edit.Goals as goal

pub returns-then-is_err-clause-refused : goal.returns-then-is_err-clause-refused
returns-then-is_err-clause-refused c = λ e.
    let item = item_of c.args.item.now in
    let p = c.in-Some.primitive in
    let h = rw c.in-Some.is at c.in_ok-primitive.ensures in
    let w = is_writable p item c.is_empty-empty.ensures.has_line c.requires.is_record h in
    let bad = fits_err c.fits.result (sym c.is_err.ensures.value ∙ c.if-is_err.true) in (
      no_primitive _ item c.if-not-self.false c.requires.no_finish
          (unfit p item c.args.self.now.buffer.text w h (λ n. bad (c.fits.ensures ∙ n))),
      refl,
    )

pub returns-then-empty-clause-took : goal.returns-then-empty-clause-took
returns-then-empty-clause-took c = λ e.
    let item = item_of c.args.item.now in
    let p = c.in-Some.primitive in
    let h = rw c.in-Some.is at c.in_ok-primitive.ensures in
    let w = is_writable p item c.is_empty-empty.ensures.has_line c.requires.is_record h in
    let good = sym c.fits.ensures ∙ fits_ok c.fits.result (sym c.is_err.ensures.value ∙ c.if-is_err.false) in
    took_edit c.args.self.now c.args.self.now item p c.if-not-self.false h w good
    (empty_edit p c.args.self.now (sym c.is_empty-empty.ensures.answer ∙ c.if-empty.true))

pub returns-clause-took : goal.returns-clause-took
returns-clause-took c = λ e.
    let item = item_of c.args.item.now in
    let p = c.in-Some.primitive in
    let h = rw c.in-Some.is at c.in_ok-primitive.ensures in
    let w = is_writable p item c.is_empty-empty.ensures.has_line c.requires.is_record h in
    let good = sym c.fits.ensures ∙ fits_ok c.fits.result (sym c.is_err.ensures.value ∙ c.if-is_err.false) in
    took_edit c.args.self.now c.apply.new.self item p c.if-not-self.false h w good
    (applied_edit p c.args.self.now c.apply.new.self c.is_empty-empty.ensures.has_line good
    (sym c.is_empty-empty.ensures.answer ∙ c.if-empty.false) c.apply.ensures.opened c.apply.ensures.count
    c.in_ok-apply.ensures.applied c.requires.plain.text)
