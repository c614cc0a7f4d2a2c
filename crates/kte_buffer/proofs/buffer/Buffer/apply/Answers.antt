use Rattle.std.proofs.Common.{◌≡◌, ap, ◌∙◌, sym, subst, arith}
use Rattle.std.proofs.lemmas.List.{length-map}
use Rattle.std.specs.Option.{option_map}
use Rattle.slab.specs.Slab.{get}
use Rattle.kte_text.specs.Primitives.{FitsText, misfit}
use Rattle.kte_text.proofs.PrimitiveLemmas.{FitsText-from_misfit}
use Rattle.kte_place.specs.Entry.{EntryFits}
use Rattle.kte_buffer.specs.declared.buffer.Ready.TheVariants.{ToRehome}
use Rattle.kte_buffer.specs.Entries.{entry}
use Rattle.kte_buffer.specs.Rows.{lines_in}
use Rattle.kte_buffer.specs.Cursors.{StandWithin, cursor_after}
use Rattle.kte_buffer.proofs.CallerLemmas.{EntryFits-entry}
use Rattle.kte_buffer.proofs.ChangeLemmas.{given-fits, taken_by-fits}
use Rattle.kte_buffer.proofs.SoundLemmas.{PlaceFits-hung, IsSound-after, get-carried, get-listed, kept_entry}
use Rattle.kte_buffer.proofs.buffer.Buffer.apply.Goals as goal

pub apply-requires-clause-fits : goal.apply-requires-clause-fits
apply-requires-clause-fits c =
    FitsText-from_misfit _ _ (ap (λ b. misfit c.args.primitive.now b.text) c.self.view_is ∙ c.requires.ready.fits)

pub size_after-self-inside-requires-clause-room : goal.size_after-self-inside-requires-clause-room
size_after-self-inside-requires-clause-room c =
    let fits = FitsText-from_misfit c.args.primitive.now (lines_in c.self.inside.rows.items) (ap (λ b. misfit c.args.primitive.now b.text) c.self.view_is ∙ c.requires.ready.fits) in
    omega (arith, c.self.invariant.size, given-fits c.args.primitive.now (lines_in c.self.inside.rows.items) c.self.invariant.text fits)

pub size_after-self-inside-requires-clause-there : goal.size_after-self-inside-requires-clause-there
size_after-self-inside-requires-clause-there c =
    let fits = FitsText-from_misfit c.args.primitive.now (lines_in c.self.inside.rows.items) (ap (λ b. misfit c.args.primitive.now b.text) c.self.view_is ∙ c.requires.ready.fits) in
    omega (arith, c.self.invariant.size, taken_by-fits c.args.primitive.now (lines_in c.self.inside.rows.items) fits)

pub carry-requires-clause-entry : goal.carry-requires-clause-entry
carry-requires-clause-entry c =
    let text = lines_in c.self.inside.rows.items in
    let is : c.in-ToApply.entry ≡ entry c.args.primitive.now text =
    kept_entry c.self.inside c.args.self.now c.args.primitive.now c.in-ToApply.entry c.self.view_is c.requires.ready c.in-ToApply.is in
    let fits = FitsText-from_misfit c.args.primitive.now text (ap (λ b. misfit c.args.primitive.now b.text) c.self.view_is ∙ c.requires.ready.fits) in
    subst EntryFits (sym is) (EntryFits-entry c.args.primitive.now text c.self.invariant.text fits)

pub carry-requires-clause-places : goal.carry-requires-clause-places
carry-requires-clause-places c =
    let text = lines_in c.self.inside.rows.items in
    PlaceFits-hung c.self.inside.cursors c.args.self.now.hung text c.self.invariant.text (ap (λ b. b.hung) c.self.view_is)
    (subst (StandWithin c.self.inside.cursors) (sym (length-map c.self.inside.rows.items (λ row. row.items))) c.self.invariant.cursors)
    c.requires.columns

pub invariant_of-self : goal.invariant_of-self
invariant_of-self c =
    let text = lines_in c.self.inside.rows.items in
    let is : c.in-ToApply.entry ≡ entry c.args.primitive.now text =
    kept_entry c.self.inside c.args.self.now c.args.primitive.now c.in-ToApply.entry c.self.view_is c.requires.ready c.in-ToApply.is in
    IsSound-after c.args.primitive.now c.self.inside _ c.self.invariant
    (ap (λ b. misfit c.args.primitive.now b.text) c.self.view_is ∙ c.requires.ready.fits)
    c.apply.ensures.line c.apply.ensures.lines c.apply.ensures.empty c.size_after-self-inside.ensures
    (λ key. c.carry.ensures.carried key ∙ ap (λ e. option_map (cursor_after e) (get c.self.inside.cursors key)) is)
    (ap ToRehome is)

pub returns-clause-hung : goal.returns-clause-hung
returns-clause-hung c =
    get-carried c.in-ToApply.entry c.self.inside.cursors c.carry.new.cursors c.args.self.now.hung (ap (λ b. b.hung) c.self.view_is) c.carry.ensures.carried

pub returns-clause-near : goal.returns-clause-near
returns-clause-near c = get-listed c.in-ToApply.entry c.carry.new.cursors c.carry.new.near.items c.carry.ensures.near
