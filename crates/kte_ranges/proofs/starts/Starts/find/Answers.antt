use Rattle.std.proofs.Common.{sym, ◌∙◌}
use Rattle.std.proofs.lemmas.List.{get_or_default}
use Rattle.kte_ranges.proofs.StartLemmas.{absent_beyond, absent_stale, other_place}
use Rattle.kte_ranges.proofs.starts.Starts.find.Goals as goal

pub returns-in_err-id-clause-absent : goal.returns-in_err-id-clause-absent
returns-in_err-id-clause-absent c =
    let led = c.requires.led c.requires.whole in
    rw c.from_residual.ensures
    (absent_beyond c.args.self.now.ids.items c.args.cursor c.args.rows.now led (rw c.deref.ensures.value at c.in_err-id.ensures.lookup.3))

pub returns-in_err-i-clause-absent : goal.returns-in_err-i-clause-absent
returns-in_err-i-clause-absent c =
    let led = c.requires.led c.requires.whole in
    let at = rw c.deref.ensures.value at c.in_ok-id.ensures.lookup.1 in
    rw c.from_residual-in_err-i.ensures
    (absent_stale c.args.self.now.ids.items c.args.cursor c.args.rows.now led c.in_ok-id.field-0.now c.requires.rising
    (λ inside. get_or_default c.args.self.now.ids.items c.args.cursor 0 c.in_ok-id.field-0.now inside ∙ sym at) c.in_err-i.ensures.absent)

pub returns-clause-absent : goal.returns-clause-absent
returns-clause-absent c =
    let led = c.requires.led c.requires.whole in
    let at = rw c.deref.ensures.value at c.in_ok-id.ensures.lookup.1 in
    let found = c.in_ok-i.ensures.found in
    other_place c.args.self.now.ids.items c.args.cursor c.args.rows.now led c.in_ok-id.field-0.now c.in_ok-i.i c.requires.rising
    (λ inside. get_or_default c.args.self.now.ids.items c.args.cursor 0 c.in_ok-id.field-0.now inside ∙ sym at)
    found c.index-rows-i.result c.starts_with.result c.starts_with.ensures _ c.then_some.ensures
