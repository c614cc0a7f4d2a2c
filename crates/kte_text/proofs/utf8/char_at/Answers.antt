use Rattle.std.proofs.Common.{◌≡◌, ◌∙◌, ◌+◌, arith, sym, true, false, slice_index}
use Rattle.std.specs.Char.Utf16.{is_high_surrogate}
use Rattle.kte_text.proofs.Utf8Lemmas.{pair_at, lone_at, pair_ranges}
use Rattle.kte_text.proofs.utf8.char_at.Goals as goal

pub bounds-units-n-then-is_high_surrogate : goal.bounds-units-n-then-is_high_surrogate
bounds-units-n-then-is_high_surrogate c =
    (pair_at c.args.units.now c.args.n c.requires.there c.requires.paired (sym c.is_high_surrogate.ensures ∙ c.if-is_high_surrogate.true)).1

pub overflow_sub-result-then-is_high_surrogate : goal.overflow_sub-result-then-is_high_surrogate
overflow_sub-result-then-is_high_surrogate c =
    let high : is_high_surrogate (slice_index c.args.units.now c.args.n) ≡ true = sym c.is_high_surrogate.ensures ∙ c.if-is_high_surrogate.true in
    let pair = pair_at c.args.units.now c.args.n c.requires.there c.requires.paired high in
    let units = c.args.units.now in
    (pair_ranges (slice_index units c.args.n) (slice_index units (c.args.n + 1)) high pair.0).2

pub returns-then-is_high_surrogate-clause-within : goal.returns-then-is_high_surrogate-clause-within
returns-then-is_high_surrogate-clause-within c =
    let pair = pair_at c.args.units.now c.args.n c.requires.there c.requires.paired (sym c.is_high_surrogate.ensures ∙ c.if-is_high_surrogate.true) in
    omega (arith, pair.1)

pub returns-then-is_high_surrogate-clause-first : goal.returns-then-is_high_surrogate-clause-first
returns-then-is_high_surrogate-clause-first c =
    (pair_at c.args.units.now c.args.n c.requires.there c.requires.paired (sym c.is_high_surrogate.ensures ∙ c.if-is_high_surrogate.true)).3

pub returns-then-is_high_surrogate-clause-rest : goal.returns-then-is_high_surrogate-clause-rest
returns-then-is_high_surrogate-clause-rest c =
    (pair_at c.args.units.now c.args.n c.requires.there c.requires.paired (sym c.is_high_surrogate.ensures ∙ c.if-is_high_surrogate.true)).2

pub returns-then-is_high_surrogate-clause-small : goal.returns-then-is_high_surrogate-clause-small
returns-then-is_high_surrogate-clause-small c =
    let high : is_high_surrogate (slice_index c.args.units.now c.args.n) ≡ true = sym c.is_high_surrogate.ensures ∙ c.if-is_high_surrogate.true in
    let pair = pair_at c.args.units.now c.args.n c.requires.there c.requires.paired high in
    let units = c.args.units.now in
    let ranges = pair_ranges (slice_index units c.args.n) (slice_index units (c.args.n + 1)) high pair.0 in
    omega (arith, ranges)

pub returns-clause-first : goal.returns-clause-first
returns-clause-first c =
    (lone_at c.args.units.now c.args.n c.requires.there c.requires.paired (sym c.is_high_surrogate.ensures ∙ c.if-is_high_surrogate.false)).1

pub returns-clause-rest : goal.returns-clause-rest
returns-clause-rest c =
    (lone_at c.args.units.now c.args.n c.requires.there c.requires.paired (sym c.is_high_surrogate.ensures ∙ c.if-is_high_surrogate.false)).0
