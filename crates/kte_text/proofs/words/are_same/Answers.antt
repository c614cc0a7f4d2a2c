use Rattle.std.proofs.Common.{rules, ◌≡◌, ◌∙◌, ◌<◌, ℕ, List, map, length, slice_index, ap, sym, arith}
use Rattle.std.proofs.lemmas.List.{get_or-map}
use Rattle.kte_text.specs.Words.{compared}
use Rattle.kte_text.proofs.words.are_same.Goals as goal

pub returns-then-compared : goal.returns-then-compared
returns-then-compared c =
    let f = compared c.args.fold in
    let n = c.loop-n.n in
    let units = c.args.units.now in
    let pattern = c.args.pattern.now in
    let there : n < length units = omega (arith, c.requires) in
    let first = get_or-map f units n 0 0 there in
    let second = get_or-map f pattern n 0 0 c.loop-n-test.true in
    (search rules, λ same. absurd (c.if-compared.true (c.compared.ensures ∙ sym first ∙ ap (λ xs. slice_index xs n) same ∙ second ∙ sym c.compared-in-loop-n.ensures)))
