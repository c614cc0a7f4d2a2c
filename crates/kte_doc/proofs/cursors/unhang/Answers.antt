use Rattle.std.proofs.Common.{if◌then◌else◌, None, sym, ap, ◌∙◌}
use Rattle.std.specs.FinMap.{get}
use Rattle.kte_ranges.specs.Cursors.{is_among}
use Rattle.kte_doc.proofs.Hanging.{other_left, both_gone}
use Rattle.kte_doc.proofs.OneRange.{is_second}
use Rattle.kte_doc.proofs.cursors.unhang.Goals as goal

pub unhang-requires-in-Some : goal.unhang-requires-in-Some
unhang-requires-in-Some c =
    other_left _ _ _ _ (ap (λ b. b.hung) c.unhang.ensures.gone) (c.requires.two _ c.in-Some.is)
    (c.requires.hang c.in-Some.end (ap (λ o. is_among o c.in-Some.end) c.in-Some.is ∙ is_second (c.in-Some.start, c.in-Some.end)))

pub returns-in-Some-clause-hung : goal.returns-in-Some-clause-hung
returns-in-Some-clause-hung c n =
    both_gone _ _ _ c.in-Some.start c.in-Some.end n (ap (λ b. b.hung) c.unhang.ensures.gone) (ap (λ b. b.hung) c.unhang-in-Some.ensures.gone)
    ∙ ap (λ o. if is_among o n then None else get c.args.buffer.now.hung n) (sym c.in-Some.is)
