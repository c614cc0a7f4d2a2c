use Rattle.std.proofs.Common.{◌≡◌, ◌+◌, ◌-◌, ap, arith}
use Rattle.kte_fold.specs.Folds.{visible_before}
use Rattle.kte_fold.proofs.CountLemmas.{fewer_before}
use Rattle.kte_fold.proofs.folds.Folds.line_of.Goals as goal

pub returns-else-line-from : goal.returns-else-line-from
returns-else-line-from g c =
    let spans = g.S.Spanned.spans c.args.spans.now in
    let numbers = c.self.inside.numbers.items in
    let line = c.nth_visible-line.result in
    let lines = c.args.lines in
    let told = c.from.ensures in
    let whole : lines + (line - lines) ≡ line = omega arith in
    let e = ap (visible_before spans numbers) whole in
    let fewer = fewer_before spans numbers lines (line - lines) in
    let number : visible_before spans numbers line ≡ c.args.visible = rw c.as_slice.ensures.value at c.nth_visible-line.ensures.number in
    rw (← c.self.view_is) (omega arith)
