use Rattle.std.proofs.Common.{◌≤◌, length}
use Rattle.kte_find.proofs.LineLemmas.{all_lines}
use Rattle.kte_find.proofs.lines.find_in_lines.Goals as goal

pub returns : goal.returns
returns c =
    let past : length c.args.text.now ≤ c.loop-line.line = rw (← c.lines-line-end.ensures.count) c.loop-line-test.false in
    all_lines c.args.rule.now c.args.text.now c.loop-line.line c.loop-line.found c.requires.by_line past c.loop-line.invariant
