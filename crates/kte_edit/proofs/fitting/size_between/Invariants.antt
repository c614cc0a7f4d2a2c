use Rattle.std.proofs.Common.{◌≡◌, ◌+◌}
use Rattle.kte_text.specs.Flat.{start_of}
use Rattle.kte_edit.proofs.fitting.size_between.Given as goal

-- what was counted so far is from the start of the first line to the end's column of this one
abbrev pub invariant-loop-line : goal.invariant-loop-line
invariant-loop-line g l =
    start_of (g.L.Lines.text l.lines) l.span-inside.start.line + l.size
    ≡ start_of (g.L.Lines.text l.lines) l.line + l.span-inside.end.column
