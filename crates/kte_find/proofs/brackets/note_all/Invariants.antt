use Rattle.std.proofs.Common.{◌≡◌, ◌++◌, map, take}
use Rattle.kte_find.specs.declared.found.TheConstants.{MAX_FINDINGS}
use Rattle.kte_find.specs.Findings.{span_of}
use Rattle.kte_find.proofs.brackets.note_all.Given as goal

-- the spans of the brackets so far are noted
abbrev pub invariant-loop-bracket : goal.invariant-loop-bracket
invariant-loop-bracket l = l.found ≡ take MAX_FINDINGS (l.fn.found ++ map span_of (take l.bracket-index l.brackets))
