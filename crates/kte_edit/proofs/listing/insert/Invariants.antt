use Rattle.std.proofs.Common.{◌≡◌, ◌+◌, ◌≤◌, ◌++◌, drop}
use Rattle.kte_text.specs.declared.TheConstants.{MAX_SIZE}
use Rattle.kte_edit.specs.Steps.{further, without_empty}
use Rattle.kte_edit.proofs.listing.insert.Given as goal

-- what is listed, and what is left to be, are the whole
abbrev pub invariant-loop-n : goal.invariant-loop-n
invariant-loop-n l = record {
  line : l.line + 1 ≤ MAX_SIZE + l.n;
  whole : l.batch ++ without_empty (further l.line l.column (drop l.n l.text))
      ≡ l.initial.batch ++ without_empty (further l.initial.line l.initial.column (drop 1 l.text));
}
