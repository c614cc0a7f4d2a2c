use Rattle.std.proofs.Common.{◌≡◌, ◌∷◌, ◌++◌, length, map, take}
use Rattle.kte_report.specs.Lines.{text_of_lines}
use Rattle.kte_report.specs.Events.{event_text}
use Rattle.kte_report.specs.Journal.{head}
use Rattle.kte_report.proofs.journal.push_lines.Given as goal

abbrev pub invariant-loop-n : goal.invariant-loop-n
invariant-loop-n l =
    l.out.items ≡ l.fn.out.items ++ text_of_lines (head (length l.journal.events) ∷ map event_text (take l.n l.journal.events))
