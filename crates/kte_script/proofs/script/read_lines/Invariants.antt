use Rattle.std.proofs.Common.{◌≡◌, ◌+◌, ◌-◌, ◌≤◌, length}
use Rattle.kte_script.specs.declared.TheConstants.{MAX_COMMANDS}
use Rattle.kte_script.specs.Script.{lines_of, read_from, after_all}
use Rattle.kte_script.proofs.script.read_lines.Given as goal

abbrev pub invariant-lines : goal.invariant-lines
invariant-lines l = record {
  so_far : after_all l.commands.items
      (read_from l.number (MAX_COMMANDS - length l.commands.items) (lines_of l.rest))
      ≡ read_from 1 MAX_COMMANDS (lines_of l.bytes);
  counted : l.number + length l.rest ≤ length l.bytes + 1;
  short : length l.rest ≤ length l.bytes;
  few : length l.commands.items ≤ MAX_COMMANDS;
}

abbrev pub decreases-lines : goal.decreases-lines
decreases-lines l = length l.rest
