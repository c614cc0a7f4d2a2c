use Rattle.std.proofs.Common.{◌≡◌, ◌<◌, ◌≤◌, length}
use Rattle.kte_text.specs.Texts.{size_of}
use Rattle.kte_text.specs.declared.TheConstants.{MAX_SIZE}
use Rattle.kte_script.specs.Ends.{parts_of}
use Rattle.kte_script.specs.Strings.{lines_in}
use Rattle.kte_script.proofs.PartLemmas.{after_lines, lines_left, bytes_left}
use Rattle.kte_script.proofs.quotation.text_of.Given as goal

abbrev pub invariant-lines : goal.invariant-lines
invariant-lines l = record {
  so_far : after_lines l.text (lines_left l.more) ≡ lines_in (parts_of l.bytes);
  some : 0 < length l.text;
  small : size_of l.text ≤ MAX_SIZE;
}

abbrev pub decreases-lines : goal.decreases-lines
decreases-lines l = bytes_left l.more
