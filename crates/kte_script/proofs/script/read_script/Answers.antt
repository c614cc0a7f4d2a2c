use Rattle.kte_script.specs.declared.TheConstants.{MAX_COMMANDS}
use Rattle.kte_script.specs.Script.{lines_of}
use Rattle.kte_script.proofs.WithinLemmas.{all_fit, all_in_range}
use Rattle.kte_script.proofs.script.read_script.Goals as goal

pub returns-clause-limits : goal.returns-clause-limits
returns-clause-limits c =
    all_fit (lines_of c.args.bytes.now) 1 MAX_COMMANDS c.in_ok-read_lines.field-0.items c.in_ok-read_lines.ensures.read

pub returns-clause-in_range : goal.returns-clause-in_range
returns-clause-in_range c =
    all_in_range c.in_ok-read_lines.field-0.items
    (all_fit (lines_of c.args.bytes.now) 1 MAX_COMMANDS c.in_ok-read_lines.field-0.items c.in_ok-read_lines.ensures.read)
