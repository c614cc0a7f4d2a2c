use Rattle.std.proofs.Common.{rules}
use Rattle.kte_record.proofs.FieldLemmas.{first_is, unwrap_line_gap}
use Rattle.kte_record.proofs.reading.first_unwrap.Goals as goal

pub returns-in_err-line : goal.returns-in_err-line
returns-in_err-line c =
    let gap = unwrap_line_gap c.args.bytes.now c.in_err-line.field-0.0 (first_is c.args.bytes.now 0x55 c.requires) c.in_err-line.ensures in
    search (rules, gap)
