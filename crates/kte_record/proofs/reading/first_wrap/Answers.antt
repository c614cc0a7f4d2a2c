use Rattle.std.proofs.Common.{rules, [], ◌∷◌}
use Rattle.kte_record.proofs.FieldLemmas.{first_is, and_number, wrap_line_gap, wrap_column_gap}
use Rattle.kte_record.proofs.reading.first_wrap.Goals as goal

pub returns-in_err-line : goal.returns-in_err-line
returns-in_err-line c =
    let gap = wrap_line_gap c.args.bytes.now c.in_err-line.field-0.0 (first_is c.args.bytes.now 0x57 c.requires) c.in_err-line.ensures in
    search (rules, gap)

pub returns-in_err-column : goal.returns-in_err-column
returns-in_err-column c =
    let line = c.in_ok-line.ensures in
    let there = and_number (0x57 ∷ []) c.args.bytes.now c.in_ok-line.line (first_is c.args.bytes.now 0x57 c.requires) line.1 in
    let gap = wrap_column_gap c.args.bytes.now c.in_ok-line.line c.in_err-column.field-0.0 line.0 there c.in_err-column.ensures in
    search (rules, gap)
