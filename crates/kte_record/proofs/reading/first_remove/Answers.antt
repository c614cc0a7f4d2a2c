use Rattle.std.proofs.Common.{rules, refl, [], ◌∷◌, ◌++◌, drop}
use Rattle.kte_record.specs.Grammar.{number}
use Rattle.kte_record.proofs.FieldLemmas.{first_is, and_number, remove_line_gap, remove_start_gap, remove_end_gap}
use Rattle.kte_record.proofs.reading.first_remove.Goals as goal

pub returns-in_err-line : goal.returns-in_err-line
returns-in_err-line c =
    let gap = remove_line_gap c.args.bytes.now c.in_err-line.field-0.0 (first_is c.args.bytes.now 0x52 c.requires) c.in_err-line.ensures in
    search (rules, gap)

pub returns-in_err-start : goal.returns-in_err-start
returns-in_err-start c =
    let line = c.in_ok-line.ensures in
    let there = and_number (0x52 ∷ []) c.args.bytes.now c.in_ok-line.line (first_is c.args.bytes.now 0x52 c.requires) line.1 in
    let gap = remove_start_gap c.args.bytes.now c.in_ok-line.line c.in_err-start.field-0.0 line.0 there c.in_err-start.ensures in
    search (rules, gap)

pub returns-in_err-end : goal.returns-in_err-end
returns-in_err-end c =
    let line = c.in_ok-line.ensures in
    let start = c.in_ok-start.ensures in
    let there = and_number (0x52 ∷ []) c.args.bytes.now c.in_ok-line.line (first_is c.args.bytes.now 0x52 c.requires) line.1 in
    let then = and_number (0x52 ∷ number c.in_ok-line.line) c.args.bytes.now c.in_ok-start.start there start.1 in
    let gap = remove_end_gap c.args.bytes.now c.in_ok-line.line c.in_ok-start.start c.in_err-end.field-0.0 line.0 start.0 then c.in_err-end.ensures in
    search (rules, gap)

pub returns : goal.returns
returns c =
    let line = c.in_ok-line.ensures in
    let start = c.in_ok-start.ensures in
    let end = c.in_ok-end.ensures in
    let there = and_number (0x52 ∷ []) c.args.bytes.now c.in_ok-line.line (first_is c.args.bytes.now 0x52 c.requires) line.1 in
    let then = and_number (0x52 ∷ number c.in_ok-line.line) c.args.bytes.now c.in_ok-start.start there start.1 in
    let last = and_number ((0x52 ∷ number c.in_ok-line.line) ++ number c.in_ok-start.start) c.args.bytes.now c.in_ok-end.end then end.1 in
    (record { is_record = (line.0, start.0, end.0); rest = drop 13 c.args.bytes.now; spelled = last }, refl)
