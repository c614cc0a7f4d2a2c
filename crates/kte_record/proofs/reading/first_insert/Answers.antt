use Rattle.std.proofs.Common.{◌≡◌, ◌<◌, ◌-◌, ℕ, List, rules, [], ◌∷◌, ◌++◌, length, take, drop, subst, ap, arith}
use Rattle.std.proofs.lemmas.List.{take_all, length-drop}
use Rattle.kte_record.specs.Grammar.{number}
use Rattle.kte_record.proofs.FieldLemmas.{first_is, and_number, insert_line_gap, insert_column_gap, insert_length_gap, text_cut, text_whole}
use Rattle.kte_record.proofs.reading.first_insert.Goals as goal

pub returns-in_err-line : goal.returns-in_err-line
returns-in_err-line c =
    let gap = insert_line_gap c.args.bytes.now c.in_err-line.field-0.0 (first_is c.args.bytes.now 0x49 c.requires) c.in_err-line.ensures in
    search (rules, gap)

pub returns-in_err-column : goal.returns-in_err-column
returns-in_err-column c =
    let line = c.in_ok-line.ensures in
    let there = and_number (0x49 ∷ []) c.args.bytes.now c.in_ok-line.line (first_is c.args.bytes.now 0x49 c.requires) line.1 in
    let gap = insert_column_gap c.args.bytes.now c.in_ok-line.line c.in_err-column.field-0.0 line.0 there c.in_err-column.ensures in
    search (rules, gap)

pub returns-in_err-length : goal.returns-in_err-length
returns-in_err-length c =
    let line = c.in_ok-line.ensures in
    let column = c.in_ok-column.ensures in
    let there = and_number (0x49 ∷ []) c.args.bytes.now c.in_ok-line.line (first_is c.args.bytes.now 0x49 c.requires) line.1 in
    let then = and_number (0x49 ∷ number c.in_ok-line.line) c.args.bytes.now c.in_ok-column.column there column.1 in
    let gap = insert_length_gap c.args.bytes.now c.in_ok-line.line c.in_ok-column.column c.in_err-length.field-0.0 line.0 column.0 then c.in_err-length.ensures in
    search (rules, gap)

-- all bytes from the text on
rest_of : (bytes : List ℕ) → take (length bytes - 13) (drop 13 bytes) ≡ drop 13 bytes
rest_of bytes = take_all (length bytes - 13) (drop 13 bytes) (omega (arith, length-drop 13 bytes))

pub returns-then-rest-length : goal.returns-then-rest-length
returns-then-rest-length c =
    let line = c.in_ok-line.ensures in
    let column = c.in_ok-column.ensures in
    let length_is = c.in_ok-length.ensures in
    let there = and_number (0x49 ∷ []) c.args.bytes.now c.in_ok-line.line (first_is c.args.bytes.now 0x49 c.requires) line.1 in
    let then = and_number (0x49 ∷ number c.in_ok-line.line) c.args.bytes.now c.in_ok-column.column there column.1 in
    let last = and_number ((0x49 ∷ number c.in_ok-line.line) ++ number c.in_ok-column.column) c.args.bytes.now c.in_ok-length.length then length_is.1 in
    text_cut c.args.bytes.now c.in_ok-line.line c.in_ok-column.column c.in_ok-length.length line.0 column.0 length_is.0 last
    (subst (λ (l : List ℕ). length l < c.in_ok-length.length) (rest_of c.args.bytes.now) c.if-rest-length.true)

pub returns : goal.returns
returns c =
    let line = c.in_ok-line.ensures in
    let column = c.in_ok-column.ensures in
    let length_is = c.in_ok-length.ensures in
    let there = and_number (0x49 ∷ []) c.args.bytes.now c.in_ok-line.line (first_is c.args.bytes.now 0x49 c.requires) line.1 in
    let then = and_number (0x49 ∷ number c.in_ok-line.line) c.args.bytes.now c.in_ok-column.column there column.1 in
    let last = and_number ((0x49 ∷ number c.in_ok-line.line) ++ number c.in_ok-column.column) c.args.bytes.now c.in_ok-length.length then length_is.1 in
    let all = rest_of c.args.bytes.now in
    let whole = text_whole c.args.bytes.now (take c.in_ok-length.length (take (length c.args.bytes.now - 13) (drop 13 c.args.bytes.now)))
    c.in_ok-line.line c.in_ok-column.column c.in_ok-length.length line.0 column.0 length_is.0 last
    (omega (arith, ap length all, c.if-rest-length.false)) (ap (take c.in_ok-length.length) all) in
    (whole.0, omega (arith, whole.1))
