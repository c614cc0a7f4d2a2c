use Rattle.std.proofs.Common.{◌≡◌, ◌∙◌, ℕ, ◌+◌, ◌≤◌, List, ◌∷◌, ◌++◌, length, ap, refl, arith, [], length-append}
use Rattle.std.proofs.lemmas.Result.{err_from_is_err_and}
use Rattle.kte_report.specs.Journal.{HasRead}
use Rattle.kte_report.proofs.JournalLemmas.{bad_first, unended_first, read_head, read_event, all_read, read_size, names_bad, left_over, is_nothing, is_something}
use Rattle.kte_report.proofs.reading.read_journal.Goals as goal

pub returns-in_default-clause-bad : goal.returns-in_default-clause-bad
returns-in_default-clause-bad c = unended_first c.args.bytes.now c.in_default.ensures

pub returns-in_default-2-clause-bad : goal.returns-in_default-2-clause-bad
returns-in_default-2-clause-bad c =
    bad_first c.args.bytes.now c.in-Some.first.now c.in-Some.rest.now c.in-Some.ensures.0 c.in-Some.ensures.1 (rw c.in_default-2.is at c.in_ok-count.ensures.none)

pub events-init : goal.events-init
events-init c =
    let told = rw c.in-Some-2.is at c.in_ok-count.ensures.some in
    let parts = c.in-Some.ensures.0 ∙ ap (λ (xs : List ℕ). xs ++ 10 ∷ c.in-Some.rest.now) told.1 in
    let has = read_head c.args.bytes.now c.in-Some.rest.now c.in-Some-2.count told.0 parts in
    record {
      read = rw c.new-journal.ensures has;
      counted = rw c.new-journal.ensures refl;
      within = read_size c.args.bytes.now c.in-Some.rest.now c.in-Some-2.count [] has;
    }

pub overflow_add-n : goal.overflow_add-n
overflow_add-n c = omega (arith, c.if-prove.false, c.events.invariant.within)

pub returns-in_err-rest-clause-bad : goal.returns-in_err-rest-clause-bad
returns-in_err-rest-clause-bad c =
    let is = err_from_is_err_and c.from_residual-in_err-rest.result c.from_residual-in_err-rest.ensures.1 in
    rw (is.1, is.2) (names_bad c.args.bytes.now c.events.rest.now c.in-Some-2.count c.events.journal.events c.events.invariant.read (omega arith) (c.events.n + 2) (omega arith) c.in_err-rest.field-0.0 c.in_err-rest.ensures.bad)

pub events-preserved : goal.events-preserved
events-preserved c =
    let e = c.in_ok-rest.ensures.event in
    let has = read_event c.args.bytes.now c.events.rest.now c.in-Some-2.count c.events.journal.events c.events.invariant.read (omega arith) e.0 c.in_ok-rest.rest.now e.1.held e.1.parts in
    let now : HasRead c.args.bytes.now c.in_ok-rest.rest.now c.in-Some-2.count c.read_line.new.journal.events = rw e.2 has in
    let more : length c.read_line.new.journal.events ≡ length c.events.journal.events + 1 = ap length e.2 ∙ length-append c.events.journal.events (e.0 ∷ []) in
    let size : length c.read_line.new.journal.events + 1 ≤ length c.args.bytes.now = read_size c.args.bytes.now c.in_ok-rest.rest.now c.in-Some-2.count c.read_line.new.journal.events now in
    record { read = now; counted = omega arith; within = omega arith }

pub returns-then-is_empty-clause-text : goal.returns-then-is_empty-clause-text
returns-then-is_empty-clause-text c =
    let nil = is_nothing c.events.rest.now c.if-is_empty.ensures in
    let full : length c.events.journal.events ≡ c.in-Some-2.count = omega (arith, c.events.invariant.read.few, c.events.invariant.counted, c.events-test.false) in
    all_read c.args.bytes.now c.in-Some-2.count c.events.journal.events (rw nil at c.events.invariant.read) full

pub returns-then-is_empty-clause-held : goal.returns-then-is_empty-clause-held
returns-then-is_empty-clause-held c = record { each = c.events.invariant.read.each; few = omega (arith, c.events.invariant.read.few, c.events.invariant.read.small) }

pub overflow_add-result : goal.overflow_add-result
overflow_add-result c = omega (arith, c.if-prove.false, c.events.invariant.within, c.events-test.false)

pub returns-clause-bad : goal.returns-clause-bad
returns-clause-bad c =
    let full : length c.events.journal.events ≡ c.in-Some-2.count = omega (arith, c.events.invariant.read.few, c.events.invariant.counted, c.events-test.false) in
    left_over c.args.bytes.now c.events.rest.now c.in-Some-2.count c.events.journal.events c.events.invariant.read full (is_something c.events.rest.now c.if-is_empty.ensures) (c.in-Some-2.count + 2) refl
