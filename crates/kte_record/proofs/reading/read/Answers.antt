use Rattle.std.proofs.Common.{◌≡◌, ap}
use Rattle.kte_record.specs.Grammar.{item_of}
use Rattle.kte_record.specs.declared.reading.Reading.TheVariants.{Bad}
use Rattle.kte_record.proofs.RecordLemmas.{got_exactly, fault_unknown, one_fault, unknown_not_cut, unknown_not_whole, cut_not_whole}
use Rattle.kte_record.proofs.reading.read.Goals as goal

pub returns-in-Ok-clause-reads : goal.returns-in-Ok-clause-reads
returns-in-Ok-clause-reads c = c.in-Ok.ensures

pub returns-in-Ok-clause-got : goal.returns-in-Ok-clause-got
returns-in-Ok-clause-got c item =
    (got_exactly c.args.bytes.now (item_of c.in-Ok.item) c.in-Ok.used c.in-Ok.ensures.0 c.in-Ok.ensures.1 item).1

pub returns-in-Ok-clause-part : goal.returns-in-Ok-clause-part
returns-in-Ok-clause-part c cut = absurd (cut_not_whole c.args.bytes.now (item_of c.in-Ok.item) cut c.in-Ok.ensures.0)

pub returns-in-Ok-clause-bad : goal.returns-in-Ok-clause-bad
returns-in-Ok-clause-bad c at f =
    absurd (unknown_not_whole c.args.bytes.now (item_of c.in-Ok.item) (fault_unknown c.args.bytes.now at f) c.in-Ok.ensures.0)

pub returns-in-Err-Cut-clause-reads : goal.returns-in-Err-Cut-clause-reads
returns-in-Err-Cut-clause-reads c = rw c.in-Err-Cut.field-0-is at c.in-Err-Cut.ensures

pub returns-in-Err-Cut-clause-got : goal.returns-in-Err-Cut-clause-got
returns-in-Err-Cut-clause-got c item begins =
    let cut = rw c.in-Err-Cut.field-0-is at c.in-Err-Cut.ensures in
    absurd (cut_not_whole c.args.bytes.now item cut begins)

pub returns-in-Err-Cut-clause-bad : goal.returns-in-Err-Cut-clause-bad
returns-in-Err-Cut-clause-bad c at f =
    let cut = rw c.in-Err-Cut.field-0-is at c.in-Err-Cut.ensures in
    absurd (unknown_not_cut c.args.bytes.now (fault_unknown c.args.bytes.now at f) cut)

pub returns-in-Err-Fault-clause-reads : goal.returns-in-Err-Fault-clause-reads
returns-in-Err-Fault-clause-reads c = rw c.in-Err-Fault.field-0-is at c.in-Err-Fault.ensures

pub returns-in-Err-Fault-clause-got : goal.returns-in-Err-Fault-clause-got
returns-in-Err-Fault-clause-got c item begins =
    let fault = rw c.in-Err-Fault.field-0-is at c.in-Err-Fault.ensures in
    absurd (unknown_not_whole c.args.bytes.now item (fault_unknown c.args.bytes.now c.in-Err-Fault.at fault) begins)

pub returns-in-Err-Fault-clause-part : goal.returns-in-Err-Fault-clause-part
returns-in-Err-Fault-clause-part c cut =
    let fault = rw c.in-Err-Fault.field-0-is at c.in-Err-Fault.ensures in
    absurd (unknown_not_cut c.args.bytes.now (fault_unknown c.args.bytes.now c.in-Err-Fault.at fault) cut)

pub returns-in-Err-Fault-clause-bad : goal.returns-in-Err-Fault-clause-bad
returns-in-Err-Fault-clause-bad c at f =
    let fault = rw c.in-Err-Fault.field-0-is at c.in-Err-Fault.ensures in
    ap Bad (one_fault c.args.bytes.now c.in-Err-Fault.at at fault f)
