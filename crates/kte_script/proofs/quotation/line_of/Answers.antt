use Rattle.std.proofs.Common.{refl}
use Rattle.kte_script.proofs.StringLemmas.{holds_end, no_text, holds_line}
use Rattle.kte_script.proofs.quotation.line_of.Goals as goal

pub returns-in_default-clause-line : goal.returns-in_default-clause-line
returns-in_default-clause-line c = no_text c.args.text.now c.in_default.ensures

pub returns-in-Ok-from_utf8-clause-line : goal.returns-in-Ok-from_utf8-clause-line
returns-in-Ok-from_utf8-clause-line c =
    holds_line c.args.text.now c.in-Ok.text.now c.in-Ok-from_utf8.line c.in-Ok.ensures.0
    c.in-Ok-from_utf8.ensures.line c.units-units.ensures.whole

pub returns-in-Err-HasEnd-clause-line : goal.returns-in-Err-HasEnd-clause-line
returns-in-Err-HasEnd-clause-line c =
    let clause = (rw c.in-Err-HasEnd.field-0-is at c.in-Err-HasEnd.ensures).has_end c.in-Err-HasEnd.field-0-0 in
    rw (← c.in-Ok.ensures.0) (holds_end c.in-Ok.text.now c.in-Err-HasEnd.field-0-0 (clause.0 refl))
