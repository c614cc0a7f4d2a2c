use Rattle.kte_script.proofs.PieceLemmas.{string_size}
use Rattle.kte_script.proofs.StringLemmas.{closes}
use Rattle.kte_script.proofs.quotation.string.Goals as goal

pub returns-in-Some-clause-value : goal.returns-in-Some-clause-value
returns-in-Some-clause-value c =
    closes c.bytes.text.items c.args.bytes.now c.bytes.rest.now c.in-Some.after.now c.bytes.invariant c.in-Some.ensures

pub returns-in-Some-clause-within : goal.returns-in-Some-clause-within
returns-in-Some-clause-within c =
    string_size c.args.bytes.now _
    (closes c.bytes.text.items c.args.bytes.now c.bytes.rest.now c.in-Some.after.now c.bytes.invariant c.in-Some.ensures)
