use Rattle.std.proofs.Common.{ℕ, List, Ok, sym, ap, ◌∙◌}
use Rattle.kte_script.specs.Script.{script_of}
use Rattle.kte_run.proofs.GenerateLemmas.{as_many, no_fault}
use Rattle.kte_run.proofs.generation.generated.Goals as goal

pub returns-in-Ok-clause-counted : goal.returns-in-Ok-clause-counted
returns-in-Ok-clause-counted c =
    as_many c.args.number c.args.count c.into_commands.result.items c.requires.some c.requires.most
    (ap (λ (bytes : List ℕ). script_of bytes) (sym (c.deref.ensures.value ∙ c.in_ok-script.ensures.script)) ∙ c.in-Ok.ensures.commands
    ∙ ap Ok (sym c.into_commands.ensures))

-- a generated script has no fault
pub unreachable-requires : goal.unreachable-requires
unreachable-requires c =
    no_fault c.args.number c.args.count c.deref.result.now c.in-Err-Bad.field-0 c.requires.some c.requires.most
    (c.deref.ensures.value ∙ c.in_ok-script.ensures.script)
    (c.in-Err-Bad.ensures.fault (λ none. let both = sym c.in-Err-Bad.field-0-is ∙ none in cc))

pub unreachable-requires-in-Err-TooMany : goal.unreachable-requires-in-Err-TooMany
unreachable-requires-in-Err-TooMany c =
    no_fault c.args.number c.args.count c.deref.result.now c.in-Err-TooMany.field-0 c.requires.some c.requires.most
    (c.deref.ensures.value ∙ c.in_ok-script.ensures.script)
    (c.in-Err-TooMany.ensures.fault (λ none. let both = sym c.in-Err-TooMany.field-0-is ∙ none in cc))

pub unreachable-requires-in-Err-TooLong : goal.unreachable-requires-in-Err-TooLong
unreachable-requires-in-Err-TooLong c =
    no_fault c.args.number c.args.count c.deref.result.now c.in-Err-TooLong.field-0 c.requires.some c.requires.most
    (c.deref.ensures.value ∙ c.in_ok-script.ensures.script)
    (c.in-Err-TooLong.ensures.fault (λ none. let both = sym c.in-Err-TooLong.field-0-is ∙ none in cc))
