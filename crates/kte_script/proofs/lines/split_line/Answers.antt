use Rattle.kte_script.proofs.LineLemmas.{ended_line}
use Rattle.kte_script.proofs.lines.split_line.Goals as goal

pub returns-in-Some-clause-first : goal.returns-in-Some-clause-first
returns-in-Some-clause-first c =
    ended_line c.args.bytes.now c.split_end.result.0.now c.trimmed.result.now c.split_end.result.1 c.in-Some.rest
    c.split_end.ensures.parts c.in-Some.is c.trimmed.ensures.value
