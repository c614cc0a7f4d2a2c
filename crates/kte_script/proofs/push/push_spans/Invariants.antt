use Rattle.std.proofs.Common.{◌≡◌, ◌++◌, take}
use Rattle.kte_script.specs.Fields.{spell_spans}
use Rattle.kte_script.proofs.push.push_spans.Given as goal

abbrev pub invariant-loop-n : goal.invariant-loop-n
invariant-loop-n l = l.out.items ≡ l.fn.out.items ++ spell_spans (take l.n l.spans)
