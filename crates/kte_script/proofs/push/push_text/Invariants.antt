use Rattle.std.proofs.Common.{◌≡◌, ◌∷◌, ◌++◌, take}
use Rattle.kte_script.proofs.SpellingLemmas.{spell_lines}
use Rattle.kte_script.proofs.push.push_text.Given as goal

abbrev pub invariant-loop-n : goal.invariant-loop-n
invariant-loop-n l = l.out.items ≡ l.fn.out.items ++ 32 ∷ 34 ∷ spell_lines (take l.n l.text)
