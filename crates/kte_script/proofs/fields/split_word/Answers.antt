use Rattle.std.proofs.Common.{◌∙◌, sym}
use Rattle.kte_script.proofs.WordLemmas.{word_to, word_all, behind_at, behind_all}
use Rattle.kte_script.proofs.fields.split_word.Goals as goal

pub returns-in-Some-clause-word : goal.returns-in-Some-clause-word
returns-in-Some-clause-word c =
    word_to c.args.bytes.now _ c.in-Some.at (sym c.first_space.ensures ∙ c.in-Some.is) c.split_at.ensures.front

pub returns-in-Some-clause-behind : goal.returns-in-Some-clause-behind
returns-in-Some-clause-behind c =
    behind_at c.args.bytes.now _ c.in-Some.at (sym c.first_space.ensures ∙ c.in-Some.is) c.split_at.ensures.back

pub returns-in-None-clause-word : goal.returns-in-None-clause-word
returns-in-None-clause-word c = word_all c.args.bytes.now (sym c.first_space.ensures ∙ c.in-None.is)

pub returns-in-None-clause-behind : goal.returns-in-None-clause-behind
returns-in-None-clause-behind c = behind_all c.args.bytes.now (sym c.first_space.ensures ∙ c.in-None.is)
