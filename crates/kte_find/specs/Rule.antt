-- What every rule keeps.
use Rattle.std.specs.Prelude.{◌<◌, length}
use Rattle.kte_find.specs.declared.rule.Rule.{Rule}
use Rattle.kte_find.specs.declared.rule.Rule.TheVariants.{Word, Blanks, Long, Pairs, Repeat}

-- a rule that looks for a word has one: the word is not empty. This project's own rule
abbrev pub HasWord : Rule → Type 0
HasWord (Word word) = 0 < length word
HasWord Blanks = Unit {0}
HasWord (Long limit) = Unit {0}
HasWord Pairs = Unit {0}
HasWord Repeat = Unit {0}
