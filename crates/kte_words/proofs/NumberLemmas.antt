-- Words that are decimal digits.
use Rattle.std.proofs.Common.{◌≡◌, true, rules}
use Rattle.std.specs.Char.{is_ascii_digit}
use Rattle.std.specs.List.{list_all}
use Rattle.std.specs.Str.Parse.{digits_value}
use Rattle.std.proofs.lemmas.Str.Parse.{IsNumeralModel, numerals_by_value}

-- the test of a word and the value of its digits
pub digits-model : IsNumeralModel (λ word. list_all is_ascii_digit word ≡ true) (digits_value 10)
digits-model = numerals_by_value _ (search rules)
