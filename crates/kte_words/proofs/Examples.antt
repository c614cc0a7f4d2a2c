-- Worked examples of the definitions.
use Rattle.std.proofs.Common.{◌≡◌, ◌≢◌, ◌≤◌, ◌-◌, ◌^◌, ℕ, List, [], ◌∷◌, length, get_or, Some, None, codes, refl, ap, arith, rules}
use Rattle.std.specs.Str.Parse.{IsNumeral, digits_value}
use Rattle.kte_words.specs.Forms.{IsNumber}
use Rattle.kte_words.specs.Words.{Spells, FirstMisfit, file_of}
use Rattle.kte_words.specs.declared.TheConstants.{MAX_COUNT, MAX_DIGITS, MAX_WORKERS}
use Rattle.kte_words.specs.declared.words.Words.TheVariants.{Edit, Check, Recover, Gen}
use Rattle.kte_words.proofs.CommandLemmas.{form-stopped, edit-form, check-form, recover-form, gen-form, no-command, no-word}

abbrev a : List ℕ
a = codes "a"

a-named : a ≢ []
a-named is = omega (arith, ap length is)

-- a name of one letter, and the name that is the command's own word
edits : Spells (codes "edit" ∷ a ∷ []) (Edit 1)
edits = ((refl, (a-named, tt)), refl)

edits_edit : Spells (codes "edit" ∷ codes "edit" ∷ []) (Edit 1)
edits_edit = ((refl, ((λ is. omega (arith, ap length is)), tt)), refl)

edited_file : file_of (Edit 1) ≡ Some 1
edited_file = refl

recovers : Spells (codes "recover" ∷ a ∷ []) (Recover 1)
recovers = ((refl, (a-named, tt)), refl)

recovered_file : file_of (Recover 1) ≡ Some 1
recovered_file = refl

-- no word, an empty word, and a word that is longer than the command's
nothing : FirstMisfit [] 0
nothing = no-word [] refl

empty_word : FirstMisfit ([] ∷ []) 0
empty_word = no-command [] ([] ∷ []) refl (record {
  edit = λ is. omega (arith, ap length is);
  check = λ is. omega (arith, ap length is);
  recover = λ is. omega (arith, ap length is);
  gen = λ is. omega (arith, ap length is);
})

abbrev first_byte : List ℕ → ℕ
first_byte word = get_or word 0 0

longer_word : FirstMisfit (codes "edits" ∷ a ∷ []) 0
longer_word = no-command (codes "edits") (codes "edits" ∷ a ∷ []) refl (record {
  edit = λ is. omega (arith, ap length is);
  check = λ is. omega (arith, ap first_byte is);
  recover = λ is. omega (arith, ap length is);
  gen = λ is. omega (arith, ap length is);
})

-- a missing file, and an empty one, also before a word too many
file_missing : FirstMisfit (codes "edit" ∷ []) 1
file_missing = form-stopped _ _ edit-form (codes "edit" ∷ []) 1 refl (refl, refl)

file_empty : FirstMisfit (codes "recover" ∷ [] ∷ []) 1
file_empty = form-stopped _ _ recover-form (codes "recover" ∷ [] ∷ []) 1 refl (refl, (λ named. named refl))

file_empty_before_more : FirstMisfit (codes "edit" ∷ [] ∷ a ∷ []) 1
file_empty_before_more =
    form-stopped _ _ edit-form (codes "edit" ∷ [] ∷ a ∷ []) 1 refl (refl, (λ named. named refl))

-- one word and two words too many
one_too_many : FirstMisfit (codes "recover" ∷ a ∷ codes "b" ∷ []) 2
one_too_many =
    form-stopped _ _ recover-form (codes "recover" ∷ a ∷ codes "b" ∷ []) 2 refl (refl, (a-named, refl))

two_too_many : FirstMisfit (codes "edit" ∷ a ∷ [] ∷ codes "b" ∷ []) 2
two_too_many =
    form-stopped _ _ edit-form (codes "edit" ∷ a ∷ [] ∷ codes "b" ∷ []) 2 refl (refl, (a-named, refl))

-- ---- numbers

number : (least most : ℕ) (word : List ℕ) → IsNumeral 10 word → length word ≤ MAX_DIGITS
    → least ≤ digits_value 10 word → digits_value 10 word ≤ most → IsNumber least most word
number least most word digits short at_least at_most =
    record { digits = digits; short = short; at_least = at_least; at_most = at_most }

seven : IsNumber 0 (2 ^ 64 - 1) (codes "7")
seven = number _ _ _ (search rules) (omega arith) (omega arith) (omega arith)

one : IsNumber 1 MAX_COUNT (codes "1")
one = number _ _ _ (search rules) (omega arith) (omega arith) (omega arith)

generates : Spells (codes "gen" ∷ codes "7" ∷ codes "1" ∷ []) (Gen 7 1)
generates = ((refl, (seven, (one, tt))), refl, refl)

generated_file : file_of (Gen 7 1) ≡ None
generated_file = refl

-- the greatest number and the greatest count, and zeros in front
greatest : IsNumber 0 (2 ^ 64 - 1) (codes "18446744073709551615")
greatest = number _ _ _ (search rules) (omega arith) (omega arith) (omega arith)

greatest_value : digits_value 10 (codes "18446744073709551615") ≡ 2 ^ 64 - 1
greatest_value = refl

most : IsNumber 1 MAX_COUNT (codes "00000000000000100000")
most = number _ _ _ (search rules) (omega arith) (omega arith) (omega arith)

most_value : digits_value 10 (codes "00000000000000100000") ≡ 100000
most_value = refl

generates_most : Spells (codes "gen" ∷ codes "18446744073709551615" ∷ codes "00000000000000100000" ∷ []) (Gen 18446744073709551615 100000)
generates_most = ((refl, (greatest, (most, tt))), refl, refl)

-- a missing number, a letter, a number that is too large, and one of 21 digits
number_missing : FirstMisfit (codes "gen" ∷ []) 1
number_missing = form-stopped _ _ gen-form (codes "gen" ∷ []) 1 refl (refl, refl)

letter : FirstMisfit (codes "gen" ∷ codes "x" ∷ codes "1" ∷ []) 1
letter =
    form-stopped _ _ gen-form (codes "gen" ∷ codes "x" ∷ codes "1" ∷ []) 1 refl
    (refl, (λ is. omega (arith, is.digits.1.0)))

signed : FirstMisfit (codes "gen" ∷ codes "+7" ∷ codes "1" ∷ []) 1
signed =
    form-stopped _ _ gen-form (codes "gen" ∷ codes "+7" ∷ codes "1" ∷ []) 1 refl
    (refl, (λ is. omega (arith, is.digits.1.0)))

too_large : FirstMisfit (codes "gen" ∷ codes "18446744073709551616" ∷ codes "1" ∷ []) 1
too_large =
    form-stopped _ _ gen-form (codes "gen" ∷ codes "18446744073709551616" ∷ codes "1" ∷ []) 1 refl
    (refl, (λ is. omega (arith, is.at_most)))

too_long : FirstMisfit (codes "gen" ∷ codes "000000000000000000007" ∷ codes "1" ∷ []) 1
too_long =
    form-stopped _ _ gen-form (codes "gen" ∷ codes "000000000000000000007" ∷ codes "1" ∷ []) 1 refl
    (refl, (λ is. omega (arith, is.short)))

-- a missing count, a count of 0, one command too many, and a word too many
count_missing : FirstMisfit (codes "gen" ∷ codes "7" ∷ []) 2
count_missing =
    form-stopped _ _ gen-form (codes "gen" ∷ codes "7" ∷ []) 2 refl (refl, (seven, refl))

no_commands : FirstMisfit (codes "gen" ∷ codes "7" ∷ codes "0" ∷ []) 2
no_commands =
    form-stopped _ _ gen-form (codes "gen" ∷ codes "7" ∷ codes "0" ∷ []) 2 refl
    (refl, (seven, (λ is. omega (arith, is.at_least))))

too_many : FirstMisfit (codes "gen" ∷ codes "7" ∷ codes "100001" ∷ []) 2
too_many =
    form-stopped _ _ gen-form (codes "gen" ∷ codes "7" ∷ codes "100001" ∷ []) 2 refl
    (refl, (seven, (λ is. omega (arith, is.at_most))))

one_word_more : FirstMisfit (codes "gen" ∷ codes "7" ∷ codes "1" ∷ codes "x" ∷ []) 3
one_word_more =
    form-stopped _ _ gen-form (codes "gen" ∷ codes "7" ∷ codes "1" ∷ codes "x" ∷ []) 3 refl
    (refl, (seven, (one, refl)))

-- ---- checkers

three : IsNumber 1 MAX_WORKERS (codes "3")
three = number _ _ _ (search rules) (omega arith) (omega arith) (omega arith)

checks : Spells (codes "check" ∷ codes "3" ∷ a ∷ []) (Check 3 2)
checks = ((refl, (three, (a-named, tt))), refl, refl)

checked_file : file_of (Check 3 2) ≡ Some 2
checked_file = refl

-- the most checkers, zeros in front, and a file with the command's own name
most_workers : IsNumber 1 MAX_WORKERS (codes "00000000000000000016")
most_workers = number _ _ _ (search rules) (omega arith) (omega arith) (omega arith)

checks_most : Spells (codes "check" ∷ codes "00000000000000000016" ∷ codes "check" ∷ []) (Check 16 2)
checks_most = ((refl, (most_workers, ((λ is. omega (arith, ap length is)), tt))), refl, refl)

-- no number, 0, one checker too many, a sign, and a letter after a digit
workers_missing : FirstMisfit (codes "check" ∷ []) 1
workers_missing = form-stopped _ _ check-form (codes "check" ∷ []) 1 refl (refl, refl)

no_workers : FirstMisfit (codes "check" ∷ codes "0" ∷ a ∷ []) 1
no_workers =
    form-stopped _ _ check-form (codes "check" ∷ codes "0" ∷ a ∷ []) 1 refl
    (refl, (λ is. omega (arith, is.at_least)))

too_many_workers : FirstMisfit (codes "check" ∷ codes "17" ∷ a ∷ []) 1
too_many_workers =
    form-stopped _ _ check-form (codes "check" ∷ codes "17" ∷ a ∷ []) 1 refl
    (refl, (λ is. omega (arith, is.at_most)))

signed_workers : FirstMisfit (codes "check" ∷ codes "-1" ∷ a ∷ []) 1
signed_workers =
    form-stopped _ _ check-form (codes "check" ∷ codes "-1" ∷ a ∷ []) 1 refl
    (refl, (λ is. omega (arith, is.digits.1.0)))

letter_after_digit : FirstMisfit (codes "check" ∷ codes "1x" ∷ a ∷ []) 1
letter_after_digit =
    form-stopped _ _ check-form (codes "check" ∷ codes "1x" ∷ a ∷ []) 1 refl
    (refl, (λ is. omega (arith, is.digits.1.1.0)))

-- a missing file, an empty one, and a word too many
checked_file_missing : FirstMisfit (codes "check" ∷ codes "3" ∷ []) 2
checked_file_missing =
    form-stopped _ _ check-form (codes "check" ∷ codes "3" ∷ []) 2 refl (refl, (three, refl))

checked_file_empty : FirstMisfit (codes "check" ∷ codes "3" ∷ [] ∷ []) 2
checked_file_empty =
    form-stopped _ _ check-form (codes "check" ∷ codes "3" ∷ [] ∷ []) 2 refl
    (refl, (three, (λ named. named refl)))

checked_word_more : FirstMisfit (codes "check" ∷ codes "3" ∷ a ∷ codes "b" ∷ []) 3
checked_word_more =
    form-stopped _ _ check-form (codes "check" ∷ codes "3" ∷ a ∷ codes "b" ∷ []) 3 refl
    (refl, (three, (a-named, refl)))
