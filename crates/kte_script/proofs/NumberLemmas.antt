-- The value of decimal digits.
use Rattle.std.proofs.Common.{◌≡◌, ℕ, ◌+◌, ◌-◌, ◌*◌, ◌<◌, ◌≤◌, true, List, [], ◌∷◌, length, take, get_or, arith}
use Rattle.std.specs.Char.{is_ascii_digit, digit_value}
use Rattle.std.specs.List.{list_all}
use Rattle.std.specs.Str.Parse.{digits_value, AllDigits}
use Rattle.std.proofs.lemmas.Int.Digits.{digits_value_more}
use Rattle.std.proofs.lemmas.Str.Parse.{digits_value-take-le}
use Rattle.std.proofs.lemmas.List.Sums.{AllPass-from_list_all, list_all-from_AllPass}
use Rattle.std.proofs.lemmas.List.Elements.{All-tail}
use Rattle.std.proofs.lemmas.Bool.Decides.{nat_tests}

-- a digit's value is how far it is above `0`
digit : (c : ℕ) → is_ascii_digit c ≡ true → (48 ≤ c) × (c ≤ 57) × (digit_value c ≡ c - 48)
digit c h = (grind (arith, nat_tests), grind (arith, nat_tests), grind (arith, nat_tests))

pub digits : (ds : List ℕ) → list_all is_ascii_digit ds ≡ true → AllDigits 10 ds
digits [] h = tt
digits (c ∷ cs) h =
    let pass = AllPass-from_list_all is_ascii_digit (c ∷ cs) h in
    let first = digit c (pass 0 0 (omega arith)) in
    let others = All-tail (λ d. is_ascii_digit d ≡ true) c cs pass in
    (omega arith, digits cs (list_all-from_AllPass is_ascii_digit cs others))

-- the digits up to an index, and one more
pub record OneMore (ds : List ℕ) (i : ℕ) : Type 0 where
  pub value : digits_value 10 (take (i + 1) ds) ≡ digits_value 10 (take i ds) * 10 + (get_or ds i 0 - 48)
  pub least : 48 ≤ get_or ds i 0
  pub whole : digits_value 10 (take (i + 1) ds) ≤ digits_value 10 ds

pub one_more : (ds : List ℕ) (i : ℕ) → list_all is_ascii_digit ds ≡ true → i < length ds → OneMore ds i
one_more ds i all lt =
    let here = digit (get_or ds i 0) (AllPass-from_list_all is_ascii_digit ds all i 0 lt) in
    let step = digits_value_more 10 ds i lt in
    record { value = omega arith; least = here.0; whole = digits_value-take-le 10 ds (i + 1) (omega arith) }
