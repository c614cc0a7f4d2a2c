-- A word that is spelled is read again.
use Rattle.std.proofs.Common.{◌≡◌, ℕ, ◌^◌, ◌≤◌, ◌<◌, true, false, nat_eq, List, [], ◌∷◌, ◌++◌, length, Option, Some, Ok, refl, arith}
use Rattle.std.specs.Fmt.{decimal}
use Rattle.std.specs.List.{position_or_len, list_all}
use Rattle.std.specs.Char.{is_ascii_digit, digit_value}
use Rattle.std.specs.Str.{bytes_eq}
use Rattle.std.specs.Str.Parse.{digits_value, AllDigits}
use Rattle.std.proofs.lemmas.List.{take_at, drop_at}
use Rattle.std.proofs.lemmas.Fmt.{decimal_is_IsNumeral, length-decimal-le, decimal_nonempty}
use Rattle.std.proofs.lemmas.Bool.{and_parts, lt-ltb, le-leb}
use Rattle.std.proofs.lemmas.Bool.Decides.{nat_tests}
use Rattle.kte_script.specs.declared.limits.Limits.{Limits}
use Rattle.kte_script.specs.declared.limits.Limits.TheVariants.{Script, Journal}
use Rattle.kte_script.specs.Words.{is_space, is_other, skip, word, behind, ends_here, is_number, number_of}
use Rattle.kte_script.specs.Fields.{Count, ALine, AColumn, Short, Long, most, most_digits, word_at, number_at, starts_number, spell_number}

-- a word: not empty, and without spaces
pub record IsWord (word : List ℕ) : Type 0 where
  pub some : 0 < length word
  pub whole : list_all is_other word ≡ true

up_to_space : (w rest : List ℕ) → list_all is_other w ≡ true → ends_here rest ≡ true
    → position_or_len is_space (w ++ rest) ≡ length w
up_to_space [] [] h e = refl
up_to_space [] (byte ∷ rest) h e = rw e refl
up_to_space (byte ∷ w) rest h e =
    let parts = and_parts (is_other byte) (list_all is_other w) h in
    rw (parts.0, up_to_space w rest parts.1 e) (omega arith)

pub word-of : (w rest : List ℕ) → list_all is_other w ≡ true → ends_here rest ≡ true
    → word (w ++ rest) ≡ w
unfolding word
word-of w rest h e = rw (up_to_space w rest h e) (take_at w rest (length w) refl)

pub behind-of : (w rest : List ℕ) → list_all is_other w ≡ true → ends_here rest ≡ true
    → behind (w ++ rest) ≡ rest
unfolding behind
behind-of w rest h e = rw (up_to_space w rest h e) (drop_at w rest (length w) refl)

-- no space is in front of a word
pub skip-none : (byte : ℕ) (rest : List ℕ) → is_other byte ≡ true → skip (byte ∷ rest) ≡ byte ∷ rest
unfolding skip
skip-none byte rest h = rw h refl

pub skip-one : (byte : ℕ) (rest : List ℕ) → is_other byte ≡ true
    → skip (32 ∷ byte ∷ rest) ≡ byte ∷ rest
unfolding skip
skip-one byte rest h = rw h refl

pub skip-word : (w rest : List ℕ) → IsWord w → skip (w ++ rest) ≡ w ++ rest
skip-word [] rest is = absurd (omega (arith, is.some))
skip-word (byte ∷ w) rest is =
    skip-none byte (w ++ rest) (and_parts (is_other byte) (list_all is_other w) is.whole).0

-- one space is in front of a word
pub skip-first : (w rest : List ℕ) → IsWord w → skip (32 ∷ w ++ rest) ≡ w ++ rest
skip-first [] rest is = absurd (omega (arith, is.some))
skip-first (byte ∷ w) rest is =
    skip-one byte (w ++ rest) (and_parts (is_other byte) (list_all is_other w) is.whole).0

-- the word after one space, and its value
pub meant_again : {A : Type 0} (meaning : List ℕ → Option A) (value : A) (w rest : List ℕ) → IsWord w
    → meaning w ≡ Some value → ends_here rest ≡ true
    → word_at meaning (32 ∷ w ++ rest) ≡ Ok (value, rest)
meant_again meaning value [] rest is m e = absurd (omega (arith, is.some))
meant_again meaning value (byte ∷ w) rest is m e =
    let parts = and_parts (is_other byte) (list_all is_other w) is.whole in
    let here : skip (32 ∷ byte ∷ w ++ rest) ≡ byte ∷ w ++ rest = skip-one byte (w ++ rest) parts.0 in
    let its : word (byte ∷ w ++ rest) ≡ byte ∷ w = word-of (byte ∷ w) rest is.whole e in
    let after : behind (byte ∷ w ++ rest) ≡ rest = behind-of (byte ∷ w) rest is.whole e in
    rw (here, its, m, after) refl

-- the word after one space, and the bytes after the word
pub taken : (w rest : List ℕ) → IsWord w → ends_here rest ≡ true
    → (word (skip (32 ∷ w ++ rest)) ≡ w) × (behind (skip (32 ∷ w ++ rest)) ≡ rest)
taken [] rest is e = absurd (omega (arith, is.some))
taken (byte ∷ w) rest is e =
    let parts = and_parts (is_other byte) (list_all is_other w) is.whole in
    let here : skip (32 ∷ byte ∷ w ++ rest) ≡ byte ∷ w ++ rest = skip-one byte (w ++ rest) parts.0 in
    (rw here (word-of (byte ∷ w) rest is.whole e), rw here (behind-of (byte ∷ w) rest is.whole e))

-- ---- numbers

digit_test : (c : ℕ) → digit_value c < 10 → is_ascii_digit c ≡ true
digit_test c h = grind (arith, nat_tests)

digit_other : (c : ℕ) → digit_value c < 10 → is_other c ≡ true
digit_other c h = grind (arith, nat_tests)

pub all_digits : (ds : List ℕ) → AllDigits 10 ds → list_all is_ascii_digit ds ≡ true
all_digits [] h = refl
all_digits (c ∷ cs) h = rw (digit_test c h.0, all_digits cs h.1) refl

pub all_other : (ds : List ℕ) → AllDigits 10 ds → list_all is_other ds ≡ true
all_other [] h = refl
all_other (c ∷ cs) h = rw (digit_other c h.0, all_other cs h.1) refl

pub decimal_word : (n : ℕ) → n < 2 ^ 64 → IsWord (decimal n)
decimal_word n small =
    let digits : AllDigits 10 (decimal n) = (decimal_is_IsNumeral n small).0.1 in
    record { some = decimal_nonempty n small; whole = all_other (decimal n) digits }

pub digits_start : (w more : List ℕ) → 0 < length w → AllDigits 10 w → starts_number (w ++ more) ≡ true
digits_start [] more some h = absurd (omega arith)
digits_start (c ∷ cs) more some h = digit_test c h.0

digits_first : (w more : List ℕ) → 0 < length w → AllDigits 10 w → starts_number (skip (32 ∷ w ++ more)) ≡ true
digits_first [] more some h = absurd (omega arith)
digits_first (c ∷ cs) more some h = rw (skip-one c (cs ++ more) (digit_other c h.0)) (digit_test c h.0)

-- a number begins with a digit
pub number_first : (n : ℕ) (more : List ℕ) → n < 2 ^ 64 → starts_number (skip (spell_number n ++ more)) ≡ true
number_first n more small =
    digits_first (decimal n) more (decimal_nonempty n small) (decimal_is_IsNumeral n small).0.1

no_letter : (c letter : ℕ) → digit_value c < 10 → 57 < letter → nat_eq c letter ≡ false
no_letter c letter h l = grind (arith, nat_tests)

pub digits_no_word : (w : List ℕ) (letter : ℕ) (letters : List ℕ) → 57 < letter → 0 < length w → AllDigits 10 w
    → bytes_eq w (letter ∷ letters) ≡ false
digits_no_word [] letter letters l some h = absurd (omega arith)
digits_no_word (c ∷ cs) letter letters l some h = rw (no_letter c letter h.0 l) refl

-- .. and is no word of letters
pub number_no_word : (n letter : ℕ) (letters : List ℕ) → n < 2 ^ 64 → 57 < letter
    → bytes_eq (decimal n) (letter ∷ letters) ≡ false
number_no_word n letter letters small l =
    digits_no_word (decimal n) letter letters l (decimal_nonempty n small) (decimal_is_IsNumeral n small).0.1

-- what the limits of numbers keep
pub record Limited (greatest digits : ℕ) : Type 0 where
  pub few : greatest < 10 ^ digits
  pub wide : greatest < 2 ^ 64
  pub some : 1 ≤ digits
  pub short : digits ≤ 20

pub limited : (limits : Limits) (count : Count) → Limited (most limits count) (most_digits limits)
limited Script ALine = record { few = omega arith; wide = omega arith; some = omega arith; short = omega arith }
limited Script AColumn = record { few = omega arith; wide = omega arith; some = omega arith; short = omega arith }
limited Script Short = record { few = omega arith; wide = omega arith; some = omega arith; short = omega arith }
limited Script Long = record { few = omega arith; wide = omega arith; some = omega arith; short = omega arith }
limited Journal ALine = record { few = omega arith; wide = omega arith; some = omega arith; short = omega arith }
limited Journal AColumn = record { few = omega arith; wide = omega arith; some = omega arith; short = omega arith }
limited Journal Short = record { few = omega arith; wide = omega arith; some = omega arith; short = omega arith }
limited Journal Long = record { few = omega arith; wide = omega arith; some = omega arith; short = omega arith }

few_digits : (greatest digits n : ℕ) → Limited greatest digits → n ≤ greatest → n < 10 ^ digits
few_digits greatest digits n limit le = omega (arith, limit.few)

decimal_number : (greatest digits n : ℕ) → Limited greatest digits → n ≤ greatest → is_number digits greatest (decimal n) ≡ true
unfolding is_number
decimal_number greatest digits n limit le =
    let small : n < 2 ^ 64 = omega (arith, limit.wide) in
    let is = decimal_is_IsNumeral n small in
    let all : AllDigits 10 (decimal n) = is.0.1 in
    let len : length (decimal n) ≤ digits = length-decimal-le digits n limit.some (few_digits greatest digits n limit le) small in
    let some : 0 < length (decimal n) = decimal_nonempty n small in
    let value : digits_value 10 (decimal n) ≡ n = is.1 in
    rw (lt-ltb _ _ some, le-leb _ _ len, all_digits (decimal n) all, value, le-leb _ _ le) refl

pub decimal_means : (greatest digits n : ℕ) → Limited greatest digits → n ≤ greatest → number_of digits greatest (decimal n) ≡ Some n
unfolding number_of
decimal_means greatest digits n limit le =
    rw (decimal_number greatest digits n limit le, (decimal_is_IsNumeral n (omega (arith, limit.wide))).1) refl

pub number_again : (limits : Limits) (count : Count) (n : ℕ) (rest : List ℕ) → n ≤ most limits count
    → ends_here rest ≡ true → number_at limits count (spell_number n ++ rest) ≡ Ok (n, rest)
unfolding number_at
number_again limits count n rest le e =
    let limit = limited limits count in
    meant_again (number_of (most_digits limits) (most limits count)) n (decimal n) rest
    (decimal_word n (omega (arith, limit.wide))) (decimal_means _ _ n limit le) e
