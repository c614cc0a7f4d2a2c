-- A string that is spelled is read again.
use Rattle.std.proofs.Common.{◌≡◌, ◌≢◌, ℕ, ◌+◌, ◌*◌, ◌/◌, ◌%◌, ◌≤◌, ◌<◌, Bool, true, false, eqb, leb, ltb, List, [], ◌∷◌, ◌++◌, Option, Some, Ok, refl, ap, ◌∙◌, append_assoc, arith, inl, inr, ◌⊎◌}
use Rattle.std.specs.List.{flat_map, list_any}
use Rattle.std.proofs.lemmas.Bool.{cases_lt, lt-ltb, le-ltb, le-leb, eqb-true, or_parts}
use Rattle.std.proofs.lemmas.Bool.Decides.{nat_tests}
use Rattle.std.proofs.lemmas.List.Elements.{All-nil, All-cons}
use Rattle.kte_text.specs.Units.{IsLine, utf8_of}
use Rattle.kte_text.specs.Texts.{IsText}
use Rattle.kte_script.specs.Limits.{IsPattern}
use Rattle.kte_script.specs.Words.{skip, ends_here}
use Rattle.kte_script.specs.Strings.{Plain, Code, hex_value, is_coded, with_byte, string_from, string_at, hex_digit, spell_byte, utf8_of_text, text_in, pattern_in, spell_text}
use Rattle.kte_script.specs.Fields.{quoted_at, text_at, pattern_at, spell_pattern}
use Rattle.kte_script.proofs.AgainLemmas.{skip-one}
use Rattle.kte_script.proofs.PartLemmas.{is_cr, no_cr-text, text_in-utf8_of_text, pattern_in-utf8_of}

digit_again : (n : ℕ) → n < 16 → hex_value (hex_digit n) ≡ Some n
digit_again n h = grind (arith, nat_tests)

pub code_again : (byte : ℕ) (more : List ℕ) → byte < 32 → byte ≢ 13 → byte ≢ 10
    → string_from Code (hex_digit (byte / 16) ∷ hex_digit (byte % 16) ∷ more)
    ≡ with_byte byte (string_from Plain more)
unfolding string_from
code_again byte more small not13 not10 =
    let high = digit_again (byte / 16) (omega arith) in
    let low = digit_again (byte % 16) (omega arith) in
    let same : 16 * (byte / 16) + byte % 16 ≡ byte = omega arith in
    let test : is_coded byte ≡ true = grind (arith, nat_tests) in
    rw (high, low, same, test) refl

decide : (b : Bool) → (b ≡ true) ⊎ (b ≡ false)
decide true = inl refl
decide false = inr refl

unequal : (a b : ℕ) → eqb a b ≡ false → a ≢ b
unequal a b e is = absurd (grind (arith, nat_tests))

-- the byte is read from its spelling
abbrev IsRead : ℕ → List ℕ → Type 0
IsRead byte more = string_from Plain (spell_byte byte ++ more) ≡ with_byte byte (string_from Plain more)

low_again : (byte : ℕ) (more : List ℕ) → byte ≢ 13 → eqb byte 10 ≡ false → eqb byte 9 ≡ false
    → eqb byte 34 ≡ false → eqb byte 92 ≡ false → byte < 32 → IsRead byte more
unfolding string_from spell_byte
low_again byte more not13 e10 e9 e34 e92 small =
    let test : ltb byte 32 ≡ true = lt-ltb _ _ small in
    rw (e10, e9, e34, e92, test) (code_again byte more small not13 (unequal byte 10 e10))

high_again : (byte : ℕ) (more : List ℕ) → eqb byte 10 ≡ false → eqb byte 9 ≡ false
    → eqb byte 34 ≡ false → eqb byte 92 ≡ false → 32 ≤ byte → IsRead byte more
unfolding string_from spell_byte
high_again byte more e10 e9 e34 e92 big =
    let test : ltb byte 32 ≡ false = le-ltb _ _ big in
    let high : leb 32 byte ≡ true = le-leb _ _ big in
    rw (e10, e9, e34, e92, test, e34, e92, high) refl

escape_again : (byte : ℕ) (more : List ℕ) → (byte ≡ 10) ⊎ (byte ≡ 9) ⊎ (byte ≡ 34) ⊎ (byte ≡ 92)
    → IsRead byte more
unfolding string_from spell_byte
escape_again byte more (inl e) = rw e refl
escape_again byte more (inr (inl e)) = rw e refl
escape_again byte more (inr (inr (inl e))) = rw e refl
escape_again byte more (inr (inr (inr e))) = rw e refl

byte_again : (byte : ℕ) (more : List ℕ) → byte ≢ 13 → IsRead byte more
byte_again byte more not13 =
    elim (decide (eqb byte 10)) [
      | inl e ↦ escape_again byte more (inl (eqb-true _ _ e))
      | inr e10 ↦ elim (decide (eqb byte 9)) [
        | inl e ↦ escape_again byte more (inr (inl (eqb-true _ _ e)))
        | inr e9 ↦ elim (decide (eqb byte 34)) [
          | inl e ↦ escape_again byte more (inr (inr (inl (eqb-true _ _ e))))
          | inr e34 ↦ elim (decide (eqb byte 92)) [
            | inl e ↦ escape_again byte more (inr (inr (inr (eqb-true _ _ e))))
            | inr e92 ↦ elim (cases_lt byte 32) [
              | inl small ↦ low_again byte more not13 e10 e9 e34 e92 small
              | inr big ↦ high_again byte more e10 e9 e34 e92 big
            ]
          ]
        ]
      ]
    ]

no_cr : (byte : ℕ) → is_cr byte ≡ false → byte ≢ 13
no_cr byte h is = absurd (grind (arith, nat_tests))

-- all bytes, and the closing mark
bytes_again : (bytes rest : List ℕ) → list_any is_cr bytes ≡ false
    → string_from Plain (flat_map spell_byte bytes ++ 34 ∷ rest) ≡ Some (record { text = bytes; rest = rest })
unfolding string_from
bytes_again [] rest h = refl
bytes_again (byte ∷ bytes) rest h =
    let p = or_parts (is_cr byte) (list_any is_cr bytes) h in
    let first : string_from Plain (flat_map spell_byte (byte ∷ bytes) ++ 34 ∷ rest) ≡ with_byte byte (string_from Plain (flat_map spell_byte bytes ++ 34 ∷ rest)) =
    rw append_assoc (byte_again byte (flat_map spell_byte bytes ++ 34 ∷ rest) (no_cr byte p.0)) in
    first ∙ ap (with_byte byte) (bytes_again bytes rest p.1)

-- what holds no CR, and has a value
quoted_again : {A : Type 0} (meaning : List ℕ → Option A) (bytes rest : List ℕ) (value : A)
    → list_any is_cr bytes ≡ false → meaning bytes ≡ Some value → ends_here rest ≡ true
    → quoted_at meaning ((32 ∷ 34 ∷ flat_map spell_byte bytes ++ 34 ∷ []) ++ rest) ≡ Ok (value, rest)
unfolding string_at
quoted_again meaning bytes rest value none m e =
    let inside : List ℕ = flat_map spell_byte bytes in
    let same : (inside ++ 34 ∷ []) ++ rest ≡ inside ++ 34 ∷ rest = simp append_assoc in
    let from : skip (32 ∷ 34 ∷ inside ++ 34 ∷ rest) ≡ 34 ∷ inside ++ 34 ∷ rest = skip-one 34 (inside ++ 34 ∷ rest) refl in
    rw (same, from, bytes_again bytes rest none, m, e) refl

pub text_again : (text : List (List ℕ)) (rest : List ℕ) → IsText text → ends_here rest ≡ true
    → text_at (spell_text text ++ rest) ≡ Ok (text, rest)
unfolding text_at spell_text
text_again text rest is e =
    quoted_again text_in (utf8_of_text text) rest text (no_cr-text text is.whole) (text_in-utf8_of_text text is) e

pub pattern_again : (units rest : List ℕ) → IsPattern units → ends_here rest ≡ true
    → pattern_at (spell_pattern units ++ rest) ≡ Ok (units, rest)
unfolding pattern_at spell_text
pattern_again units rest is e =
    let whole = All-cons IsLine units [] is.whole (All-nil IsLine) in
    quoted_again pattern_in (utf8_of units) rest units (no_cr-text (units ∷ []) whole) (pattern_in-utf8_of units is) e
