-- Worked examples of the definitions.
use Rattle.std.proofs.Common.{◌≡◌, zero, suc, true, false, [], ◌∷◌, refl, arith}
use Rattle.kte_text.specs.Words.{matches}
use Rattle.kte_find.specs.declared.found.TheConstants.{MAX_FINDINGS}
use Rattle.kte_place.specs.Place.{at}
use Rattle.kte_find.specs.OnLine.{EachUnit, is_blank, has_blank_before, IsBlankEnd, IsBeyond}
use Rattle.kte_find.specs.Brackets.{placed, is_bracket, closes, Balanced}
use Rattle.kte_find.specs.Brackets.Balanced.{empty, plain, nested}

greatest_number : MAX_FINDINGS ≡ 4096
greatest_number = refl

-- a space and a tab are blanks, a no-break space is not
blanks : is_blank 32 ≡ true
blanks = refl

tab_is_blank : is_blank 9 ≡ true
tab_is_blank = refl

no_break_space_is_no_blank : is_blank 160 ≡ false
no_break_space_is_no_blank = refl

-- the unit before the first column
nothing_before_a_line : has_blank_before (32 ∷ []) 0 ≡ false
nothing_before_a_line = refl

-- a word at the line's end stands by itself, and one before U+00E9 does not
word_at_the_end : matches false true (97 ∷ []) (98 ∷ 32 ∷ 97 ∷ []) 2 ≡ true
word_at_the_end = refl

word_before_a_letter : matches false true (97 ∷ []) (97 ∷ 233 ∷ []) 0 ≡ false
word_before_a_letter = refl

-- `a` and a space and a tab
blank_end : IsBlankEnd (97 ∷ 32 ∷ 9 ∷ []) 1 3
blank_end = record { some = omega arith; whole = refl; blank = each; first = refl } where
  each : EachUnit is_blank (97 ∷ 32 ∷ 9 ∷ []) 1 3
  each zero from to = absurd (omega arith)
  each (suc zero) from to = refl
  each (suc (suc zero)) from to = refl
  each (suc (suc (suc n))) from to = absurd (omega arith)

-- what a line of three units has beyond two
beyond : IsBeyond 2 (97 ∷ 98 ∷ 99 ∷ []) 2 3
beyond = record { some = omega arith; whole = refl; first = refl }

-- `(` is closed by `)` and by no other bracket
same_kind : closes 40 41 ≡ true
same_kind = refl

other_kind : closes 40 93 ≡ false
other_kind = refl

a_letter_is_no_bracket : is_bracket 97 ≡ false
a_letter_is_no_bracket = refl

-- the units of the lines `a`, an empty one, and `(`
three_lines : placed ((97 ∷ []) ∷ [] ∷ (40 ∷ []) ∷ [])
    ≡ (record { place = at 0 0; unit = 97 }) ∷ (record { place = at 2 0; unit = 40 }) ∷ []
three_lines = refl

-- `(a[])` over two lines is balanced
balanced : Balanced (placed ((40 ∷ 97 ∷ []) ∷ (91 ∷ 93 ∷ 41 ∷ []) ∷ []))
balanced =
    nested (record { place = at 0 0; unit = 40 }) (record { place = at 1 2; unit = 41 }) _ [] refl
    (plain (record { place = at 0 1; unit = 97 }) _ refl
    (nested (record { place = at 1 0; unit = 91 }) (record { place = at 1 1; unit = 93 }) [] [] refl empty empty))
    empty
