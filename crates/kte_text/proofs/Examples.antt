-- Worked examples of the definitions, each proved by computation.
use Rattle.std.proofs.Common.{◌≡◌, ℕ, true, false, List, [], ◌∷◌, ◌++◌, Option, Some, None, refl}
use Rattle.std.specs.Prelude.{codes}
use Rattle.std.specs.Char.{encode_utf8}
use Rattle.std.specs.Char.Utf16.{utf16_chars, has_unpaired_surrogate}
use Rattle.std.specs.Fmt.{digits}
use Rattle.kte_text.specs.Units.{splits_pair, utf8_of}
use Rattle.kte_text.specs.Texts.{size_of}
use Rattle.kte_text.specs.Primitives.{after, after_all, FitInTurn, is_empty, misfit, oversize}
use Rattle.kte_text.specs.Saving.{bytes_of}
use Rattle.kte_text.specs.Digests.{blob}
use Rattle.kte_text.specs.Words.{is_word_unit, matches}
use Rattle.kte_text.specs.declared.TheConstants.{MAX_SIZE, MAX_FILE_LENGTH}
use Rattle.kte_text.specs.declared.loading.Eol.TheVariants.{Lf, CrLf, Cr}
use Rattle.kte_text.specs.declared.primitive.Primitive.TheVariants.{Wrap, Unwrap, Insert, Remove}
use Rattle.kte_text.specs.declared.primitive.Misfit.{Misfit}
use Rattle.kte_text.specs.declared.primitive.Misfit.TheVariants.{NoLine, NoColumn, SplitsPair, FirstLine, TooLarge}

-- the limits
greatest_size : MAX_SIZE ≡ 67108864
greatest_size = refl

longest_file : MAX_FILE_LENGTH ≡ 201326595
longest_file = refl

-- the two units of U+1F600 belong together, in this order
paired : has_unpaired_surrogate (0xD83D ∷ 0xDE00 ∷ []) ≡ false
unfolding utf16_chars
paired = refl

turned : has_unpaired_surrogate (0xDE00 ∷ 0xD83D ∷ []) ≡ true
unfolding utf16_chars
turned = refl

-- what the primitives make of a text
wrapped : after (Wrap 0 1) (codes "ab" ∷ []) ≡ codes "a" ∷ codes "b" ∷ []
wrapped = refl

unwrapped : after (Unwrap 1) (codes "abc" ∷ codes "de" ∷ []) ≡ codes "abcde" ∷ []
unwrapped = refl

inserted_in_turn : after_all (Wrap 0 2 ∷ Insert 1 0 (codes "-") ∷ []) (codes "abc" ∷ []) ≡ codes "ab" ∷ codes "-c" ∷ []
inserted_in_turn = refl

removed : after (Remove 1 1 2) ([] ∷ codes "abcd" ∷ []) ≡ [] ∷ codes "ad" ∷ []
removed = refl

-- what does not fit, and the first cause
fits_at_the_end : misfit (Insert 0 5 (codes "!")) (codes "hello" ∷ [] ∷ []) ≡ None
fits_at_the_end = refl

no_line : misfit (Insert 2 0 []) (codes "hello" ∷ [] ∷ []) ≡ Some (NoLine 2)
no_line = refl

both_columns_beyond : misfit (Remove 0 4 1) (codes "abc" ∷ []) ≡ Some (NoColumn 0 4)
both_columns_beyond = refl

column_before_pair : misfit (Remove 0 1 2) ((0xD83D ∷ 0xDE00 ∷ []) ∷ []) ≡ Some (NoColumn 0 3)
column_before_pair = refl

split_pair : misfit (Wrap 0 1) ((0xD83D ∷ 0xDE00 ∷ []) ∷ []) ≡ Some (SplitsPair 0 1)
split_pair = refl

first_line : misfit (Unwrap 0) (codes "ab" ∷ []) ≡ Some FirstLine
first_line = refl

too_large : oversize 67108865 ≡ Some (TooLarge 67108865)
too_large = refl

-- saved files
characters_in_utf8 : utf8_of (0x61 ∷ 0xE9 ∷ 0x20AC ∷ 0xD83D ∷ 0xDE00 ∷ [])
    ≡ 0x61 ∷ 0xC3 ∷ 0xA9 ∷ 0xE2 ∷ 0x82 ∷ 0xAC ∷ 0xF0 ∷ 0x9F ∷ 0x98 ∷ 0x80 ∷ []
unfolding utf16_chars encode_utf8
characters_in_utf8 = refl

saved_with_mark : bytes_of (codes "a" ∷ codes "b" ∷ codes "c" ∷ []) CrLf true
    ≡ 0xEF ∷ 0xBB ∷ 0xBF ∷ 0x61 ∷ 0x0D ∷ 0x0A ∷ 0x62 ∷ 0x0D ∷ 0x0A ∷ 0x63 ∷ []
unfolding utf16_chars encode_utf8
saved_with_mark = refl

saved_with_second_mark : bytes_of ((0xFEFF ∷ []) ∷ [] ∷ []) Lf false ≡ 0xEF ∷ 0xBB ∷ 0xBF ∷ 0xEF ∷ 0xBB ∷ 0xBF ∷ 0x0A ∷ []
unfolding utf16_chars encode_utf8
saved_with_second_mark = refl

hashed : blob (codes "hello\n") ≡ codes "blob 6" ++ 0 ∷ codes "hello\n"
unfolding digits
hashed = refl

-- words
underscore : is_word_unit 95 ≡ true
underscore = refl

hyphen : is_word_unit 45 ≡ false
hyphen = refl

whole_word : matches true true (codes "foo") (codes "foo Foo food") 4 ≡ true
whole_word = refl

part_of_a_word : matches false true (codes "foo") (codes "foo Foo food") 8 ≡ false
part_of_a_word = refl
