-- Worked examples of the definitions, each proved by computation.
use Rattle.std.proofs.Common.{◌≡◌, [], ◌∷◌, ◌++◌, length, replicate, refl}
use Rattle.std.specs.Prelude.{codes}
use Rattle.std.specs.Char.{encode_utf8}
use Rattle.std.specs.Char.Utf16.{utf16_chars}
use Rattle.kte_text.specs.declared.primitive.Primitive.TheVariants.{Insert, Remove}
use Rattle.kte_record.specs.Grammar.{starts, finishes, wraps, unwraps, inserts, removes, spelling, field_end, version_bytes, header}
use Rattle.kte_record.specs.Transactions.{record_of, transaction, written}
use Rattle.kte_record.specs.declared.record.TheConstants.{MAX_NUMBER, MAX_TEXT_LENGTH}
use Rattle.kte_record.specs.declared.header.TheConstants.{HEADER_LENGTH}

-- the limits
greatest_number : MAX_NUMBER ≡ 2147483647
greatest_number = refl

longest_text : MAX_TEXT_LENGTH ≡ 201326592
longest_text = refl

-- the bytes of each record
start_spelled : spelling starts ≡ 0x53 ∷ []
start_spelled = refl

finish_spelled : spelling finishes ≡ 0x45 ∷ []
finish_spelled = refl

wrap_spelled : spelling (wraps 256 2147483647) ≡ 0x57 ∷ 0 ∷ 0 ∷ 1 ∷ 0 ∷ 0x7F ∷ 0xFF ∷ 0xFF ∷ 0xFF ∷ []
wrap_spelled = refl

unwrap_spelled : spelling (unwraps 1) ≡ 0x55 ∷ 0 ∷ 0 ∷ 0 ∷ 1 ∷ []
unwrap_spelled = refl

insert_spelled : spelling (inserts 0 5 (codes "!")) ≡ 0x49 ∷ 0 ∷ 0 ∷ 0 ∷ 0 ∷ 0 ∷ 0 ∷ 0 ∷ 5 ∷ 0 ∷ 0 ∷ 0 ∷ 1 ∷ 0x21 ∷ []
insert_spelled = refl

remove_spelled : spelling (removes 0 5 6) ≡ 0x52 ∷ 0 ∷ 0 ∷ 0 ∷ 0 ∷ 0 ∷ 0 ∷ 0 ∷ 5 ∷ 0 ∷ 0 ∷ 0 ∷ 6 ∷ []
remove_spelled = refl

-- a removal is written with the column at which it ends
removal_written : record_of (Remove 0 5 1) ≡ removes 0 5 6
removal_written = refl

-- where the fields end
tag_ends : field_end 0 ≡ 1
tag_ends = refl

last_number_ends : field_end 9 ≡ 13
last_number_ends = refl

-- the version, and the length of a header
version_spelled : version_bytes ≡ (0 ∷ 0 ∷ 0 ∷ 0x12 ∷ codes "Kate Swap File 2.0") ++ 0 ∷ 0 ∷ 0 ∷ 0x14 ∷ []
version_spelled = refl

header_length : length (header (replicate 20 0)) ≡ HEADER_LENGTH
header_length = refl

-- an insertion, and what takes it back
insertion_written : transaction (Insert 0 5 (codes "!") ∷ []) ≡ 0x53 ∷ (spelling (inserts 0 5 (codes "!")) ++ 0x45 ∷ [])
unfolding utf16_chars encode_utf8
insertion_written = refl

nothing_written : written (replicate 20 0) [] ≡ []
nothing_written = refl

two_written : length (written (replicate 20 0) ((Insert 0 5 (codes "!") ∷ []) ∷ (Remove 0 5 1 ∷ []) ∷ [])) ≡ 77
unfolding utf16_chars encode_utf8
two_written = refl
