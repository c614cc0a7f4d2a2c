-- How the lines of a file are found, character by character.
use Rattle.std.specs.Prelude.{ℕ, ◌+◌, Bool, true, false, ◌==◌, nat_lt, ◌&&◌, List, [], ◌∷◌, ◌++◌, slice_get, drop, unwrap_or, nat_eq, if◌then◌else◌}
use Rattle.std.specs.Char.Escape.{encode_utf16}
use Rattle.std.specs.Str.{chars}
use Rattle.std.specs.List.{flat_map, starts_with}
use Rattle.kte_text.specs.Files.{mark_bytes}
use Rattle.kte_text.specs.declared.loading.Eol.{Eol}
use Rattle.kte_text.specs.declared.loading.Eol.TheVariants.{Lf, CrLf, Cr}

-- the UTF-16 of a text in UTF-8
abbrev pub utf16_of : List ℕ → List ℕ
utf16_of bytes = flat_map encode_utf16 (chars bytes)

-- these units stand in front of the first line
abbrev pub onto_first_line : List ℕ → List (List ℕ) → List (List ℕ)
onto_first_line units [] = units ∷ []
onto_first_line units (line ∷ lines) = (units ++ line) ∷ lines

-- the lines of these characters; an LF at once after a CR belongs to the end that the CR began
abbrev pub lines_after : Bool → List ℕ → List (List ℕ)
lines_after after_cr [] = [] ∷ []
lines_after after_cr (c ∷ cs) =
    if c == 10 then (if after_cr then lines_after false cs else [] ∷ lines_after false cs)
    else (if c == 13 then [] ∷ lines_after true cs
    else onto_first_line (encode_utf16 c) (lines_after false cs))

-- the lines of a text in UTF-8
abbrev pub lines_of : List ℕ → List (List ℕ)
lines_of bytes = lines_after false (chars bytes)

-- the end that a CR begins before these characters or bytes
abbrev pub end_of_cr : List ℕ → Eol
end_of_cr [] = Cr
end_of_cr (c ∷ cs) = if c == 10 then CrLf else Cr

-- the end that stands in front of these characters or bytes
abbrev pub end_of : List ℕ → Eol
end_of [] = Lf
end_of (c ∷ cs) = if c == 13 then end_of_cr cs else Lf

-- the ends of the lines of these characters
abbrev pub ends_after : Bool → List ℕ → List Eol
ends_after after_cr [] = []
ends_after after_cr (c ∷ cs) =
    if c == 10 then (if after_cr then ends_after false cs else Lf ∷ ends_after false cs)
    else (if c == 13 then end_of_cr cs ∷ ends_after true cs else ends_after false cs)

-- the first line end of a text in UTF-8, LF where there is none
abbrev pub first_end : List ℕ → Eol
first_end bytes = unwrap_or (slice_get (ends_after false (chars bytes)) 0) Lf

-- how many bytes the mark has in front of a file
abbrev pub mark_len : List ℕ → ℕ
mark_len bytes = if starts_with nat_eq bytes mark_bytes then 3 else 0

-- what a byte of a text in UTF-8 adds to the text's size: one for the first byte of a character of
-- one unit and for a line end, two for the first byte of a character of two units
abbrev pub byte_size : Bool → ℕ → ℕ
byte_size after_cr byte =
    if nat_lt byte 0x80 then (if after_cr && byte == 10 then 0 else 1)
    else (if nat_lt byte 0xC0 then 0 else (if nat_lt byte 0xF0 then 1 else 2))

-- the size of the text of these bytes, of which an LF in front may belong to a CR before them
abbrev pub size_after : Bool → List ℕ → ℕ
size_after after_cr [] = 0
size_after after_cr (byte ∷ bytes) = byte_size after_cr byte + size_after (byte == 13) bytes

-- the size of a text in UTF-8
abbrev pub text_size : List ℕ → ℕ
text_size bytes = size_after false bytes

-- the size of the text of a file
abbrev pub file_size : List ℕ → ℕ
file_size bytes = text_size (drop (mark_len bytes) bytes)
