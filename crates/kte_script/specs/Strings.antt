-- Strings: text between two quotation marks, with escapes. This project's own form
use Rattle.std.specs.Prelude.{◌==◌, ℕ, ◌+◌, ◌*◌, ◌-◌, ◌/◌, ◌%◌, Bool, List, [], ◌∷◌, ◌++◌, length, nat_lt, nat_le, ◌&&◌, ◌||◌, not, map, Option, Some, None, if◌then◌else◌}
use Rattle.std.specs.Option.{option_and_then}
use Rattle.std.specs.List.{flat_map, join_with_byte, list_any}
use Rattle.std.specs.Char.{is_ascii_digit}
use Rattle.std.specs.Str.{is_utf8}
use Rattle.kte_text.specs.Units.{utf8_of, is_line_end}
use Rattle.kte_text.specs.Reading.{utf16_of}
use Rattle.kte_text.specs.Texts.{size_of}
use Rattle.kte_text.specs.declared.TheConstants.{MAX_SIZE}
use Rattle.kte_script.specs.Ends.{parts_of}

-- a byte that stands for itself: no control character but the tab, no quotation mark, no backslash
abbrev pub is_plain : ℕ → Bool
is_plain byte = (nat_le 32 byte || byte == 9) && not (byte == 34) && not (byte == 92)

-- a control character that is written by its code; LF and CR are not
abbrev pub is_coded : ℕ → Bool
is_coded byte = nat_lt byte 32 && not (byte == 10) && not (byte == 13)

-- the value of a lower-case hexadecimal digit
abbrev pub hex_value : ℕ → Option ℕ
hex_value byte =
    if is_ascii_digit byte then Some (byte - 48)
    else if nat_le 97 byte && nat_le byte 102 then Some (byte - 87)
    else None

-- where in a string: between two characters, after `\`, after `\x`, after the first digit of a code
pub data Mode : Type 0 where
  Plain : Mode
  Escape : Mode
  Code : Mode
  Digit : ℕ → Mode

-- what a string holds, without its escapes, and the bytes after its closing mark
pub record Quoted : Type 0 where
  pub text : List ℕ
  pub rest : List ℕ

abbrev pub with_byte : ℕ → Option Quoted → Option Quoted
with_byte byte None = None
with_byte byte (Some quoted) = Some (record { text = byte ∷ quoted.text; rest = quoted.rest })

-- the string whose opening mark stands before these bytes: it goes to its first mark that is not
-- escaped
unfoldable pub string_from : Mode → List ℕ → Option Quoted
string_from _ [] = None
string_from Plain (byte ∷ bytes) =
    if byte == 34 then Some (record { text = []; rest = bytes })
    else if byte == 92 then string_from Escape bytes
    else if is_plain byte then with_byte byte (string_from Plain bytes)
    else None
string_from Escape (byte ∷ bytes) =
    if byte == 110 then with_byte 10 (string_from Plain bytes)
    else if byte == 116 then with_byte 9 (string_from Plain bytes)
    else if byte == 92 then with_byte 92 (string_from Plain bytes)
    else if byte == 34 then with_byte 34 (string_from Plain bytes)
    else if byte == 120 then string_from Code bytes
    else None
string_from Code (byte ∷ bytes) =
    option_and_then (λ high. string_from (Digit high) bytes) (hex_value byte)
string_from (Digit high) (byte ∷ bytes) =
    option_and_then
    (λ low. if is_coded (16 * high + low) then with_byte (16 * high + low) (string_from Plain bytes)
    else None)
    (hex_value byte)

-- the string in front of these bytes
unfoldable pub string_at : List ℕ → Option Quoted
string_at [] = None
string_at (byte ∷ bytes) = if byte == 34 then string_from Plain bytes else None

-- the line that bytes are, if they are UTF-8 and no line end is among them
unfoldable pub line_in : List ℕ → Option (List ℕ)
line_in bytes =
    if is_utf8 bytes && not (list_any is_line_end bytes) then Some (utf16_of bytes) else None

abbrev pub with_line : Option (List ℕ) → Option (List (List ℕ)) → Option (List (List ℕ))
with_line None lines = None
with_line (Some line) None = None
with_line (Some line) (Some lines) = Some (line ∷ lines)

-- the lines that these parts are, if each of them is one
abbrev pub lines_in : List (List ℕ) → Option (List (List ℕ))
lines_in [] = Some []
lines_in (part ∷ parts) = with_line (line_in part) (lines_in parts)

-- lines that are not too many and not too long for a text
abbrev pub small : Option (List (List ℕ)) → Option (List (List ℕ))
small None = None
small (Some lines) = if nat_le (size_of lines) MAX_SIZE then Some lines else None

-- the text that a string holds: the lines between its LFs, of at most the greatest size
unfoldable pub text_in : List ℕ → Option (List (List ℕ))
text_in bytes = small (lines_in (parts_of bytes))

abbrev pub some_units : Option (List ℕ) → Option (List ℕ)
some_units None = None
some_units (Some line) = if nat_lt 0 (length line) then Some line else None

-- the line that a string holds, if it is one and not empty
unfoldable pub pattern_in : List ℕ → Option (List ℕ)
pattern_in bytes = some_units (line_in bytes)

-- ---- spelling

abbrev pub hex_digit : ℕ → ℕ
hex_digit n = if nat_lt n 10 then 48 + n else 87 + n

-- the canonical spelling of a byte of a string
unfoldable pub spell_byte : ℕ → List ℕ
spell_byte byte =
    if byte == 10 then 92 ∷ 110 ∷ []
    else if byte == 9 then 92 ∷ 116 ∷ []
    else if byte == 34 then 92 ∷ 34 ∷ []
    else if byte == 92 then 92 ∷ 92 ∷ []
    else if nat_lt byte 32 then 92 ∷ 120 ∷ hex_digit (byte / 16) ∷ hex_digit (byte % 16) ∷ []
    else byte ∷ []

-- the lines of a text in UTF-8, an LF between each two
abbrev pub utf8_of_text : List (List ℕ) → List ℕ
utf8_of_text text = join_with_byte 10 (map utf8_of text)

-- the canonical spelling of a text as a string, a space before it
unfoldable pub spell_text : List (List ℕ) → List ℕ
spell_text text = 32 ∷ 34 ∷ flat_map spell_byte (utf8_of_text text) ++ 34 ∷ []
