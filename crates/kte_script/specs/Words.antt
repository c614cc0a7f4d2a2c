-- The words of a line: what stands between its spaces. This project's own
use Rattle.std.specs.Prelude.{◌==◌, ℕ, Bool, true, List, [], ◌∷◌, length, take, drop, nat_lt, nat_le, ◌&&◌, not, Option, Some, None, if◌then◌else◌}
use Rattle.std.specs.List.{position_or_len, list_all}
use Rattle.std.specs.Char.{is_ascii_digit}
use Rattle.std.specs.Str.Parse.{digits_value}

-- only the space parts words: a tab belongs to its word
abbrev pub is_space : ℕ → Bool
is_space byte = byte == 32

abbrev pub is_other : ℕ → Bool
is_other byte = not (byte == 32)

-- the bytes from the first word on
unfoldable pub skip : List ℕ → List ℕ
skip bytes = drop (position_or_len is_other bytes) bytes

-- the word in front: up to the first space, or to the end
unfoldable pub word : List ℕ → List ℕ
word bytes = take (position_or_len is_space bytes) bytes

-- the bytes after it
unfoldable pub behind : List ℕ → List ℕ
behind bytes = drop (position_or_len is_space bytes) bytes

-- a word ends before these bytes: there are none, or a space is first
abbrev pub ends_here : List ℕ → Bool
ends_here [] = true
ends_here (byte ∷ bytes) = byte == 32

-- a number: at least one decimal digit and at most so many, of at most this value
unfoldable pub is_number : ℕ → ℕ → List ℕ → Bool
is_number digits most word =
    nat_lt 0 (length word) && nat_le (length word) digits && list_all is_ascii_digit word
    && nat_le (digits_value 10 word) most

-- the number that a word is, if it is one of at most so many digits and at most this value
unfoldable pub number_of : ℕ → ℕ → List ℕ → Option ℕ
number_of digits most word =
    if is_number digits most word then Some (digits_value 10 word) else None
