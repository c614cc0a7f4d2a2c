-- Texts of whole lines. This project's own form
use Rattle.std.specs.Prelude.{◌==◌, ℕ, Bool, List, [], ◌∷◌, ◌++◌, not}
use Rattle.std.specs.List.{flat_map, list_all, count_by}

-- LF
abbrev pub is_end : ℕ → Bool
is_end byte = byte == 10

-- the bytes are part of one line: there is no LF
abbrev pub is_in_line : List ℕ → Bool
is_in_line bytes = list_all (λ byte. not (byte == 10)) bytes

-- the number of LFs
abbrev pub ends_in : List ℕ → ℕ
ends_in bytes = count_by is_end bytes

-- the lines one after another, each ended by LF
abbrev pub text_of_lines : List (List ℕ) → List ℕ
text_of_lines lines = flat_map (λ line. line ++ 10 ∷ []) lines
