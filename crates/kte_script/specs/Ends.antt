-- Where the lines of a text end. This project's own form
use denote.Ref.{Bor}
use Rattle.std.specs.Prelude.{◌≡◌, ◌==◌, ℕ, ◌+◌, Bool, List, [], ◌∷◌, length, Option, Some, None}
use Rattle.std.specs.List.{slice_split}

abbrev pub is_end : ℕ → Bool
is_end byte = byte == 10

-- the bytes between the LFs
abbrev pub parts_of : List ℕ → List (List ℕ)
parts_of bytes = slice_split is_end bytes

-- the first part, and the bytes after its LF; None where it is the last
abbrev pub FirstPart : List ℕ → List ℕ → Option (Bor (List ℕ)) → Type 0
FirstPart bytes part None = (parts_of bytes ≡ part ∷ []) × (part ≡ bytes)
FirstPart bytes part (Some rest) =
    (parts_of bytes ≡ part ∷ parts_of rest.now) × (length bytes ≡ length part + length rest.now + 1)
