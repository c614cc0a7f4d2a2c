-- How a text stands in a file, and which files are refused.
use Rattle.std.specs.Prelude.{◌≡◌, ◌≢◌, ℕ, ◌+◌, ◌<◌, ◌≤◌, List, [], ◌∷◌, ◌++◌, length, slice_get, nat_eq, All, Some, unwrap_or, IsUtf8, if◌then◌else◌}
use Rattle.std.specs.List.{starts_with}
use Rattle.std.specs.Str.Lossy.{utf8_valid_len}
use Rattle.kte_text.specs.Units.{IsLine, utf8_of}
use Rattle.kte_text.specs.Texts.{size_of}
use Rattle.kte_text.specs.declared.TheConstants.{MAX_SIZE, MAX_FILE_LENGTH}
use Rattle.kte_text.specs.declared.loading.Eol.{Eol}
use Rattle.kte_text.specs.declared.loading.Eol.TheVariants.{Lf, CrLf, Cr}
use Rattle.kte_text.specs.declared.loading.Loaded.{Loaded}
use Rattle.kte_text.specs.declared.loading.LoadFault.{LoadFault}
use Rattle.kte_text.specs.declared.loading.LoadFault.TheVariants as fault

-- the bytes of a line end
abbrev pub end_bytes : Eol → List ℕ
end_bytes Lf = 10 ∷ []
end_bytes CrLf = 13 ∷ 10 ∷ []
end_bytes Cr = 13 ∷ []

-- the byte order mark: U+FEFF in UTF-8
abbrev pub mark_bytes : List ℕ
mark_bytes = 0xEF ∷ 0xBB ∷ 0xBF ∷ []

-- the lines in UTF-8, each but the last followed by its end
abbrev pub joined : List (List ℕ) → List Eol → List ℕ
joined [] ends = []
joined (line ∷ lines) [] = utf8_of line
joined (line ∷ lines) (end ∷ ends) = utf8_of line ++ end_bytes end ++ joined lines ends

-- no LF follows a line end that is a lone CR: the two would be one end
abbrev pub HasWholeEnds : List (List ℕ) → List Eol → Type 0
HasWholeEnds [] ends = Unit {0}
HasWholeEnds (line ∷ lines) [] = Unit {0}
HasWholeEnds (line ∷ lines) (end ∷ ends) =
    (end ≡ Cr → slice_get (joined lines ends) 0 ≢ Some 10) × HasWholeEnds lines ends

-- The file of a text: after the mark, its lines joined by line ends, which may differ. The mark is
-- there exactly where the bytes begin with it, and the kind of the first end is kept, LF where
-- there is none. Source: KTextEditor's Document, for files in UTF-8
pub record Loads (bytes : List ℕ) (loaded : Loaded) : Type 0 where
  pub ends : List Eol
  pub lines : All IsLine loaded.text
  pub between : length ends + 1 ≡ length loaded.text
  pub spelled : bytes ≡ (if loaded.bom then mark_bytes else []) ++ joined loaded.text ends
  pub whole : HasWholeEnds loaded.text ends
  pub first : loaded.eol ≡ unwrap_or (slice_get ends 0) Lf
  pub marked : loaded.bom ≡ starts_with nat_eq bytes mark_bytes

-- Why a file is refused: it is longer than any file of a text, its longest front in UTF-8 ends
-- before it does, or its text is larger than a text may be. Out of memory is no reason that a file
-- has
abbrev pub Refuses : List ℕ → LoadFault → Type 0
Refuses bytes fault.LongFile = MAX_FILE_LENGTH < length bytes
Refuses bytes (fault.NotUtf8 at) =
    (length bytes ≤ MAX_FILE_LENGTH) × ¬ (IsUtf8 bytes) × (at ≡ utf8_valid_len bytes)
Refuses bytes (fault.TooLarge size) = (length bytes ≤ MAX_FILE_LENGTH)
    × ((loaded : Loaded) × Loads bytes loaded × (size ≡ size_of loaded.text) × (MAX_SIZE < size))
Refuses bytes fault.NoMemory = ⊥
