-- Short words for the readers of strings.
use Rattle.std.specs.Prelude.{◌≡◌, ◌==◌, ℕ, ◌<◌, false, List, [], ◌∷◌, length}
use Rattle.kte_script.specs.Strings.{Mode, Plain, with_byte, string_from}

-- the bytes begin, in this mode, with a spelling of this byte
abbrev pub Takes : Mode → List ℕ → ℕ → List ℕ → Type 0
Takes mode bytes byte rest =
    (string_from mode bytes ≡ with_byte byte (string_from Plain rest)) × (length rest < length bytes)

-- the bytes do not begin with a quotation mark
abbrev pub StartsOtherwise : List ℕ → Type 0
StartsOtherwise [] = Unit {0}
StartsOtherwise (byte ∷ bytes) = byte == 34 ≡ false
