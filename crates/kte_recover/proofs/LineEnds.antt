-- The bytes of a line hold no line end.
use Rattle.std.proofs.Common.{◌≡◌, ◌<◌, ℕ, zero, suc, Bool, true, false, List, [], ◌∷◌, length, get_or, Some, ◌∙◌, arith}
use Rattle.std.specs.List.{list_any, position}
use Rattle.std.proofs.lemmas.Bool.{or_parts}
use Rattle.std.proofs.lemmas.List.Quantifiers.{position-Some}
use Rattle.std.specs.Char.Utf16.{utf16_lossy_chars}
use Rattle.kte_text.specs.Units.{IsLine, is_line_end, utf8_of}
use Rattle.kte_text.proofs.CharLemmas.{no_ends-line, ends-encodes, scalars-line}

fails_at : (p : ℕ → Bool) (xs : List ℕ) (i : ℕ) → list_any p xs ≡ false → i < length xs → p (get_or xs i 0) ≡ false
fails_at p [] i h lt = absurd (omega (arith, lt))
fails_at p (x ∷ xs) zero h lt = (or_parts (p x) (list_any p xs) h).0
fails_at p (x ∷ xs) (suc i) h lt = fails_at p xs i (or_parts (p x) (list_any p xs) h).1 (omega (arith, lt))

none_passes : (p : ℕ → Bool) (xs : List ℕ) (n : ℕ) → list_any p xs ≡ false → position p xs ≡ Some n → ⊥
none_passes p xs n h e =
    let at = position-Some p xs n 0 e in
    let no = fails_at p xs n h at.0 in
    let yes = at.1 in
    absurd (cc)

pub no_end : (units : List ℕ) (n : ℕ) → IsLine units → position is_line_end (utf8_of units) ≡ Some n → ⊥
no_end units n line e =
    none_passes is_line_end (utf8_of units) n
    (ends-encodes (utf16_lossy_chars units) (scalars-line units line) ∙ no_ends-line units line) e
