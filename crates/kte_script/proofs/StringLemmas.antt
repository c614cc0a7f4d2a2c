-- Reading a string byte by byte.
use Rattle.std.proofs.Common.{◌≡◌, ℕ, ◌+◌, ◌<◌, Bool, true, false, ltb, nat_eq, suc, length, take, drop, List, [], ◌∷◌, ◌++◌, Option, None, Some, refl, sym, ap, ◌∙◌, append_assoc, append-nil, arith, inl, inr, ◌⊎◌}
use Rattle.std.specs.Prelude.{not, ◌&&◌}
use Rattle.std.specs.Option.{option_and_then}
use Rattle.std.specs.List.{position, position_or_len, list_any}
use Rattle.std.specs.Str.{is_utf8, IsUtf8}
use Rattle.std.proofs.lemmas.Bool.{or_parts, ltb-true}
use Rattle.std.proofs.lemmas.Bool.Decides.{nat_tests}
use Rattle.std.proofs.lemmas.Str.{is_utf8-from_IsUtf8, IsUtf8-from_is_utf8}
use Rattle.kte_text.specs.Units.{IsLine, is_line_end, utf8_of}
use Rattle.kte_text.proofs.CharLemmas.{utf16_of-utf8_of, IsUtf8-utf8_of, ends-encodes, no_ends-line, scalars-line}
use Rattle.std.specs.Char.Utf16.{utf16_lossy_chars}
use Rattle.kte_script.specs.Strings.{Plain, Code, Quoted, is_plain, hex_value, with_byte, string_from, line_in}
use Rattle.kte_script.proofs.WordLemmas.{found}

-- these bytes, and those that are still read
abbrev pub with_front : List ℕ → Option Quoted → Option Quoted
with_front front None = None
with_front front (Some quoted) = Some (record { text = front ++ quoted.text; rest = quoted.rest })

pub at_start : (read : Option Quoted) → with_front [] read ≡ read
at_start None = refl
at_start (Some quoted) = refl

pub one_byte : (front : List ℕ) (byte : ℕ) (read : Option Quoted)
    → with_front (front ++ byte ∷ []) read ≡ with_front front (with_byte byte read)
one_byte front byte None = refl
one_byte front byte (Some quoted) = simp append_assoc

-- fewer than two bytes are no code
never : {A B : Type 0} (o : Option A) → option_and_then {T = A} {U = B} (λ _. None) o ≡ None
never None = refl
never (Some x) = refl

pub too_short : (bytes : List ℕ) → length bytes < 2 → string_from Code bytes ≡ None
unfolding string_from
too_short [] h = refl
too_short (a ∷ []) h = never (hex_value a)
too_short (a ∷ b ∷ bytes) h = absurd (omega arith)

-- the closing mark ends the string
pub closes : (front bytes rest after : List ℕ)
    → with_front front (string_from Plain rest) ≡ string_from Plain bytes → rest ≡ 34 ∷ after
    → string_from Plain bytes ≡ Some (record { text = front; rest = after })
unfolding string_from
closes front bytes rest after so_far e =
    let last : with_front front (string_from Plain rest) ≡ Some (record { text = front; rest = after }) =
    rw e (ap (λ (text : List ℕ). Some (record { text = text; rest = after })) (append-nil front)) in
    sym so_far ∙ last

-- ---- bytes that stand for themselves

abbrev pub is_special : ℕ → Bool
is_special byte = not (is_plain byte)

decide : (b : Bool) → (b ≡ true) ⊎ (b ≡ false)
decide true = inl refl
decide false = inr refl

-- a byte that stands for itself is none of the others
plain_is_no_mark : (byte : ℕ) → is_plain byte ≡ true → nat_eq byte 34 ≡ false
plain_is_no_mark byte h = grind (arith, nat_tests)

plain_is_no_escape : (byte : ℕ) → is_plain byte ≡ true → nat_eq byte 92 ≡ false
plain_is_no_escape byte h = grind (arith, nat_tests)

pub first_plain : (byte : ℕ) (bytes : List ℕ) → is_plain byte ≡ true
    → string_from Plain (byte ∷ bytes) ≡ with_byte byte (string_from Plain bytes)
unfolding string_from
first_plain byte bytes h =
    let mark = plain_is_no_mark byte h in
    let escape = plain_is_no_escape byte h in
    let test = rw (mark, escape) at h in
    rw (mark, escape, test) refl

front_byte : (byte : ℕ) (front : List ℕ) (read : Option Quoted)
    → with_byte byte (with_front front read) ≡ with_front (byte ∷ front) read
front_byte byte front None = refl
front_byte byte front (Some quoted) = refl

one : (n : ℕ) → 1 + n ≡ suc n
one n = omega arith

-- bytes in front that stand for themselves, and what follows them
plain_front : (bytes : List ℕ) → string_from Plain bytes
    ≡ with_front (take (position_or_len is_special bytes) bytes)
    (string_from Plain (drop (position_or_len is_special bytes) bytes))
plain_front [] = sym (at_start (string_from Plain []))
plain_front (byte ∷ bytes) =
    elim (decide (is_plain byte)) [
      | inl e ↦
          rw (e, one (position_or_len is_special bytes))
          (first_plain byte bytes e ∙ ap (with_byte byte) (plain_front bytes) ∙ front_byte byte _ _)
      | inr e ↦ rw e (sym (at_start (string_from Plain (byte ∷ bytes))))
    ]

pub plain_closes : (bytes text rest after : List ℕ) (n : ℕ) → n ≡ position_or_len is_special bytes
    → text ≡ take n bytes → rest ≡ drop n bytes → rest ≡ 34 ∷ after
    → string_from Plain bytes ≡ Some (record { text = text; rest = after })
plain_closes bytes text rest after n is_n is_text is_rest e =
    let so_far : with_front text (string_from Plain rest) ≡ string_from Plain bytes =
    rw (is_text, is_rest, is_n) (sym (plain_front bytes)) in
    closes text bytes rest after so_far e

-- ---- the line that a string holds

-- a text with a line end, and one without
no_ends : (xs : List ℕ) → list_any is_line_end xs ≡ false
    → position_or_len is_line_end xs ≡ length xs
no_ends [] h = refl
no_ends (x ∷ xs) h =
    let p = or_parts (is_line_end x) (list_any is_line_end xs) h in
    rw p.0 (rw (no_ends xs p.1) (omega arith))

pub has_end : (xs : List ℕ) (i : ℕ) → position is_line_end xs ≡ Some i
    → list_any is_line_end xs ≡ true
has_end xs i e =
    elim (decide (list_any is_line_end xs)) [
      | inl any ↦ any
      | inr none ↦
          let test = (found (ltb (position_or_len is_line_end xs) (length xs)) (position_or_len is_line_end xs) i e).0 in
          let there : position_or_len is_line_end xs < length xs = ltb-true _ _ test in
          absurd (omega (arith, no_ends xs none, there))
    ]

and_false : (b : Bool) → (b && false) ≡ false
and_false true = refl
and_false false = refl

pub holds_end : (text : List ℕ) (i : ℕ) → position is_line_end text ≡ Some i → None ≡ line_in text
unfolding line_in
holds_end text i e = rw (has_end text i e, and_false (is_utf8 text)) refl

pub no_text : (text : List ℕ) → ¬ (IsUtf8 text) → None ≡ line_in text
unfolding line_in
no_text text none =
    elim (decide (is_utf8 text)) [
      | inl e ↦ absurd (none (IsUtf8-from_is_utf8 text e))
      | inr e ↦ rw e refl
    ]

pub no_ends-utf8 : (line : List ℕ) → IsLine line → list_any is_line_end (utf8_of line) ≡ false
no_ends-utf8 line whole =
    ends-encodes (utf16_lossy_chars line) (scalars-line line whole) ∙ no_ends-line line whole

pub line_in-utf8_of : (line : List ℕ) → IsLine line → line_in (utf8_of line) ≡ Some line
unfolding line_in
line_in-utf8_of line whole =
    let text = is_utf8-from_IsUtf8 (utf8_of line) (IsUtf8-utf8_of line whole) in
    rw (text, no_ends-utf8 line whole)
    (ap (λ (units : List ℕ). Some units) (utf16_of-utf8_of line whole))

pub holds_line : (text bytes line : List ℕ) → bytes ≡ text → utf8_of line ≡ bytes → IsLine line
    → Some line ≡ line_in text
holds_line text bytes line is_text is_bytes whole =
    sym (ap line_in (sym is_text) ∙ ap line_in (sym is_bytes) ∙ line_in-utf8_of line whole)
