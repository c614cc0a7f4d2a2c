-- Worked examples of files.
use Rattle.std.proofs.Common.{◌≡◌, ℕ, ◌≤◌, List, [], ◌∷◌, length, refl, true, arith}
use Rattle.std.proofs.lemmas.Bool.{false≢true}
use Rattle.std.proofs.lemmas.List.Elements.{All-nil, All-cons}
use Rattle.std.proofs.lemmas.Str.{is_utf8-from_IsUtf8}
use Rattle.std.specs.Prelude.{codes}
use Rattle.std.proofs.Math.Utf8.{encode}
use Rattle.std.specs.Char.Utf16.{utf16_chars}
use Rattle.std.specs.Str.{is_utf8, chars}
use Rattle.std.specs.Str.Lossy.{utf8_valid_len}
use Rattle.kte_text.specs.Units.{IsLine, IsPrintable, utf8_of}
use Rattle.kte_text.specs.Files.{joined, Loads, Refuses}
use Rattle.kte_text.proofs.LineLemmas.{IsLine-printable}
use Rattle.kte_text.specs.Reading.{file_size}
use Rattle.kte_text.specs.declared.loading.Eol.TheVariants.{Lf, CrLf, Cr}
use Rattle.kte_text.specs.declared.loading.LoadFault.TheVariants as fault

-- U+1F600 has two units and four bytes
pair_in_utf8 : utf8_of (0xD83D ∷ 0xDE00 ∷ []) ≡ 0xF0 ∷ 0x9F ∷ 0x98 ∷ 0x80 ∷ []
unfolding utf16_chars encode
pair_in_utf8 = refl

separator_in_utf8 : utf8_of (0x2028 ∷ []) ≡ 0xE2 ∷ 0x80 ∷ 0xA8 ∷ []
unfolding utf16_chars encode
separator_in_utf8 = refl

each_end : joined ([] ∷ codes "a" ∷ codes "b" ∷ [] ∷ []) (Lf ∷ CrLf ∷ Cr ∷ []) ≡ 10 ∷ 0x61 ∷ 13 ∷ 10 ∷ 0x62 ∷ 13 ∷ []
unfolding utf16_chars encode
each_end = refl

one_line : joined (codes "a" ∷ []) [] ≡ codes "a"
unfolding utf16_chars encode
one_line = refl

letter : (u : ℕ) → 32 ≤ u → u ≤ 126 → IsLine (u ∷ [])
letter u low high = IsLine-printable (u ∷ []) (All-cons IsPrintable u [] (low, high) (All-nil IsPrintable))

-- a mark, then three lines whose ends differ
marked_file : Loads (0xEF ∷ 0xBB ∷ 0xBF ∷ 0x61 ∷ 13 ∷ 10 ∷ 0x62 ∷ 13 ∷ 0x63 ∷ [])
    (record { text = codes "a" ∷ codes "b" ∷ codes "c" ∷ []; eol = CrLf; bom = true })
unfolding utf16_chars encode
marked_file = record {
  ends = CrLf ∷ Cr ∷ [];
  lines = All-cons IsLine (codes "a") (codes "b" ∷ codes "c" ∷ []) (letter 0x61 (omega arith) (omega arith))
      (All-cons IsLine (codes "b") (codes "c" ∷ []) (letter 0x62 (omega arith) (omega arith))
      (All-cons IsLine (codes "c") [] (letter 0x63 (omega arith) (omega arith)) (All-nil IsLine)));
  between = refl;
  spelled = refl;
  whole = ((λ e. absurd cc), ((λ _ e. absurd cc), tt));
  first = refl;
  marked = refl;
}

-- after the LF a CR is an end of its own, and the size counts both units of a pair
sizes : file_size (0xEF ∷ 0xBB ∷ 0xBF ∷ 10 ∷ 13 ∷ 13 ∷ 10 ∷ 0xF0 ∷ 0x9F ∷ 0x98 ∷ 0x80 ∷ []) ≡ 5
sizes = refl

not_utf8 : Refuses (0x61 ∷ 0xFF ∷ []) (fault.NotUtf8 1)
unfolding is_utf8 utf8_valid_len chars encode
not_utf8 = (omega arith, (λ u. false≢true (is_utf8-from_IsUtf8 (0x61 ∷ 0xFF ∷ []) u)), refl)

too_long : (bytes : List ℕ) → length bytes ≡ 201326596 → Refuses bytes fault.LongFile
too_long bytes e = omega arith

longest_allowed : (bytes : List ℕ) → length bytes ≡ 201326595 → ¬ (Refuses bytes fault.LongFile)
longest_allowed bytes e h = omega arith
