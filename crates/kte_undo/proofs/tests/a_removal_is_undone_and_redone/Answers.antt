use Rattle.std.proofs.Common.{[], ◌∷◌, refl, arith}
use Rattle.std.proofs.lemmas.List.Elements.{All-nil, All-cons}
use Rattle.kte_text.specs.Units.{IsLine, IsPrintable}
use Rattle.kte_text.proofs.LineLemmas.{IsLine-printable}
use Rattle.kte_undo.proofs.tests.a_removal_is_undone_and_redone.Goals as goal

-- the line `a`
is_line : IsLine (97 ∷ [])
is_line = IsLine-printable (97 ∷ []) (All-cons IsPrintable 97 [] (omega arith, omega arith) (All-nil IsPrintable))

pub note-requires-clause-text : goal.note-requires-clause-text
note-requires-clause-text b c = record {
  text = (97 ∷ []) ∷ [];
  whole = record { whole = All-cons IsLine (97 ∷ []) [] is_line (All-nil IsLine); some = omega arith; small = omega arith };
  fits = (omega arith, record { within = omega arith; whole = refl }, record { within = omega arith; whole = refl });
  same = refl;
}
