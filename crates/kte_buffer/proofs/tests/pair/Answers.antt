use Rattle.std.proofs.Common.{[], ◌∷◌, refl, arith, lit<}
use Rattle.std.proofs.lemmas.List.Elements.{All-nil, All-cons}
use Rattle.std.specs.Char.Utf16.{utf16_chars}
use Rattle.kte_text.specs.Units.{IsLineUnit}
use Rattle.kte_buffer.proofs.tests.pair.Goals as goal

pub of_units-requires : goal.of_units-requires
unfolding utf16_chars
of_units-requires c =
    let high : IsLineUnit 0xD83D = (lit< tt, (λ e. omega arith), (λ e. omega arith)) in
    let low : IsLineUnit 0xDE00 = (lit< tt, (λ e. omega arith), (λ e. omega arith)) in
    record {
      plain = All-cons IsLineUnit 0xD83D (0xDE00 ∷ []) high (All-cons IsLineUnit 0xDE00 [] low (All-nil IsLineUnit));
      paired = refl;
    }
