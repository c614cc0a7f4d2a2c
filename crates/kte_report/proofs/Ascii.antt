-- Units of ASCII are their own UTF-8.
use Rattle.std.proofs.Common.{◌≡◌, ℕ, ◌<◌, ◌&&◌, Bool, true, false, List, [], ◌∷◌, Some, nat_lt, refl, arith}
use Rattle.std.specs.Prelude.{encode_utf8_all}
use Rattle.std.specs.List.{list_all}
use Rattle.std.specs.Char.Utf16.{utf16_lossy_chars, lone_unit_char}
use Rattle.std.proofs.lemmas.Str.{utf16_chars-nil, utf16_chars_lone, encode_ascii}

lone-ascii : (unit : ℕ) → unit < 128 → lone_unit_char unit ≡ Some unit
lone-ascii unit small = grind arith

below : (unit : ℕ) (rest : Bool) → (nat_lt unit 128 && rest) ≡ true → unit < 128
below unit rest both = grind arith

rest-holds : (first rest : Bool) → (first && rest) ≡ true → rest ≡ true
rest-holds true rest both = both
rest-holds false rest both = grind arith

pub lossy-ascii : (units : List ℕ) → list_all (λ unit. nat_lt unit 128) units ≡ true → encode_utf8_all (utf16_lossy_chars units) ≡ units
lossy-ascii [] small = rw utf16_chars-nil refl
lossy-ascii (unit ∷ units) small =
    let here : unit < 128 = below unit _ small in
    let later = lossy-ascii units (rest-holds (nat_lt unit 128) (list_all (λ u. nat_lt u 128) units) small) in
    rw (utf16_chars_lone unit units (λ pair. grind arith), lone-ascii unit here, encode_ascii unit here, later) refl
