-- The size of the text of a file, counted over its bytes.
use Rattle.std.proofs.Common.{◌≡◌, ℕ, ◌+◌, ◌<◌, ◌≤◌, Bool, true, false, ◌&&◌, List, [], ◌∷◌, ◌++◌, length, All, nat_eq, refl, inl, inr, arith, length-append}
use Rattle.std.proofs.Math.Utf8.{scalar, scalars, encode, encodes}
use Rattle.std.proofs.lemmas.Bool.{cases_Bool, cases_lt, and_parts, and_right, or_parts, or_from, eqb-true, ne_eqb, lt-ltb, le-ltb}
use Rattle.std.proofs.lemmas.List.Elements.{All-head, All-tail}
use Rattle.std.proofs.lemmas.List.Sums.{sum_by-cons}
use Rattle.std.proofs.lemmas.Str.{encode_ascii}
use Rattle.std.proofs.str.Utf16.{one_unit, two_units}
use Rattle.std.specs.Char.Escape.{encode_utf16}
use Rattle.kte_text.specs.Units.{is_line_end}
use Rattle.kte_text.specs.Texts.{units_of, size_of}
use Rattle.kte_text.specs.Reading.{onto_first_line, lines_after, byte_size, size_after}
use Rattle.kte_text.proofs.CharLemmas.{Continues, encode_shape}
use Rattle.kte_text.proofs.ReadingLemmas.{lines_after-plain, lines_after-some}

byte_size-ascii : (after_cr : Bool) (byte : ℕ) → byte < 128 → nat_eq byte 10 ≡ false → byte_size after_cr byte ≡ 1
byte_size-ascii after_cr byte low other = rw (lt-ltb byte 0x80 low, other, and_right after_cr false refl)

byte_size-continue : (after_cr : Bool) (byte : ℕ) → Continues byte → byte_size after_cr byte ≡ 0
byte_size-continue after_cr byte h = rw (le-ltb byte 0x80 h.0, lt-ltb byte 0xC0 h.1)

byte_size-one : (after_cr : Bool) (byte : ℕ) → 192 ≤ byte → byte < 240 → byte_size after_cr byte ≡ 1
byte_size-one after_cr byte from below = rw (le-ltb byte 0x80 (omega arith), le-ltb byte 0xC0 from, lt-ltb byte 0xF0 below)

byte_size-two : (after_cr : Bool) (byte : ℕ) → 240 ≤ byte → byte_size after_cr byte ≡ 2
byte_size-two after_cr byte from = rw (le-ltb byte 0x80 (omega arith), le-ltb byte 0xC0 (omega arith), le-ltb byte 0xF0 from)

size_after-continue : (bytes rest : List ℕ) → All Continues bytes → size_after false (bytes ++ rest) ≡ size_after false rest
size_after-continue [] rest h = refl
size_after-continue (byte ∷ bytes) rest h =
    let here = All-head Continues byte bytes h in
    let other : nat_eq byte 13 ≡ false = ne_eqb byte 13 (λ e. omega arith) in
    let later = size_after-continue bytes rest (All-tail Continues byte bytes h) in
    let none = byte_size-continue false byte here in
    rw (none, other, later) (omega arith)

length-encode_utf16 : (c : ℕ) → (c < 0x1_0000 → length (encode_utf16 c) ≡ 1) × (0x1_0000 ≤ c → length (encode_utf16 c) ≡ 2)
length-encode_utf16 c = ((λ low. rw (one_unit c low)), (λ high. rw (two_units c high)))

-- a character that ends no line adds its units
size_after-plain : (after_cr : Bool) (c : ℕ) (rest : List ℕ) → scalar c ≡ true → is_line_end c ≡ false
    → size_after after_cr (encode c ++ rest) ≡ length (encode_utf16 c) + size_after false rest
size_after-plain after_cr c rest h plain =
    let p = or_parts (nat_eq c 10) (nat_eq c 13) plain in
    let units = length-encode_utf16 c in
    elim (encode_shape c h) [
      | inl a ↦ rw (a.1, byte_size-ascii after_cr c a.0 p.0, p.1, units.0 (omega arith))
      | inr m ↦
          elim (cases_lt c 0x1_0000) [
            | inl low ↦
                let lead = m.low low in
                let other : nat_eq m.lead 13 ≡ false = ne_eqb m.lead 13 (λ e. omega arith) in
                rw (m.is, byte_size-one after_cr m.lead lead.0 lead.1, other, size_after-continue m.tail rest m.continue, units.0 low)
            | inr high ↦
                let lead = m.high high in
                let other : nat_eq m.lead 13 ≡ false = ne_eqb m.lead 13 (λ e. omega arith) in
                rw (m.is, byte_size-two after_cr m.lead lead, other, size_after-continue m.tail rest m.continue, units.1 high)
          ]
    ]

units-onto : (units : List ℕ) (lines : List (List ℕ)) → 0 < length lines
    → (units_of (onto_first_line units lines) ≡ length units + units_of lines) × (length (onto_first_line units lines) ≡ length lines)
units-onto units [] some = absurd (omega arith)
units-onto units (line ∷ lines) some =
    let a = sum_by-cons length (units ++ line) lines in
    let b = sum_by-cons length line lines in
    (omega (arith, a, b, length-append units line), refl)

units-new : (lines : List (List ℕ)) → units_of ([] ∷ lines) ≡ units_of lines
units-new lines = let a = sum_by-cons length [] lines in omega (arith, a)

-- the units and lines together are one more than the size
abbrev Measured : Bool → List ℕ → Type 0
Measured after_cr cs =
    units_of (lines_after after_cr cs) + length (lines_after after_cr cs) ≡ size_after after_cr (encodes cs) + 1

measured_plain : (after_cr : Bool) (c : ℕ) (cs : List ℕ) → scalar c ≡ true → is_line_end c ≡ false → Measured false cs → Measured after_cr (c ∷ cs)
measured_plain after_cr c cs h plain rest =
    let k = units-onto (encode_utf16 c) (lines_after false cs) (lines_after-some false cs) in
    rw (lines_after-plain after_cr c cs plain, size_after-plain after_cr c (encodes cs) h plain) (omega (arith, k.0, k.1, rest))

pub measured : (after_cr : Bool) (cs : List ℕ) → scalars cs ≡ true → Measured after_cr cs
measured after_cr [] h = refl
measured true (c ∷ cs) h =
    let p = and_parts (scalar c) (scalars cs) h in
    elim (cases_Bool (nat_eq c 10)) [
      | inl t ↦ let is = eqb-true c 10 t in let rest = measured false cs p.1 in rw (is, encode_ascii 10 (omega arith)) (omega (arith, rest))
      | inr f ↦
          elim (cases_Bool (nat_eq c 13)) [
            | inl t ↦
                let is = eqb-true c 13 t in
                let rest = measured true cs p.1 in
                rw (is, encode_ascii 13 (omega arith)) (omega (arith, rest, units-new (lines_after true cs)))
            | inr g ↦ measured_plain true c cs p.0 (or_from _ _ f g) (measured false cs p.1)
          ]
    ]
measured false (c ∷ cs) h =
    let p = and_parts (scalar c) (scalars cs) h in
    elim (cases_Bool (nat_eq c 10)) [
      | inl t ↦
          let is = eqb-true c 10 t in
          let rest = measured false cs p.1 in
          rw (is, encode_ascii 10 (omega arith)) (omega (arith, rest, units-new (lines_after false cs)))
      | inr f ↦
          elim (cases_Bool (nat_eq c 13)) [
            | inl t ↦
                let is = eqb-true c 13 t in
                let rest = measured true cs p.1 in
                rw (is, encode_ascii 13 (omega arith)) (omega (arith, rest, units-new (lines_after true cs)))
            | inr g ↦ measured_plain false c cs p.0 (or_from _ _ f g) (measured false cs p.1)
          ]
    ]

pub size_of-lines_after : (cs : List ℕ) → scalars cs ≡ true → size_of (lines_after false cs) ≡ size_after false (encodes cs)
size_of-lines_after cs h = let m = measured false cs h in omega (arith, m)

-- no text is larger than its bytes

byte_size-ascii-le : (after_cr : Bool) (byte : ℕ) → byte < 128 → byte_size after_cr byte ≤ 1
byte_size-ascii-le after_cr byte low =
    elim (cases_Bool (after_cr && nat_eq byte 10)) [ inl t ↦ rw (lt-ltb byte 0x80 low, t) (omega arith) | inr f ↦ rw (lt-ltb byte 0x80 low, f) (omega arith) ]

pub size_after-le : (after_cr : Bool) (cs : List ℕ) → scalars cs ≡ true → size_after after_cr (encodes cs) ≤ length (encodes cs)
size_after-le after_cr [] h = omega arith
size_after-le after_cr (c ∷ cs) h =
    let p = and_parts (scalar c) (scalars cs) h in
    let long = length-append (encode c) (encodes cs) in
    elim (encode_shape c p.0) [
      | inl a ↦
          let rest = size_after-le (nat_eq c 13) cs p.1 in
          let here = byte_size-ascii-le after_cr c a.0 in
          rw a.1 (omega (arith, rest, here))
      | inr m ↦
          let plain : is_line_end c ≡ false =
          let low = m.from in or_from _ _ (ne_eqb c 10 (λ e. omega arith)) (ne_eqb c 13 (λ e. omega arith)) in
          let rest = size_after-le false cs p.1 in
          let two : 2 ≤ length (encode c) = let more = m.more in rw m.is (omega (arith, more)) in
          let units = length-encode_utf16 c in
          let few : length (encode_utf16 c) ≤ 2 = elim (cases_lt c 0x1_0000) [ inl low ↦ let e = units.0 low in omega (arith, e) | inr high ↦ let e = units.1 high in omega (arith, e) ] in
          rw (size_after-plain after_cr c (encodes cs) p.0 plain, long) (omega (arith, rest, two, few))
    ]
