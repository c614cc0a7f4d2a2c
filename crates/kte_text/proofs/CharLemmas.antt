-- Characters in UTF-8 and UTF-16, and the lines that they spell.
use Rattle.std.proofs.Common.{◌≡◌, ℕ, suc, ◌+◌, ◌-◌, ◌*◌, ◌/◌, ◌%◌, ◌^◌, ◌<◌, ◌≤◌, Bool, true, false, cond, ◌&&◌, ◌||◌, List, [], ◌∷◌, ◌++◌, length, All, map, get_or, nat_eq, nat_lt, nat_le, refl, sym, ap, ◌∙◌, inl, inr, ◌⊎◌, arith, Some}
use Rattle.std.proofs.Math.Utf8.{scalar, scalars, scalar_cases, encode, encodes}
use Rattle.std.proofs.lemmas.Bool.{cases_Bool, cases_lt, and_parts, and_from, and_cases, or_parts, or_from, true≢false, false≢true, ltb-true, ltb-false, leb-true, leb-false, lt-ltb, le-ltb, le-leb, ne_eqb}
use Rattle.std.proofs.lemmas.List.Elements.{All-nil, All-cons, All-head, All-tail}
use Rattle.std.proofs.lemmas.List.Folds.{list_any-append}
use Rattle.std.proofs.lemmas.Str.{utf16_chars-nil, utf16_chars_lone, utf16_chars_pair, chars-encodes, encodes-chars, scalars-chars, chars-IsAscii}
use Rattle.std.proofs.str.Utf16.{IsPair, lone_unit_char_low, lone_unit_char_high, one_unit, two_units, pair_units}
use Rattle.std.specs.Char.Escape.{encode_utf16}
use Rattle.std.specs.Char.Utf16.{utf16_chars, utf16_lossy_chars, has_unpaired_surrogate, lone_unit_char, surrogate_pair_char, is_high_surrogate, is_low_surrogate}
use Rattle.std.specs.List.{flat_map, list_any}
use Rattle.std.specs.Option.{unwrap_or}
use Rattle.std.specs.Str.{IsUtf8, IsAscii, chars}
use Rattle.kte_text.specs.Units.{IsLineUnit, IsLine, is_line_end, utf8_of}
use Rattle.kte_text.specs.Reading.{utf16_of}

-- the units of a character in front are read as that character
pub utf16_chars-char : (c : ℕ) (us : List ℕ) → scalar c ≡ true → utf16_chars (encode_utf16 c ++ us) ≡ Some c ∷ utf16_chars us
utf16_chars-char c us h =
    elim (cases_lt c 0x1_0000) [
      | inl low ↦
          let lone : lone_unit_char c ≡ Some c = elim (scalar_cases c h) [ inl a ↦ lone_unit_char_low c a | inr a ↦ lone_unit_char_high c a.0 ] in
          let apart : ¬ (IsPair c (get_or us 0 0)) = λ pair. elim (scalar_cases c h) [ inl a ↦ omega arith | inr a ↦ omega arith ] in
          rw (one_unit c low) (utf16_chars_lone c us apart ∙ ap (λ o. o ∷ utf16_chars us) lone)
      | inr high ↦
          elim (scalar_cases c h) [
            | inl a ↦ absurd (omega arith)
            | inr a ↦
                let u : ℕ = 0xD800 + (c - 0x1_0000) / 0x400 in
                let v : ℕ = 0xDC00 + (c - 0x1_0000) % 0x400 in
                let pair : IsPair u v = (omega arith, omega arith, omega arith, omega arith) in
                let same : surrogate_pair_char u v ≡ c = omega arith in
                rw (two_units c high) (utf16_chars_pair u v us pair ∙ ap (λ d. Some d ∷ utf16_chars us) same)
          ]
    ]

pub lossy_chars-char : (c : ℕ) (us : List ℕ) → scalar c ≡ true → utf16_lossy_chars (encode_utf16 c ++ us) ≡ c ∷ utf16_lossy_chars us
lossy_chars-char c us h = ap (map (λ o. unwrap_or o 0xFFFD)) (utf16_chars-char c us h)

pub unpaired-char : (c : ℕ) (us : List ℕ) → scalar c ≡ true → has_unpaired_surrogate (encode_utf16 c ++ us) ≡ has_unpaired_surrogate us
unpaired-char c us h = rw (utf16_chars-char c us h)

pub lossy_chars-flat : (cs : List ℕ) → scalars cs ≡ true → utf16_lossy_chars (flat_map encode_utf16 cs) ≡ cs
lossy_chars-flat [] h = rw utf16_chars-nil
lossy_chars-flat (c ∷ cs) h =
    let p = and_parts (scalar c) (scalars cs) h in
    lossy_chars-char c (flat_map encode_utf16 cs) p.0 ∙ ap (λ ds. c ∷ ds) (lossy_chars-flat cs p.1)

pub unpaired-flat : (cs : List ℕ) → scalars cs ≡ true → has_unpaired_surrogate (flat_map encode_utf16 cs) ≡ false
unpaired-flat [] h = rw utf16_chars-nil
unpaired-flat (c ∷ cs) h =
    let p = and_parts (scalar c) (scalars cs) h in
    unpaired-char c (flat_map encode_utf16 cs) p.0 ∙ unpaired-flat cs p.1

-- the characters of a list of units spell these units
record Spelled (units : List ℕ) : Type 0 where
  pub are : scalars (utf16_lossy_chars units) ≡ true
  pub spell : flat_map encode_utf16 (utf16_lossy_chars units) ≡ units

abbrev is_surrogate : ℕ → Bool
is_surrogate u = nat_le 0xD800 u && nat_lt u 0xE000

scalar_unit : (u : ℕ) → u < 2 ^ 16 → is_surrogate u ≡ false → scalar u ≡ true
scalar_unit u fits h =
    elim (cases_lt u 0xD800) [
      | inl low ↦ rw (lt-ltb u 0xD800 low)
      | inr high ↦
          elim (and_cases _ _ h) [
            | inl a ↦ let below : u < 0xD800 = leb-false 0xD800 u a in absurd (omega arith)
            | inr a ↦
                let from : 0xE000 ≤ u = ltb-false u 0xE000 a in
                rw (le-ltb u 0xD800 high) (and_from _ _ (le-leb 0xE000 u from) (lt-ltb u 0x11_0000 (omega arith)))
          ]
    ]

-- a unit that is no surrogate, in front
spelled_lone : (u : ℕ) (us : List ℕ) → u < 2 ^ 16 → is_surrogate u ≡ false → utf16_chars (u ∷ us) ≡ lone_unit_char u ∷ utf16_chars us
    → Spelled us → Spelled (u ∷ us)
spelled_lone u us fits h e rest =
    let lone : lone_unit_char u ≡ Some u = rw h in
    let chars : utf16_lossy_chars (u ∷ us) ≡ u ∷ utf16_lossy_chars us = ap (map (λ o. unwrap_or o 0xFFFD)) (e ∙ ap (λ o. o ∷ utf16_chars us) lone) in
    record {
      are = rw chars (and_from _ _ (scalar_unit u fits h) rest.are);
      spell = rw (chars, one_unit u fits, rest.spell);
    }

spelled_pair : (u v : ℕ) (us : List ℕ) → IsPair u v → Spelled us → Spelled (u ∷ v ∷ us)
spelled_pair u v us pair rest =
    let chars : utf16_lossy_chars (u ∷ v ∷ us) ≡ surrogate_pair_char u v ∷ utf16_lossy_chars us =
    ap (map (λ o. unwrap_or o 0xFFFD)) (utf16_chars_pair u v us pair) in
    let c : ℕ = surrogate_pair_char u v in
    let fits : scalar c ≡ true =
    rw (le-ltb c 0xD800 (omega arith)) (and_from _ _ (le-leb 0xE000 c (omega arith)) (lt-ltb c 0x11_0000 (omega arith))) in
    let same : c ≡ 0x1_0000 + ((u - 0xD800) * 0x400 + (v - 0xDC00)) = omega arith in
    let units : encode_utf16 c ≡ u ∷ v ∷ [] = rw same (pair_units u v pair.0 pair.2 pair.3) in
    record {
      are = rw chars (and_from _ _ fits rest.are);
      spell = rw (chars, units, rest.spell);
    }

lone_surrogate : (u : ℕ) (b : Bool) → (cond (is_surrogate u) true false || b) ≡ false → is_surrogate u ≡ false
lone_surrogate u b h = elim (cases_Bool (is_surrogate u)) [ inl t ↦ absurd (true≢false (rw t at h)) | inr f ↦ f ]

fits_unit : (u : ℕ) (us : List ℕ) → All IsLineUnit (u ∷ us) → u < 2 ^ 16
fits_unit u us h = (All-head IsLineUnit u us h).0

spelled : (units : List ℕ) → All IsLineUnit units → has_unpaired_surrogate units ≡ false → Spelled units
unfolding utf16_chars
spelled [] plain paired = record { are = refl; spell = refl }
spelled (u ∷ []) plain paired =
    elim (cases_Bool (is_surrogate u)) [
      | inl t ↦ absurd (true≢false (rw t at paired))
      | inr f ↦ spelled_lone u [] (fits_unit u [] plain) f refl (record { are = refl; spell = refl })
    ]
spelled (u ∷ v ∷ us) plain paired =
    let tail = All-tail IsLineUnit u (v ∷ us) plain in
    elim (cases_Bool (is_high_surrogate u && is_low_surrogate v)) [
      | inl t ↦
          let a = and_parts _ _ t in
          let high = and_parts _ _ a.0 in
          let low = and_parts _ _ a.1 in
          let pair : IsPair u v = (leb-true _ _ high.0, ltb-true _ _ high.1, leb-true _ _ low.0, ltb-true _ _ low.1) in
          spelled_pair u v us pair (spelled us (All-tail IsLineUnit v us tail) (rw t at paired))
      | inr f ↦
          elim (cases_Bool (is_surrogate u)) [
            | inl t ↦ let e = rw (f, t) at paired in absurd (true≢false e)
            | inr g ↦
                let rest : has_unpaired_surrogate (v ∷ us) ≡ false = rw (f, g) at paired in
                spelled_lone u (v ∷ us) (fits_unit u (v ∷ us) plain) g (rw f) (spelled (v ∷ us) tail rest)
          ]
    ]

-- the characters of a line
pub scalars-line : (line : List ℕ) → IsLine line → scalars (utf16_lossy_chars line) ≡ true
scalars-line line h = (spelled line h.plain h.paired).are

pub flat-line : (line : List ℕ) → IsLine line → flat_map encode_utf16 (utf16_lossy_chars line) ≡ line
flat-line line h = (spelled line h.plain h.paired).spell

-- A character in UTF-8: one byte, or a first byte that tells how many units it has and others that
-- continue it
abbrev pub Continues : ℕ → Type 0
Continues byte = (128 ≤ byte) × (byte < 192)

pub record IsMultibyte (c : ℕ) (bytes : List ℕ) : Type 0 where
  pub from : 128 ≤ c
  pub lead : ℕ
  pub tail : List ℕ
  pub is : bytes ≡ lead ∷ tail
  pub continue : All Continues tail
  pub more : 1 ≤ length tail
  pub low : c < 0x1_0000 → (192 ≤ lead) × (lead < 240)
  pub high : 0x1_0000 ≤ c → 240 ≤ lead

continue_one : (m : ℕ) (bytes : List ℕ) → All Continues bytes → All Continues ((128 + m % 64) ∷ bytes)
continue_one m bytes rest = All-cons Continues (128 + m % 64) bytes (omega arith, omega arith) rest

pub encode_shape : (c : ℕ) → scalar c ≡ true → ((c < 128) × (encode c ≡ c ∷ [])) ⊎ IsMultibyte c (encode c)
unfolding encode
encode_shape c h =
    let one = continue_one c [] (All-nil Continues) in
    let two = continue_one (c / 64) ((128 + c % 64) ∷ []) one in
    let three = continue_one (c / 4096) ((128 + c / 64 % 64) ∷ (128 + c % 64) ∷ []) two in
    elim (cases_lt c 128) [
      | inl a ↦ inl (a, rw (lt-ltb c 128 a))
      | inr a ↦
          elim (cases_lt c 2048) [
            | inl b ↦ inr (record {
              from = a;
              lead = 192 + c / 64;
              tail = (128 + c % 64) ∷ [];
              is = rw (le-ltb c 128 a, lt-ltb c 2048 b);
              continue = one;
              more = omega arith;
              low = λ _. (omega arith, omega arith);
              high = λ d. omega arith;
            })
            | inr b ↦
                elim (cases_lt c 65536) [
                  | inl d ↦ inr (record {
                    from = a;
                    lead = 224 + c / 4096;
                    tail = (128 + c / 64 % 64) ∷ (128 + c % 64) ∷ [];
                    is = rw (le-ltb c 128 a, le-ltb c 2048 b, lt-ltb c 65536 d);
                    continue = two;
                    more = omega arith;
                    low = λ _. (omega arith, omega arith);
                    high = λ e. omega arith;
                  })
                  | inr d ↦ inr (record {
                    from = a;
                    lead = 240 + c / 262144;
                    tail = (128 + c / 4096 % 64) ∷ (128 + c / 64 % 64) ∷ (128 + c % 64) ∷ [];
                    is = rw (le-ltb c 128 a, le-ltb c 2048 b, le-ltb c 65536 d);
                    continue = three;
                    more = omega arith;
                    low = λ e. absurd (omega arith);
                    high = λ e. omega arith;
                  })
                ]
          ]
    ]

-- line ends are the same among characters, their bytes and their units
pub above_ends : (u : ℕ) → 128 ≤ u → is_line_end u ≡ false
above_ends u h = or_from _ _ (ne_eqb u 10 (λ e. omega arith)) (ne_eqb u 13 (λ e. omega arith))

no_ends_continue : (bytes : List ℕ) → All Continues bytes → list_any is_line_end bytes ≡ false
no_ends_continue [] h = refl
no_ends_continue (b ∷ bytes) h =
    or_from _ _ (above_ends b (All-head Continues b bytes h).0) (no_ends_continue bytes (All-tail Continues b bytes h))

ends-encode : (c : ℕ) → scalar c ≡ true → list_any is_line_end (encode c) ≡ is_line_end c
ends-encode c h =
    elim (encode_shape c h) [
      | inl a ↦ rw a.1 (elim (cases_Bool (is_line_end c)) [ inl t ↦ rw t | inr f ↦ rw f ])
      | inr m ↦
          let lead : 128 ≤ m.lead = elim (cases_lt c 0x1_0000) [ inl a ↦ omega (arith, (m.low a).0) | inr a ↦ omega (arith, m.high a) ] in
          let other : list_any is_line_end (m.lead ∷ m.tail) ≡ false = or_from _ _ (above_ends m.lead lead) (no_ends_continue m.tail m.continue) in
          rw m.is (other ∙ sym (above_ends c m.from))
    ]

ends-encode_utf16 : (c : ℕ) → scalar c ≡ true → list_any is_line_end (encode_utf16 c) ≡ is_line_end c
ends-encode_utf16 c h =
    elim (cases_lt c 0x1_0000) [
      | inl low ↦ rw (one_unit c low) (elim (cases_Bool (is_line_end c)) [ inl t ↦ rw t | inr f ↦ rw f ])
      | inr high ↦
          let u : ℕ = 0xD800 + (c - 0x1_0000) / 0x400 in
          let v : ℕ = 0xDC00 + (c - 0x1_0000) % 0x400 in
          let other : list_any is_line_end (u ∷ v ∷ []) ≡ false =
          or_from _ _ (above_ends u (omega arith)) (or_from _ _ (above_ends v (omega arith)) refl) in
          rw (two_units c high) (other ∙ sym (above_ends c (omega arith)))
    ]

pub ends-encodes : (cs : List ℕ) → scalars cs ≡ true → list_any is_line_end (encodes cs) ≡ list_any is_line_end cs
ends-encodes [] h = refl
ends-encodes (c ∷ cs) h =
    let p = and_parts (scalar c) (scalars cs) h in
    list_any-append is_line_end (encode c) (encodes cs) ∙ rw (ends-encode c p.0, ends-encodes cs p.1)

pub ends-flat : (cs : List ℕ) → scalars cs ≡ true → list_any is_line_end (flat_map encode_utf16 cs) ≡ list_any is_line_end cs
ends-flat [] h = refl
ends-flat (c ∷ cs) h =
    let p = and_parts (scalar c) (scalars cs) h in
    list_any-append is_line_end (encode_utf16 c) (flat_map encode_utf16 cs) ∙ rw (ends-encode_utf16 c p.0, ends-flat cs p.1)

no_ends-plain : (units : List ℕ) → All IsLineUnit units → list_any is_line_end units ≡ false
no_ends-plain [] h = refl
no_ends-plain (u ∷ units) h =
    let here = All-head IsLineUnit u units h in
    or_from _ _ (or_from _ _ (ne_eqb u 10 here.1) (ne_eqb u 13 here.2)) (no_ends-plain units (All-tail IsLineUnit u units h))

pub no_ends-line : (line : List ℕ) → IsLine line → list_any is_line_end (utf16_lossy_chars line) ≡ false
no_ends-line line h =
    let e = ends-flat (utf16_lossy_chars line) (scalars-line line h) in
    sym e ∙ rw (flat-line line h) (no_ends-plain line h.plain)

line_unit : (u : ℕ) → u < 2 ^ 16 → is_line_end u ≡ false → IsLineUnit u
line_unit u fits h =
    let p = or_parts (nat_eq u 10) (nat_eq u 13) h in
    (fits, (λ e. false≢true (sym p.0 ∙ rw e)), (λ e. false≢true (sym p.1 ∙ rw e)))

line_units : (units : List ℕ) → All (λ u. u < 2 ^ 16) units → list_any is_line_end units ≡ false → All IsLineUnit units
line_units [] fits h = All-nil IsLineUnit
line_units (u ∷ units) fits h =
    let p = or_parts (is_line_end u) (list_any is_line_end units) h in
    All-cons IsLineUnit u units (line_unit u (All-head (λ x. x < 2 ^ 16) u units fits) p.0)
    (line_units units (All-tail (λ x. x < 2 ^ 16) u units fits) p.1)

fits-flat : (cs : List ℕ) → scalars cs ≡ true → All (λ u. u < 2 ^ 16) (flat_map encode_utf16 cs)
fits-flat [] h = All-nil (λ u. u < 2 ^ 16)
fits-flat (c ∷ cs) h =
    let p = and_parts (scalar c) (scalars cs) h in
    let F : ℕ → Type 0 = λ u. u < 2 ^ 16 in
    let rest = fits-flat cs p.1 in
    elim (cases_lt c 0x1_0000) [
      | inl low ↦ rw (one_unit c low) (All-cons F c (flat_map encode_utf16 cs) low rest)
      | inr high ↦
          elim (scalar_cases c p.0) [
            | inl a ↦ absurd (omega arith)
            | inr a ↦
                let u : ℕ = 0xD800 + (c - 0x1_0000) / 0x400 in
                let v : ℕ = 0xDC00 + (c - 0x1_0000) % 0x400 in
                let both : All F (u ∷ v ∷ flat_map encode_utf16 cs) =
                All-cons F u (v ∷ flat_map encode_utf16 cs) (omega arith) (All-cons F v (flat_map encode_utf16 cs) (omega arith) rest) in
                rw (two_units c high) both
          ]
    ]

-- characters without a line end are a line
pub IsLine-flat : (cs : List ℕ) → scalars cs ≡ true → list_any is_line_end cs ≡ false → IsLine (flat_map encode_utf16 cs)
IsLine-flat cs h none = record {
  plain = line_units _ (fits-flat cs h) (ends-flat cs h ∙ none);
  paired = unpaired-flat cs h;
}

pub utf8_of-flat : (cs : List ℕ) → scalars cs ≡ true → utf8_of (flat_map encode_utf16 cs) ≡ encodes cs
utf8_of-flat cs h = ap encodes (lossy_chars-flat cs h)

-- a text in UTF-8 without a line end is a line, and this line has these bytes
pub IsLine-utf16_of : (bytes : List ℕ) → IsUtf8 bytes → list_any is_line_end bytes ≡ false → IsLine (utf16_of bytes)
IsLine-utf16_of bytes u none =
    let h = scalars-chars bytes u in
    IsLine-flat (chars bytes) h (sym (ends-encodes (chars bytes) h) ∙ rw (encodes-chars bytes u) none)

pub utf8_of-utf16_of : (bytes : List ℕ) → IsUtf8 bytes → utf8_of (utf16_of bytes) ≡ bytes
utf8_of-utf16_of bytes u = utf8_of-flat (chars bytes) (scalars-chars bytes u) ∙ encodes-chars bytes u

-- the units of a text of ASCII are its bytes
flat-ascii : (bytes : List ℕ) → IsAscii bytes → flat_map encode_utf16 bytes ≡ bytes
flat-ascii [] h = refl
flat-ascii (b ∷ bytes) h =
    let low : b < 128 = h 0 in
    rw (one_unit b (omega arith), flat-ascii bytes (λ i. h (suc i)))

pub utf16_of-ascii : (bytes : List ℕ) → IsAscii bytes → utf16_of bytes ≡ bytes
utf16_of-ascii bytes h = rw (chars-IsAscii bytes h) (flat-ascii bytes h)

-- the line of these bytes is the only one
pub utf16_of-utf8_of : (line : List ℕ) → IsLine line → utf16_of (utf8_of line) ≡ line
utf16_of-utf8_of line h = ap (flat_map encode_utf16) (chars-encodes (utf16_lossy_chars line) (scalars-line line h)) ∙ flat-line line h

pub IsUtf8-utf8_of : (line : List ℕ) → IsLine line → IsUtf8 (utf8_of line)
IsUtf8-utf8_of line h = (utf16_lossy_chars line, (scalars-line line h, refl))

pub utf8_of_same : (a b : List ℕ) → IsLine a → IsLine b → utf8_of a ≡ utf8_of b → a ≡ b
utf8_of_same a b ha hb e = sym (utf16_of-utf8_of a ha) ∙ ap utf16_of e ∙ utf16_of-utf8_of b hb
