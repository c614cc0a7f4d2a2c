-- Lines in UTF-8.
use Rattle.std.proofs.Common.{◌≡◌, ◌∙◌, ℕ, zero, suc, ◌+◌, ◌-◌, ◌*◌, ◌^◌, ◌<◌, ◌≤◌, true, false, ◌&&◌, ◌||◌, List, [], ◌∷◌, ◌++◌, length, take, drop, slice_index, sum_by, All, nat_lt, nat_le, ◌⊎◌, sym, refl, ap, inl, inr, arith, append_assoc, length-append, take-append-drop, length-drop, slice_set, add-zero, ◌/◌, ◌%◌, encode_utf8_all}
use Rattle.std.specs.Char.{encode_utf8, len_utf8}
use Rattle.std.proofs.lemmas.List.{drop_more, drop-drop, drop-take, take-take, get_or-drop, take_more_set, length-set}
use Rattle.std.proofs.lemmas.Bool.{cases_Bool, and_right, and_left, and_parts, lt-ltb, le-ltb, ltb-true, ltb-false, leb-true, le-leb, lt-leb}
use Rattle.std.proofs.lemmas.List.Elements.{All-head, All-tail, All-nil, All-cons}
use Rattle.std.proofs.lemmas.List.Sums.{sum_by-cons}
use Rattle.std.proofs.lemmas.Str.{length-encode, encode_ascii}
use Rattle.std.specs.Char.Utf16.{utf16_chars, utf16_lossy_chars, has_unpaired_surrogate, is_high_surrogate, is_low_surrogate, surrogate_pair_char}
use Rattle.kte_text.specs.Units.{IsLineUnit, IsLine, IsBoundary, utf8_of}
use Rattle.kte_text.specs.Utf8.{is_surrogate, width}
use Rattle.kte_text.proofs.LineLemmas.{unpaired_pair, lone_parts, no_surrogate-high, IsLine-take, IsLine-drop}

-- a unit that is no half of a pair is a character
pub chars_lone : (u : ℕ) (us : List ℕ) → (is_high_surrogate u && is_low_surrogate (slice_index us 0)) ≡ false
    → is_surrogate u ≡ false → utf16_lossy_chars (u ∷ us) ≡ u ∷ utf16_lossy_chars us
unfolding utf16_chars
chars_lone u [] alone plain = rw plain
chars_lone u (v ∷ us) alone plain = rw (alone, plain)

-- a pair is a character
pub chars_pair : (u v : ℕ) (us : List ℕ) → (is_high_surrogate u && is_low_surrogate v) ≡ true
    → utf16_lossy_chars (u ∷ v ∷ us) ≡ surrogate_pair_char u v ∷ utf16_lossy_chars us
unfolding utf16_chars
chars_pair u v us paired = rw paired

no_chars : utf16_lossy_chars [] ≡ []
unfolding utf16_chars
no_chars = refl

pub utf8-nil : utf8_of [] ≡ []
utf8-nil = rw no_chars

-- a line in UTF-8 is its first character, and the rest of it
pub utf8_lone : (u : ℕ) (us : List ℕ) → (is_high_surrogate u && is_low_surrogate (slice_index us 0)) ≡ false
    → is_surrogate u ≡ false → utf8_of (u ∷ us) ≡ encode_utf8 u ++ utf8_of us
utf8_lone u us alone plain = ap encode_utf8_all (chars_lone u us alone plain)

pub utf8_pair : (u v : ℕ) (us : List ℕ) → (is_high_surrogate u && is_low_surrogate v) ≡ true
    → utf8_of (u ∷ v ∷ us) ≡ encode_utf8 (surrogate_pair_char u v) ++ utf8_of us
utf8_pair u v us paired = ap encode_utf8_all (chars_pair u v us paired)

width_lone : (u : ℕ) → u < 2 ^ 16 → is_surrogate u ≡ false → length (encode_utf8 u) ≡ width u
width_lone u small plain =
    length-encode u
    ∙ elim (cases_Bool (nat_lt u 0x80)) [
      | inl t ↦ rw t
      | inr f ↦ elim (cases_Bool (nat_lt u 0x800)) [
        | inl t ↦ rw (f, t)
        | inr g ↦ let w : nat_lt u 0x10000 ≡ true = lt-ltb u 0x10000 small in rw (f, g, plain, w)
      ]
    ]

width_half : (u : ℕ) → 0xD800 ≤ u → u < 0xE000 → width u ≡ 2
width_half u from below =
    let a : nat_lt u 0x80 ≡ false = le-ltb u 0x80 (omega arith) in
    let b : nat_lt u 0x800 ≡ false = le-ltb u 0x800 (omega arith) in
    let c : nat_le 0xD800 u ≡ true = le-leb 0xD800 u from in
    let d : nat_lt u 0xE000 ≡ true = lt-ltb u 0xE000 below in
    rw (a, b, c, d)

width_pair : (u v : ℕ) → (is_high_surrogate u && is_low_surrogate v) ≡ true
    → length (encode_utf8 (surrogate_pair_char u v)) ≡ width u + width v
width_pair u v paired =
    let p = and_parts _ _ paired in
    let high = and_parts _ _ p.0 in
    let low = and_parts _ _ p.1 in
    let a = leb-true 0xD800 u high.0 in
    let b = ltb-true u 0xDC00 high.1 in
    let c = leb-true 0xDC00 v low.0 in
    let d = ltb-true v 0xE000 low.1 in
    let e = width_half u a (omega (arith, b)) in
    let f = width_half v (omega (arith, c)) d in
    let code = surrogate_pair_char u v in
    let x : nat_lt code 0x80 ≡ false = le-ltb code 0x80 (omega arith) in
    let y : nat_lt code 0x800 ≡ false = le-ltb code 0x800 (omega arith) in
    let z : nat_lt code 0x10000 ≡ false = le-ltb code 0x10000 (omega arith) in
    length-encode code ∙ rw (e, f, x, y, z)

-- the length of a line in UTF-8, unit by unit
length-utf8_paired : (us : List ℕ) → All (λ u. u < 2 ^ 16) us → has_unpaired_surrogate us ≡ false
    → length (utf8_of us) ≡ sum_by width us
length-utf8_paired [] small h = rw utf8-nil
length-utf8_paired (u ∷ []) small h =
    let alone : (is_high_surrogate u && false) ≡ false = and_right (is_high_surrogate u) false refl in
    let p = lone_parts u [] alone h in
    let w = width_lone u (All-head (λ u. u < 2 ^ 16) u [] small) p.0 in
    let e = utf8_lone u [] alone p.0 in
    rw (e, utf8-nil, length-append, w, sum_by-cons width u [])
length-utf8_paired (u ∷ v ∷ us) small h =
    let rest = All-tail (λ u. u < 2 ^ 16) u (v ∷ us) small in
    elim (cases_Bool (is_high_surrogate u && is_low_surrogate v)) [
      | inl t ↦
          let left = length-utf8_paired us (All-tail (λ u. u < 2 ^ 16) v us rest) (rw (unpaired_pair u v us t) at h) in
          let e = utf8_pair u v us t in
          let w = width_pair u v t in
          rw (e, length-append, w, left, sum_by-cons width u (v ∷ us), sum_by-cons width v us) (omega arith)
      | inr f ↦
          let p = lone_parts u (v ∷ us) f h in
          let left = length-utf8_paired (v ∷ us) rest p.1 in
          let e = utf8_lone u (v ∷ us) f p.0 in
          let w = width_lone u (All-head (λ u. u < 2 ^ 16) u (v ∷ us) small) p.0 in
          rw (e, length-append, w, left, sum_by-cons width u (v ∷ us))
    ]

pub length-utf8_of : (units : List ℕ) → IsLine units → length (utf8_of units) ≡ sum_by width units
length-utf8_of units line = length-utf8_paired units (λ k d i. (line.plain k d i).0) line.paired

-- no unit counts for more than three bytes
pub width_bounds : (units : List ℕ) → (length units ≤ sum_by width units) × (sum_by width units ≤ 3 * length units)
width_bounds [] = (omega arith, omega arith)
width_bounds (u ∷ us) =
    let rest = width_bounds us in
    let c = sum_by-cons width u us in
    let one : (1 ≤ width u) × (width u ≤ 3) =
    elim (cases_Bool (nat_lt u 0x80)) [
      | inl t ↦ rw t (omega arith, omega arith)
      | inr f ↦ elim (cases_Bool (nat_lt u 0x800 || is_surrogate u)) [
        | inl t ↦ rw (f, t) (omega arith, omega arith)
        | inr g ↦ rw (f, g) (omega arith, omega arith)
      ]
    ] in
    (omega (arith, rest, c, one), omega (arith, rest, c, one))

-- one part of a line and then the other, where the first has no half of a pair
pub utf8-append : (xs ys : List ℕ) → has_unpaired_surrogate xs ≡ false → utf8_of (xs ++ ys) ≡ utf8_of xs ++ utf8_of ys
utf8-append [] ys h = rw utf8-nil
utf8-append (u ∷ []) ys h =
    let alone : (is_high_surrogate u && false) ≡ false = and_right (is_high_surrogate u) false refl in
    let p = lone_parts u [] alone h in
    let first : is_high_surrogate u ≡ false = no_surrogate-high u p.0 in
    let next : (is_high_surrogate u && is_low_surrogate (slice_index ys 0)) ≡ false = and_left _ _ first in
    let e = utf8_lone u ys next p.0 in
    let d = utf8_lone u [] alone p.0 in
    rw (e, d, utf8-nil, append_assoc)
utf8-append (u ∷ v ∷ us) ys h =
    elim (cases_Bool (is_high_surrogate u && is_low_surrogate v)) [
      | inl t ↦
          let left = utf8-append us ys (rw (unpaired_pair u v us t) at h) in
          let e = utf8_pair u v (us ++ ys) t in
          let d = utf8_pair u v us t in
          rw (e, d, left, append_assoc)
      | inr f ↦
          let p = lone_parts u (v ∷ us) f h in
          let left = utf8-append (v ∷ us) ys p.1 in
          let e = utf8_lone u (v ∷ (us ++ ys)) f p.0 in
          let d = utf8_lone u (v ∷ us) f p.0 in
          rw (e, d, left, append_assoc)
    ]

-- a line that is cut at a boundary
pub utf8-split : (units : List ℕ) (column : ℕ) → IsLine units → IsBoundary units column
    → utf8_of (take column units) ++ utf8_of (drop column units) ≡ utf8_of units
utf8-split units column line at =
    sym (utf8-append (take column units) (drop column units) (IsLine-take units column line at).paired)
    ∙ ap utf8_of (take-append-drop column units)

-- the first unit of a line, where it is a half of a pair, and where it is none
pub front_pair : (u : ℕ) (us : List ℕ) → has_unpaired_surrogate (u ∷ us) ≡ false → is_high_surrogate u ≡ true
    → (is_low_surrogate (slice_index us 0) ≡ true) × (0 < length us) × (has_unpaired_surrogate (drop 1 us) ≡ false)
    × (utf16_lossy_chars (u ∷ us) ≡ surrogate_pair_char u (slice_index us 0) ∷ utf16_lossy_chars (drop 1 us))
front_pair u us h high =
    elim (cases_Bool (is_high_surrogate u && is_low_surrogate (slice_index us 0))) [
      | inl t ↦ pair_of u us h t
      | inr f ↦
          let p = lone_parts u us f h in
          let no : is_high_surrogate u ≡ false = no_surrogate-high u p.0 in
          cc
    ]
  where
    pair_of : (u : ℕ) (us : List ℕ) → has_unpaired_surrogate (u ∷ us) ≡ false → (is_high_surrogate u && is_low_surrogate (slice_index us 0)) ≡ true
        → (is_low_surrogate (slice_index us 0) ≡ true) × (0 < length us) × (has_unpaired_surrogate (drop 1 us) ≡ false)
        × (utf16_lossy_chars (u ∷ us) ≡ surrogate_pair_char u (slice_index us 0) ∷ utf16_lossy_chars (drop 1 us))
    pair_of u [] h t = let e : false ≡ true = (sym (and_right (is_high_surrogate u) false refl)) ∙ t in cc
    pair_of u (v ∷ vs) h t = ((and_parts _ _ t).1, omega arith, rw (unpaired_pair u v vs t) at h, chars_pair u v vs t)

pub front_lone : (u : ℕ) (us : List ℕ) → has_unpaired_surrogate (u ∷ us) ≡ false → is_high_surrogate u ≡ false
    → (is_surrogate u ≡ false) × (has_unpaired_surrogate us ≡ false) × (utf16_lossy_chars (u ∷ us) ≡ u ∷ utf16_lossy_chars us)
front_lone u us h low =
    let alone : (is_high_surrogate u && is_low_surrogate (slice_index us 0)) ≡ false = and_left _ _ low in
    let p = lone_parts u us alone h in
    (p.0, p.1, chars_lone u us alone p.0)

-- a line as long in UTF-8 as in units is ASCII
pub ascii-from_width : (units : List ℕ) → sum_by width units ≡ length units → All (λ unit. unit < 128) units
ascii-from_width [] e = All-nil (λ unit. unit < 128)
ascii-from_width (u ∷ us) e =
    let c = sum_by-cons width u us in
    let rest = width_bounds us in
    elim (cases_Bool (nat_lt u 0x80)) [
      | inl t ↦
          let one : width u ≡ 1 = rw t in
          All-cons (λ unit. unit < 128) u us (ltb-true u 0x80 t) (ascii-from_width us (omega (arith, c, one, e)))
      | inr f ↦
          let two : 2 ≤ width u = elim (cases_Bool (nat_lt u 0x800 || is_surrogate u)) [
            | inl t ↦ rw (f, t) (omega arith)
            | inr g ↦ rw (f, g) (omega arith)
          ] in
          absurd (omega (arith, c, two, e, rest.0))
    ]

-- and its bytes are its units
pub utf8-ascii : (units : List ℕ) → All (λ unit. unit < 128) units → utf8_of units ≡ units
utf8-ascii [] h = rw utf8-nil
utf8-ascii (u ∷ us) h =
    let small = All-head (λ unit. unit < 128) u us h in
    let below : nat_le 0xD800 u ≡ false = lt-leb 0xD800 u (omega arith) in
    let plain : is_surrogate u ≡ false = and_left _ _ below in
    let alone : (is_high_surrogate u && is_low_surrogate (slice_index us 0)) ≡ false = and_left _ _ (no_surrogate-high u plain) in
    let e = utf8_lone u us alone plain in
    let one = encode_ascii u small in
    rw (e, one, utf8-ascii us (All-tail (λ unit. unit < 128) u us h))

-- the same at the unit at an index
pub pair_at : (units : List ℕ) (n : ℕ) → n < length units → has_unpaired_surrogate (drop n units) ≡ false
    → is_high_surrogate (slice_index units n) ≡ true
    → (is_low_surrogate (slice_index units (n + 1)) ≡ true) × (n + 1 < length units) × (has_unpaired_surrogate (drop (n + 2) units) ≡ false)
    × (utf16_lossy_chars (drop n units) ≡ surrogate_pair_char (slice_index units n) (slice_index units (n + 1)) ∷ utf16_lossy_chars (drop (n + 2) units))
pair_at units n there h high =
    let e = drop_more units n 0 there in
    let p = front_pair (slice_index units n) (drop (n + 1) units) (rw e at h) high in
    let next : slice_index (drop (n + 1) units) 0 ≡ slice_index units (n + 1) = get_or-drop (n + 1) units 0 0 ∙ ap (slice_index units) (add-zero (n + 1)) in
    let more : drop 1 (drop (n + 1) units) ≡ drop (n + 2) units = drop-drop 1 (n + 1) units ∙ ap (λ k. drop k units) {x = n + 1 + 1} {y = n + 2} (omega arith) in
    (rw next at p.0, omega (arith, p.1, length-drop (n + 1) units), rw more at p.2, rw e (rw (next, more) at p.3))

pub lone_at : (units : List ℕ) (n : ℕ) → n < length units → has_unpaired_surrogate (drop n units) ≡ false
    → is_high_surrogate (slice_index units n) ≡ false
    → (has_unpaired_surrogate (drop (n + 1) units) ≡ false)
    × (utf16_lossy_chars (drop n units) ≡ slice_index units n ∷ utf16_lossy_chars (drop (n + 1) units))
lone_at units n there h low =
    let e = drop_more units n 0 there in
    let p = front_lone (slice_index units n) (drop (n + 1) units) (rw e at h) low in
    (p.1, rw e p.2)

-- a pair of surrogates, as ranges
pub pair_ranges : (u v : ℕ) → is_high_surrogate u ≡ true → is_low_surrogate v ≡ true → (0xD800 ≤ u) × (u < 0xDC00) × (0xDC00 ≤ v) × (v < 0xE000)
pair_ranges u v high low =
    let h = and_parts _ _ high in
    let l = and_parts _ _ low in
    (leb-true 0xD800 u h.0, ltb-true u 0xDC00 h.1, leb-true 0xDC00 v l.0, ltb-true v 0xE000 l.1)

-- the bytes of a character outside ASCII
pub encode_two : (c : ℕ) → 0x80 ≤ c → c < 0x800 → encode_utf8 c ≡ (192 + c / 64) ∷ (128 + c % 64) ∷ []
unfolding encode_utf8
encode_two c from below =
    let a : nat_lt c 0x80 ≡ false = le-ltb c 0x80 from in
    let b : nat_lt c 0x800 ≡ true = lt-ltb c 0x800 below in
    rw (a, b)

pub encode_three : (c : ℕ) → 0x800 ≤ c → c < 0x10000
    → encode_utf8 c ≡ (224 + c / 4096) ∷ (128 + c / 64 % 64) ∷ (128 + c % 64) ∷ []
unfolding encode_utf8
encode_three c from below =
    let a : nat_lt c 0x80 ≡ false = le-ltb c 0x80 (omega arith) in
    let b : nat_lt c 0x800 ≡ false = le-ltb c 0x800 from in
    let d : nat_lt c 0x10000 ≡ true = lt-ltb c 0x10000 below in
    rw (a, b, d)

pub encode_four : (c : ℕ) → 0x10000 ≤ c
    → encode_utf8 c ≡ (240 + c / 262144) ∷ (128 + c / 4096 % 64) ∷ (128 + c / 64 % 64) ∷ (128 + c % 64) ∷ []
unfolding encode_utf8
encode_four c from =
    let a : nat_lt c 0x80 ≡ false = le-ltb c 0x80 (omega arith) in
    let b : nat_lt c 0x800 ≡ false = le-ltb c 0x800 (omega arith) in
    let d : nat_lt c 0x10000 ≡ false = le-ltb c 0x10000 from in
    rw (a, b, d)

pub two_bytes : (c : ℕ) → 0x80 ≤ c → c < 0x800 → length (encode_utf8 c) ≡ 2
two_bytes c from below = ap length (encode_two c from below)

pub three_bytes : (c : ℕ) → 0x800 ≤ c → c < 0x10000 → length (encode_utf8 c) ≡ 3
three_bytes c from below = ap length (encode_three c from below)

pub four_bytes : (c : ℕ) → 0x10000 ≤ c → length (encode_utf8 c) ≡ 4
four_bytes c from = ap length (encode_four c from)

-- writes that follow each other, seen from the front
pub take-two_sets : (xs : List ℕ) (o x y : ℕ) → o + 1 < length xs
    → take (o + 2) (slice_set (slice_set xs o x) (o + 1) y) ≡ take o xs ++ x ∷ y ∷ []
take-two_sets xs o x y fits =
    let one = slice_set xs o x in
    let n : o + 2 ≡ o + 1 + 1 = omega arith in
    rw (n, take_more_set one (o + 1) y (omega (arith, length-set xs o x)), take_more_set xs o x (omega arith), append_assoc)

pub take-three_sets : (xs : List ℕ) (o x y z : ℕ) → o + 2 < length xs
    → take (o + 3) (slice_set (slice_set (slice_set xs o x) (o + 1) y) (o + 2) z) ≡ take o xs ++ x ∷ y ∷ z ∷ []
take-three_sets xs o x y z fits =
    let one = slice_set xs o x in
    let two = slice_set one (o + 1) y in
    let n : o + 3 ≡ o + 2 + 1 = omega arith in
    rw (
      n,
      take_more_set two (o + 2) z (omega (arith, length-set xs o x, length-set one (o + 1) y)),
      take-two_sets xs o x y (omega arith),
      append_assoc,
    )

pub take-four_sets : (xs : List ℕ) (o x y z w : ℕ) → o + 3 < length xs
    → take (o + 4) (slice_set (slice_set (slice_set (slice_set xs o x) (o + 1) y) (o + 2) z) (o + 3) w)
    ≡ take o xs ++ x ∷ y ∷ z ∷ w ∷ []
take-four_sets xs o x y z w fits =
    let one = slice_set xs o x in
    let two = slice_set one (o + 1) y in
    let three = slice_set two (o + 2) z in
    let n : o + 4 ≡ o + 3 + 1 = omega arith in
    rw (
      n,
      take_more_set three (o + 3) w (omega (arith, length-set xs o x, length-set one (o + 1) y, length-set two (o + 2) z)),
      take-three_sets xs o x y z (omega arith),
      append_assoc,
    )

-- a line up to one boundary and from there to the next
pub utf8-take_more : (units : List ℕ) (n k : ℕ) → IsLine units → IsBoundary units n
    → utf8_of (take n units) ++ utf8_of (take k (drop n units)) ≡ utf8_of (take (n + k) units)
utf8-take_more units n k line at =
    let whole : take n units ++ take k (drop n units) ≡ take (n + k) units =
    rw (sym (drop-take n k units)) (rw (take-take n (n + k) units (omega arith)) at (take-append-drop n (take (n + k) units))) in
    sym (utf8-append (take n units) (take k (drop n units)) (IsLine-take units n line at).paired) ∙ ap utf8_of whole
