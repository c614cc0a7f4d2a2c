-- How the lines of a file are found, and that they are its only lines.
use Rattle.std.proofs.Common.{◌≡◌, ◌≢◌, ℕ, ◌+◌, ◌<◌, Bool, true, false, List, [], ◌∷◌, ◌++◌, length, All, nat_eq, refl, sym, ap, ◌∙◌, inl, inr, arith, append-nil, append_assoc, Some}
use Rattle.std.specs.Prelude.{slice_get}
use Rattle.std.proofs.Math.Utf8.{scalar, scalars, encode, encodes}
use Rattle.std.proofs.lemmas.Bool.{cases_Bool, cases_lt, and_parts, and_from, or_parts, or_from, false≢true, eqb-true, ne_eqb}
use Rattle.std.proofs.lemmas.List.Elements.{All-nil, All-cons, All-head, All-tail}
use Rattle.std.proofs.lemmas.Str.{encode_ascii, encodes-append, encodes_same}
use Rattle.std.specs.Char.Escape.{encode_utf16}
use Rattle.std.specs.Char.Utf16.{utf16_lossy_chars}
use Rattle.std.specs.List.{flat_map, list_any}
use Rattle.std.specs.Str.{IsUtf8}
use Rattle.kte_text.specs.Units.{IsLine, is_line_end, utf8_of}
use Rattle.kte_text.proofs.LineLemmas.{IsLine-append, IsLine-nil}
use Rattle.kte_text.specs.Files.{end_bytes, joined, HasWholeEnds}
use Rattle.kte_text.specs.Reading.{onto_first_line, lines_after, end_of_cr, ends_after}
use Rattle.kte_text.specs.declared.loading.Eol.{Eol}
use Rattle.kte_text.specs.declared.loading.Eol.TheVariants.{Lf, CrLf, Cr}
use Rattle.kte_text.proofs.CharLemmas.{encode_shape, lossy_chars-char, scalars-line, flat-line, no_ends-line, IsLine-flat, utf8_of-flat}

-- Lines and their ends that make up these bytes
pub record Makes (bytes : List ℕ) (lines : List (List ℕ)) (ends : List Eol) : Type 0 where
  pub are_lines : All IsLine lines
  pub between : length ends + 1 ≡ length lines
  pub spelled : bytes ≡ joined lines ends
  pub whole : HasWholeEnds lines ends

-- an end before these bytes is whole
abbrev IsWholeBefore : Eol → List ℕ → Type 0
IsWholeBefore end bytes = end ≡ Cr → slice_get bytes 0 ≢ Some 10

-- characters without a line end, in front

pub lines_after-plain : (after_cr : Bool) (c : ℕ) (cs : List ℕ) → is_line_end c ≡ false
    → lines_after after_cr (c ∷ cs) ≡ onto_first_line (encode_utf16 c) (lines_after false cs)
lines_after-plain after_cr c cs h = let p = or_parts (nat_eq c 10) (nat_eq c 13) h in rw (p.0, p.1)

ends_after-plain : (after_cr : Bool) (c : ℕ) (cs : List ℕ) → is_line_end c ≡ false → ends_after after_cr (c ∷ cs) ≡ ends_after false cs
ends_after-plain after_cr c cs h = let p = or_parts (nat_eq c 10) (nat_eq c 13) h in rw (p.0, p.1)

onto_first_line-append : (xs ys : List ℕ) (lines : List (List ℕ))
    → onto_first_line xs (onto_first_line ys lines) ≡ onto_first_line (xs ++ ys) lines
onto_first_line-append xs ys [] = refl
onto_first_line-append xs ys (line ∷ lines) = rw append_assoc

onto_first_line-some : (units : List ℕ) (lines : List (List ℕ)) → 0 < length (onto_first_line units lines)
onto_first_line-some units [] = omega arith
onto_first_line-some units (line ∷ lines) = omega arith

-- a text has a line
pub lines_after-some : (after_cr : Bool) (cs : List ℕ) → 0 < length (lines_after after_cr cs)
lines_after-some after_cr [] = omega arith
lines_after-some true (c ∷ cs) =
    elim (cases_Bool (nat_eq c 10)) [
      | inl t ↦ rw t (lines_after-some false cs)
      | inr f ↦
          elim (cases_Bool (nat_eq c 13)) [
            | inl t ↦ rw (f, t) (omega arith)
            | inr g ↦ rw (f, g) (onto_first_line-some (encode_utf16 c) (lines_after false cs))
          ]
    ]
lines_after-some false (c ∷ cs) =
    elim (cases_Bool (nat_eq c 10)) [
      | inl t ↦ rw t (omega arith)
      | inr f ↦
          elim (cases_Bool (nat_eq c 13)) [
            | inl t ↦ rw (f, t) (omega arith)
            | inr g ↦ rw (f, g) (onto_first_line-some (encode_utf16 c) (lines_after false cs))
          ]
    ]

onto_first_line-nil : (lines : List (List ℕ)) → 0 < length lines → onto_first_line [] lines ≡ lines
onto_first_line-nil [] some = absurd (omega arith)
onto_first_line-nil (line ∷ lines) some = refl

pub lines_after-front : (front cs : List ℕ) → list_any is_line_end front ≡ false
    → lines_after false (front ++ cs) ≡ onto_first_line (flat_map encode_utf16 front) (lines_after false cs)
lines_after-front [] cs none = sym (onto_first_line-nil (lines_after false cs) (lines_after-some false cs))
lines_after-front (c ∷ front) cs none =
    let p = or_parts (is_line_end c) (list_any is_line_end front) none in
    lines_after-plain false c (front ++ cs) p.0
    ∙ ap (onto_first_line (encode_utf16 c)) (lines_after-front front cs p.1)
    ∙ onto_first_line-append (encode_utf16 c) (flat_map encode_utf16 front) (lines_after false cs)

pub ends_after-front : (front cs : List ℕ) → list_any is_line_end front ≡ false → ends_after false (front ++ cs) ≡ ends_after false cs
ends_after-front [] cs none = refl
ends_after-front (c ∷ front) cs none =
    let p = or_parts (is_line_end c) (list_any is_line_end front) none in
    ends_after-plain false c (front ++ cs) p.0 ∙ ends_after-front front cs p.1

-- a line end, in front

after_lone_cr : (cs : List ℕ) → slice_get cs 0 ≢ Some 10
    → (lines_after true cs ≡ lines_after false cs) × (ends_after true cs ≡ ends_after false cs) × (end_of_cr cs ≡ Cr)
after_lone_cr [] h = (refl, refl, refl)
after_lone_cr (c ∷ cs) h =
    let f : nat_eq c 10 ≡ false = ne_eqb c 10 (λ e. h (ap Some e)) in
    (rw f, rw f, rw f)

pub lines_after-end : (end : Eol) (cs : List ℕ) → IsWholeBefore end cs
    → (lines_after false (end_bytes end ++ cs) ≡ [] ∷ lines_after false cs) × (ends_after false (end_bytes end ++ cs) ≡ end ∷ ends_after false cs)
lines_after-end Lf cs h = (refl, refl)
lines_after-end CrLf cs h = (refl, refl)
lines_after-end Cr cs h = let k = after_lone_cr cs (h refl) in (rw k.0, rw (k.1, k.2))

-- a line and its end, in front
pub lines_after-line : (front : List ℕ) (end : Eol) (cs : List ℕ) → list_any is_line_end front ≡ false → IsWholeBefore end cs
    → (lines_after false (front ++ (end_bytes end ++ cs)) ≡ flat_map encode_utf16 front ∷ lines_after false cs)
    × (ends_after false (front ++ (end_bytes end ++ cs)) ≡ end ∷ ends_after false cs)
lines_after-line front end cs none h =
    let k = lines_after-end end cs h in
    let units = append-nil (flat_map encode_utf16 front) in
    (lines_after-front front (end_bytes end ++ cs) none ∙ rw (k.0, units), ends_after-front front (end_bytes end ++ cs) none ∙ k.1)

-- the last line
pub lines_after-last : (front : List ℕ) → list_any is_line_end front ≡ false
    → (lines_after false front ≡ flat_map encode_utf16 front ∷ []) × (ends_after false front ≡ [])
lines_after-last front none =
    let whole = append-nil front in
    let units = append-nil (flat_map encode_utf16 front) in
    (rw whole at (lines_after-front front [] none) ∙ rw units, rw whole at (ends_after-front front [] none))

-- the lines and ends of a file are those that are found in it

encodes-end_bytes : (end : Eol) (cs : List ℕ) → encodes (end_bytes end ++ cs) ≡ end_bytes end ++ encodes cs
encodes-end_bytes Lf cs = rw (encode_ascii 10 (omega arith))
encodes-end_bytes CrLf cs = rw (encode_ascii 13 (omega arith), encode_ascii 10 (omega arith))
encodes-end_bytes Cr cs = rw (encode_ascii 13 (omega arith))

scalars-append : (xs ys : List ℕ) → scalars xs ≡ true → scalars ys ≡ true → scalars (xs ++ ys) ≡ true
scalars-append [] ys hx hy = hy
scalars-append (c ∷ xs) ys hx hy =
    let p = and_parts (scalar c) (scalars xs) hx in and_from _ _ p.0 (scalars-append xs ys p.1 hy)

scalars-end_bytes : (end : Eol) → scalars (end_bytes end) ≡ true
scalars-end_bytes Lf = refl
scalars-end_bytes CrLf = refl
scalars-end_bytes Cr = refl

-- an LF in front of characters is an LF in front of their bytes
pub first_lf : (cs : List ℕ) → slice_get cs 0 ≡ Some 10 → slice_get (encodes cs) 0 ≡ Some 10
first_lf [] e = e
first_lf (c ∷ cs) e = let is : c ≡ 10 = cc in rw (is, encode_ascii 10 (omega arith))

-- the characters of a file, in which these lines and ends are found
pub record Finds (bytes : List ℕ) (lines : List (List ℕ)) (ends : List Eol) : Type 0 where
  pub chars : List ℕ
  pub are : scalars chars ≡ true
  pub spell : encodes chars ≡ bytes
  pub lines_are : lines ≡ lines_after false chars
  pub ends_are : ends ≡ ends_after false chars

found : (lines : List (List ℕ)) (ends : List Eol) → All IsLine lines → length ends + 1 ≡ length lines → HasWholeEnds lines ends
    → Finds (joined lines ends) lines ends
found [] ends all between whole = absurd (omega arith)
found (line ∷ []) [] all between whole =
    let is_line = All-head IsLine line [] all in
    let last = lines_after-last (utf16_lossy_chars line) (no_ends-line line is_line) in
    record {
      chars = utf16_lossy_chars line;
      are = scalars-line line is_line;
      spell = refl;
      lines_are = sym (last.0 ∙ rw (flat-line line is_line));
      ends_are = sym last.1;
    }
found (line ∷ next ∷ lines) [] all between whole = absurd (omega arith)
found (line ∷ lines) (end ∷ ends) all between whole =
    let is_line = All-head IsLine line lines all in
    let rest = found lines ends (All-tail IsLine line lines all) (omega arith) whole.1 in
    let front : List ℕ = utf16_lossy_chars line in
    let before : IsWholeBefore end rest.chars = λ cr lf. whole.0 cr (rw rest.spell at (first_lf rest.chars lf)) in
    let here = lines_after-line front end rest.chars (no_ends-line line is_line) before in
    record {
      chars = front ++ (end_bytes end ++ rest.chars);
      are = scalars-append front (end_bytes end ++ rest.chars) (scalars-line line is_line)
          (scalars-append (end_bytes end) rest.chars (scalars-end_bytes end) rest.are);
      spell = encodes-append front (end_bytes end ++ rest.chars)
          ∙ rw (encodes-end_bytes end rest.chars, rest.spell) (sym (append_assoc (encodes front) (end_bytes end) (joined lines ends)));
      lines_are = rw (here.0, flat-line line is_line, ← rest.lines_are);
      ends_are = rw (here.1, ← rest.ends_are);
    }

pub Finds-from_Makes : (bytes : List ℕ) (lines : List (List ℕ)) (ends : List Eol) → Makes bytes lines ends → Finds bytes lines ends
Finds-from_Makes bytes lines ends m = rw m.spelled (found lines ends m.are_lines m.between m.whole)

-- they are the only ones
pub Makes_same : (bytes : List ℕ) (lines₁ lines₂ : List (List ℕ)) (ends₁ ends₂ : List Eol) → Makes bytes lines₁ ends₁
    → Makes bytes lines₂ ends₂ → (lines₁ ≡ lines₂) × (ends₁ ≡ ends₂)
Makes_same bytes lines₁ lines₂ ends₁ ends₂ m₁ m₂ =
    let f₁ = Finds-from_Makes bytes lines₁ ends₁ m₁ in
    let f₂ = Finds-from_Makes bytes lines₂ ends₂ m₂ in
    let same = encodes_same f₁.chars f₂.chars (f₁.spell ∙ sym f₂.spell) in
    (f₁.lines_are ∙ rw same (sym f₂.lines_are), f₁.ends_are ∙ rw same (sym f₂.ends_are))

pub IsUtf8-from_Makes : (bytes : List ℕ) (lines : List (List ℕ)) (ends : List Eol) → Makes bytes lines ends → IsUtf8 bytes
IsUtf8-from_Makes bytes lines ends m = let f = Finds-from_Makes bytes lines ends m in (f.chars, (f.are, f.spell))

-- they are lines and ends of the file

Makes-nil : Makes [] ([] ∷ []) []
Makes-nil = record {
  are_lines = All-cons IsLine [] [] IsLine-nil (All-nil IsLine);
  between = refl;
  spelled = sym (utf8_of-flat [] refl);
  whole = tt;
}

Makes-end : (end : Eol) (bytes : List ℕ) (lines : List (List ℕ)) (ends : List Eol) → IsWholeBefore end bytes → Makes bytes lines ends
    → Makes (end_bytes end ++ bytes) ([] ∷ lines) (end ∷ ends)
Makes-end end bytes lines ends before m = record {
  are_lines = All-cons IsLine [] lines IsLine-nil m.are_lines;
  between = let e = m.between in omega arith;
  spelled = rw (utf8_of-flat [] refl, ← m.spelled);
  whole = ((λ cr. rw m.spelled at (before cr)), m.whole);
}

joined-front : (c : ℕ) (line : List ℕ) (lines : List (List ℕ)) (ends : List Eol) → scalar c ≡ true
    → joined ((encode_utf16 c ++ line) ∷ lines) ends ≡ encode c ++ joined (line ∷ lines) ends
joined-front c line lines [] h = ap encodes (lossy_chars-char c line h)
joined-front c line lines (end ∷ ends) h =
    rw (lossy_chars-char c line h) (ap (λ bytes. bytes ++ joined lines ends) (append_assoc (encode c) (utf8_of line) (end_bytes end))
    ∙ append_assoc (encode c) (utf8_of line ++ end_bytes end) (joined lines ends))

whole-front : (c : ℕ) (line : List ℕ) (lines : List (List ℕ)) (ends : List Eol) → HasWholeEnds (line ∷ lines) ends
    → HasWholeEnds ((encode_utf16 c ++ line) ∷ lines) ends
whole-front c line lines [] h = tt
whole-front c line lines (end ∷ ends) h = h

IsLine-char : (c : ℕ) → scalar c ≡ true → is_line_end c ≡ false → IsLine (encode_utf16 c)
IsLine-char c h plain =
    let units = append-nil (encode_utf16 c) in
    rw units at (IsLine-flat (c ∷ []) (and_from _ _ h refl) (or_from _ _ plain refl))

Makes-front : (c : ℕ) (bytes : List ℕ) (lines : List (List ℕ)) (ends : List Eol) → scalar c ≡ true → is_line_end c ≡ false
    → Makes bytes lines ends → Makes (encode c ++ bytes) (onto_first_line (encode_utf16 c) lines) ends
Makes-front c bytes [] ends h plain m = let e = m.between in absurd (omega arith)
Makes-front c bytes (line ∷ lines) ends h plain m = record {
  are_lines = All-cons IsLine (encode_utf16 c ++ line) lines
      (IsLine-append (encode_utf16 c) line (IsLine-char c h plain) (All-head IsLine line lines m.are_lines))
      (All-tail IsLine line lines m.are_lines);
  between = let e = m.between in omega arith;
  spelled = rw m.spelled (sym (joined-front c line lines ends h));
  whole = whole-front c line lines ends m.whole;
}

-- lines and ends with this end in front, as they are found
makes_end : (end : Eol) (cs : List ℕ) → IsWholeBefore end cs → IsWholeBefore end (encodes cs)
    → Makes (encodes cs) (lines_after false cs) (ends_after false cs)
    → Makes (encodes (end_bytes end ++ cs)) (lines_after false (end_bytes end ++ cs)) (ends_after false (end_bytes end ++ cs))
makes_end end cs before bytes_before m =
    let k = lines_after-end end cs before in
    rw (encodes-end_bytes end cs, k.0, k.1) (Makes-end end (encodes cs) (lines_after false cs) (ends_after false cs) bytes_before m)

makes_plain : (c : ℕ) (cs : List ℕ) → scalar c ≡ true → is_line_end c ≡ false → Makes (encodes cs) (lines_after false cs) (ends_after false cs)
    → Makes (encodes (c ∷ cs)) (lines_after false (c ∷ cs)) (ends_after false (c ∷ cs))
makes_plain c cs h plain m =
    rw (lines_after-plain false c cs plain, ends_after-plain false c cs plain)
    (Makes-front c (encodes cs) (lines_after false cs) (ends_after false cs) h plain m)

no_first_lf : (c : ℕ) (cs : List ℕ) → scalar c ≡ true → nat_eq c 10 ≡ false → slice_get (encodes (c ∷ cs)) 0 ≢ Some 10
no_first_lf c cs h other e =
    elim (encode_shape c h) [
      | inl a ↦ let is : Some c ≡ Some 10 = rw a.1 at e in let same : c ≡ 10 = cc in false≢true (sym other ∙ rw same)
      | inr m ↦
          let is : Some m.lead ≡ Some 10 = rw m.is at e in
          let same : m.lead ≡ 10 = cc in
          elim (cases_lt c 0x1_0000) [ inl a ↦ let b = m.low a in omega arith | inr a ↦ let b = m.high a in omega arith ]
    ]

pub makes : (cs : List ℕ) → scalars cs ≡ true → Makes (encodes cs) (lines_after false cs) (ends_after false cs)
makes [] h = Makes-nil
makes (c ∷ []) h =
    let p = and_parts (scalar c) true h in
    elim (cases_Bool (nat_eq c 10)) [
      | inl t ↦ let is = eqb-true c 10 t in rw is (makes_end Lf [] (λ e. absurd cc) (λ e. absurd cc) Makes-nil)
      | inr f ↦
          elim (cases_Bool (nat_eq c 13)) [
            | inl t ↦ let is = eqb-true c 13 t in rw is (makes_end Cr [] (λ e q. cc) (λ e q. cc) Makes-nil)
            | inr g ↦ makes_plain c [] p.0 (or_from _ _ f g) Makes-nil
          ]
    ]
makes (c ∷ d ∷ cs) h =
    let p = and_parts (scalar c) (scalars (d ∷ cs)) h in
    let q = and_parts (scalar d) (scalars cs) p.1 in
    let rest = makes (d ∷ cs) p.1 in
    elim (cases_Bool (nat_eq c 10)) [
      | inl t ↦ let is = eqb-true c 10 t in rw is (makes_end Lf (d ∷ cs) (λ e. absurd cc) (λ e. absurd cc) rest)
      | inr f ↦
          elim (cases_Bool (nat_eq c 13)) [
            | inl t ↦
                let is = eqb-true c 13 t in
                elim (cases_Bool (nat_eq d 10)) [
                  | inl u ↦ let lf = eqb-true d 10 u in rw (is, lf) (makes_end CrLf cs (λ e. absurd cc) (λ e. absurd cc) (makes cs q.1))
                  | inr v ↦
                      let apart : slice_get (d ∷ cs) 0 ≢ Some 10 =
                      λ e. let same : d ≡ 10 = cc in false≢true (sym v ∙ rw same) in
                      rw is (makes_end Cr (d ∷ cs) (λ e. apart) (λ e. no_first_lf d cs q.0 v) rest)
                ]
            | inr g ↦ makes_plain c (d ∷ cs) p.0 (or_from _ _ f g) rest
          ]
    ]
