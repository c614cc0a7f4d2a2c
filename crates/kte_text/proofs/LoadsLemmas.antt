-- A saved text loads as itself.
use Rattle.std.proofs.Common.{◌≡◌, ◌≢◌, ◌∙◌, ℕ, zero, suc, ◌+◌, ◌-◌, ◌^◌, ◌<◌, ◌≤◌, Bool, true, false, ◌&&◌, ◌||◌, List, [], ◌∷◌, ◌++◌, length, take, drop, slice_index, slice_get, All, nat_eq, replicate, Option, Some, None, ◌⊎◌, sym, refl, ap, inl, inr, arith, append_assoc, length-append, if◌then◌else◌, unwrap_or}
use Rattle.std.proofs.lemmas.Bool.{cases_Bool, and_parts, and_right, eqb-true, eq-eqb, ne_eqb}
use Rattle.std.proofs.lemmas.List.{length-replicate}
use Rattle.std.proofs.lemmas.List.Elements.{All-head, All-tail}
use Rattle.std.proofs.lemmas.Option.{get_or_from_slice_get}
use Rattle.std.proofs.lemmas.Str.{length-encode, char_from_byte, encode_same, len_utf8_bounds}
use Rattle.std.specs.Char.{encode_utf8, len_utf8}
use Rattle.std.specs.Char.Utf16.{is_high_surrogate, is_low_surrogate, surrogate_pair_char, has_unpaired_surrogate}
use Rattle.std.specs.List.{flat_map, starts_with}
use Rattle.kte_text.specs.Units.{IsLine, IsLineUnit, utf8_of}
use Rattle.kte_text.specs.Texts.{IsText, line_at}
use Rattle.kte_text.specs.Files.{end_bytes, mark_bytes, joined, HasWholeEnds, Loads}
use Rattle.kte_text.specs.Saving.{writes_mark, bytes_of, loaded_eol}
use Rattle.kte_text.specs.declared.loading.Loaded.{Loaded}
use Rattle.kte_text.specs.declared.loading.Eol.{Eol}
use Rattle.kte_text.specs.declared.loading.Eol.TheVariants.{Lf, CrLf, Cr}
use Rattle.kte_text.proofs.LineLemmas.{lone_parts}
use Rattle.kte_text.proofs.Utf8Lemmas.{utf8-nil, utf8_lone, utf8_pair, pair_ranges, encode_three}
use Rattle.kte_text.proofs.SavingLemmas.{ended, joined-first, mark_of, bytes_of-first}

-- a line in UTF-8 begins with a character, its first unit or one beyond all units
record Begins (u : ℕ) (bytes : List ℕ) : Type 0 where
  code : ℕ
  rest : List ℕ
  spelled : bytes ≡ encode_utf8 code ++ rest
  same : (code ≡ u) ⊎ (2 ^ 16 ≤ code)

begins : (u : ℕ) (us : List ℕ) → has_unpaired_surrogate (u ∷ us) ≡ false → Begins u (utf8_of (u ∷ us))
begins u [] h =
    let alone : (is_high_surrogate u && false) ≡ false = and_right (is_high_surrogate u) false refl in
    let p = lone_parts u [] alone h in
    record { code = u; rest = utf8_of []; spelled = utf8_lone u [] alone p.0; same = inl refl }
begins u (v ∷ us) h =
    elim (cases_Bool (is_high_surrogate u && is_low_surrogate v)) [
      | inl t ↦ record { code = surrogate_pair_char u v; rest = utf8_of us; spelled = utf8_pair u v us t; same = inr (omega arith) }
      | inr f ↦
          let p = lone_parts u (v ∷ us) f h in
          record { code = u; rest = utf8_of (v ∷ us); spelled = utf8_lone u (v ∷ us) f p.0; same = inl refl }
    ]

begins_more : (u : ℕ) (bytes more : List ℕ) → Begins u bytes → Begins u (bytes ++ more)
begins_more u bytes more b = record {
  code = b.code;
  rest = b.rest ++ more;
  spelled = ap (λ bs. bs ++ more) b.spelled ∙ append_assoc (encode_utf8 b.code) b.rest more;
  same = b.same;
}

-- .. which is a byte of ASCII only where the unit is
begins_ascii : (u byte : ℕ) (bytes : List ℕ) → Begins u bytes → byte < 128 → slice_get bytes 0 ≡ Some byte → u ≡ byte
begins_ascii u byte bytes b small at =
    let first : slice_index bytes 0 ≡ byte = get_or_from_slice_get bytes 0 byte 0 at in
    let n = length-append (encode_utf8 b.code) b.rest in
    let some : 0 < length bytes = omega (arith, ap length b.spelled, n, length-encode b.code, len_utf8_bounds b.code) in
    let e = char_from_byte bytes b.rest b.code b.spelled (omega (arith, first, small)) some in
    elim b.same [ inl same ↦ omega (arith, same, e, first) | inr high ↦ absurd (omega (arith, high, e, first, small)) ]

mark_char : mark_bytes ≡ encode_utf8 0xFEFF
mark_char = sym (encode_three 0xFEFF (omega arith) (omega arith))

-- .. and is the mark only where the unit is U+FEFF
begins_mark : (u : ℕ) (bytes rest : List ℕ) → Begins u bytes → bytes ≡ mark_bytes ++ rest → u ≡ 0xFEFF
begins_mark u bytes rest b marked =
    let e : encode_utf8 b.code ++ b.rest ≡ encode_utf8 0xFEFF ++ rest = sym b.spelled ∙ marked ∙ ap (λ bs. bs ++ rest) mark_char in
    let c = (encode_same b.code 0xFEFF b.rest rest e).0 in
    elim b.same [ inl same ↦ omega (arith, same, c) | inr high ↦ absurd (omega (arith, high, c)) ]

-- bytes that start with the mark
starts_from : (bytes : List ℕ) → starts_with nat_eq bytes mark_bytes ≡ true → (rest : List ℕ) × (bytes ≡ mark_bytes ++ rest)
starts_from [] h = let k : zero ≡ suc zero = cc in absurd (omega (arith, k))
starts_from (a ∷ []) h = let p = and_parts _ _ h in let n : false ≡ true = p.1 in let k : zero ≡ suc zero = cc in absurd (omega (arith, k))
starts_from (a ∷ b ∷ []) h =
    let p = and_parts _ _ h in
    let q = and_parts _ _ p.1 in
    let n : false ≡ true = q.1 in
    let k : zero ≡ suc zero = cc in absurd (omega (arith, k))
starts_from (a ∷ b ∷ d ∷ rest) h =
    let p = and_parts _ _ h in
    let q = and_parts _ _ p.1 in
    let r = and_parts _ _ q.1 in
    let x : a ≡ 0xEF = sym (eqb-true 0xEF a p.0) in
    let y : b ≡ 0xBB = sym (eqb-true 0xBB b q.0) in
    let z : d ≡ 0xBF = sym (eqb-true 0xBF d r.0) in
    (rest, rw (x, y, z))

-- what follows a line that is a lone CR never begins with LF
no_lf : (lines : List (List ℕ)) (line : List ℕ) → IsLine line → slice_get (utf8_of line ++ flat_map (ended Cr) lines) 0 ≢ Some 10
no_lf [] [] whole e = let n : None ≡ Some 10 = rw utf8-nil at e in absurd (omega (arith, ap (λ (o : Option ℕ). unwrap_or o 0) n))
no_lf (next ∷ lines) [] whole e = let n : Some 13 ≡ Some 10 = rw utf8-nil at e in absurd (omega (arith, ap (λ (o : Option ℕ). unwrap_or o 0) n))
no_lf lines (u ∷ us) whole e =
    let more = flat_map (ended Cr) lines in
    let b = begins_more u (utf8_of (u ∷ us)) more (begins u us whole.paired) in
    let lf = begins_ascii u 10 (utf8_of (u ∷ us) ++ more) b (omega arith) e in
    (All-head IsLineUnit u us whole.plain).1 lf

whole_same : (line : List ℕ) (lines : List (List ℕ)) (eol : Eol) → All IsLine lines
    → HasWholeEnds (line ∷ lines) (replicate (length lines) eol)
whole_same line [] eol h = tt
whole_same line (next ∷ lines) eol h = (
  λ is_cr e. no_lf lines next (All-head IsLine next lines h) (rw is_cr at (rw (joined-first next lines eol) at e)),
  whole_same next lines eol (All-tail IsLine next lines h),
)

-- a text that is saved without the mark does not begin with it
unmarked : (line : List ℕ) (lines : List (List ℕ)) (eol : Eol) → IsLine line → nat_eq (slice_index line 0) 0xFEFF ≡ false
    → starts_with nat_eq (utf8_of line ++ flat_map (ended eol) lines) mark_bytes ≡ false
unmarked line lines eol whole other =
    elim (cases_Bool (starts_with nat_eq (utf8_of line ++ flat_map (ended eol) lines) mark_bytes)) [
      | inl t ↦ let s = starts_from _ t in absurd (not_marked line lines eol whole other s.0 s.1)
      | inr f ↦ f
    ]
  where
    not_marked : (line : List ℕ) (lines : List (List ℕ)) (eol : Eol) → IsLine line → nat_eq (slice_index line 0) 0xFEFF ≡ false
        → (rest : List ℕ) → utf8_of line ++ flat_map (ended eol) lines ≡ mark_bytes ++ rest → ⊥
    not_marked [] [] eol whole other rest e = let n : [] ≡ mark_bytes ++ rest = rw utf8-nil at e in let k : zero ≡ suc zero = cc in absurd (omega (arith, k))
    not_marked [] (next ∷ lines) Lf whole other rest e =
        let n = ap (λ bs. slice_index bs 0) (rw utf8-nil at e) in absurd (omega (arith, n))
    not_marked [] (next ∷ lines) CrLf whole other rest e =
        let n = ap (λ bs. slice_index bs 0) (rw utf8-nil at e) in absurd (omega (arith, n))
    not_marked [] (next ∷ lines) Cr whole other rest e =
        let n = ap (λ bs. slice_index bs 0) (rw utf8-nil at e) in absurd (omega (arith, n))
    not_marked (u ∷ us) lines eol whole other rest e =
        let more = flat_map (ended eol) lines in
        let b = begins_more u (utf8_of (u ∷ us)) more (begins u us whole.paired) in
        let u_mark = begins_mark u (utf8_of (u ∷ us) ++ more) rest b e in
        let t : nat_eq u 0xFEFF ≡ true = eq-eqb u 0xFEFF u_mark in
        let k : zero ≡ suc zero = cc in absurd (omega (arith, k))

marked_same : (text : List (List ℕ)) (eol : Eol) (mark : Bool) → IsText text
    → writes_mark text mark ≡ starts_with nat_eq (bytes_of text eol mark) mark_bytes
marked_same [] eol mark whole = absurd (omega (arith, whole.some))
marked_same (line ∷ lines) eol mark whole =
    let text = line ∷ lines in
    elim (cases_Bool (writes_mark text mark)) [
      | inl t ↦ rw t
      | inr f ↦
          let other : nat_eq (slice_index line 0) 0xFEFF ≡ false = right_false mark (nat_eq (slice_index line 0) 0xFEFF) f in
          let none : mark_of text mark ≡ [] = rw f in
          let parts : bytes_of text eol mark ≡ utf8_of line ++ flat_map (ended eol) lines =
          bytes_of-first text eol mark whole.some ∙ ap (λ front. front ++ utf8_of line ++ flat_map (ended eol) lines) none in
          f ∙ sym (ap (λ bytes. starts_with nat_eq bytes mark_bytes) parts ∙ unmarked line lines eol (All-head IsLine line lines whole.whole) other)
    ]
  where
    right_false : (a b : Bool) → (a || b) ≡ false → b ≡ false
    right_false true b h = cc
    right_false false b h = h

first_end : (text : List (List ℕ)) (eol : Eol) → 0 < length text
    → loaded_eol text eol ≡ unwrap_or (slice_get (replicate (length text - 1) eol) 0) Lf
first_end [] eol some = absurd (omega arith)
first_end (line ∷ []) eol some = refl
first_end (line ∷ next ∷ lines) eol some =
    let f : nat_eq (length (line ∷ next ∷ lines)) 1 ≡ false = ne_eqb _ _ (λ e. omega (arith, e)) in
    let n : length (line ∷ next ∷ lines) - 1 ≡ suc (length lines) = omega arith in
    rw (f, n)

-- a saved text loads as itself
pub Loads-bytes_of : (text : List (List ℕ)) (eol : Eol) (mark : Bool) → IsText text
    → Loads (bytes_of text eol mark) (record { text = text; eol = loaded_eol text eol; bom = writes_mark text mark })
Loads-bytes_of [] eol mark whole = absurd (omega (arith, whole.some))
Loads-bytes_of (line ∷ lines) eol mark whole =
    let text = line ∷ lines in
    let n : length text - 1 ≡ length lines = omega arith in
    record {
      ends = replicate (length text - 1) eol;
      lines = whole.whole;
      between = omega (arith, length-replicate (length text - 1) eol);
      spelled = refl;
      whole = rw n (whole_same line lines eol (All-tail IsLine line lines whole.whole));
      first = first_end text eol whole.some;
      marked = marked_same text eol mark whole;
    }
