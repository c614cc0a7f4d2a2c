-- Where a search of the bytes finds the end of a line.
use Rattle.std.proofs.Common.{◌≡◌, ◌≢◌, ℕ, suc, ◌+◌, ◌-◌, ◌<◌, ◌≤◌, true, false, not, List, [], ◌∷◌, ◌++◌, length, take, drop, get_or, nat_eq, refl, sym, ap, ◌∙◌, inl, inr, arith, length-append, length-take, length-drop, take-append-drop, Option, Some, None}
use Rattle.std.specs.Prelude.{slice_get, slice_range, unwrap_or}
use Rattle.std.proofs.Math.Seq.{drop-cons, take_all}
use Rattle.std.proofs.Math.Utf8.{encode}
use Rattle.std.proofs.lemmas.Bool.{cases_Bool, or_cases, false_from_ne_true, not_from_true, not_from_false, eqb-true, lt-ltb, le-ltb, false≢true}
use Rattle.std.proofs.lemmas.List.{get_or-take, drop-drop}
use Rattle.std.proofs.lemmas.List.Elements.{All-from_get_or}
use Rattle.std.proofs.lemmas.List.Folds.{list_any_none}
use Rattle.std.proofs.lemmas.List.Sums.{prefix_len_is}
use Rattle.std.proofs.lemmas.Str.{encode_ascii, encodes-chars, scalars-chars, chars-append, chars_past_char, IsUtf8-past_char, IsUtf8-take, IsUtf8-drop, IsCharBoundary-before_ascii}
use Rattle.std.specs.List.{list_any, position, position_or_len}
use Rattle.std.specs.Str.{IsUtf8, chars}
use Rattle.memchr.specs.Find.{IsFirstByte}
use Rattle.kte_text.specs.Units.{is_line_end}
use Rattle.kte_text.specs.Files.{end_bytes}
use Rattle.kte_text.specs.Reading.{lines_of, lines_after, end_of, ends_after, first_end, utf16_of}
use Rattle.kte_text.specs.declared.loading.Eol.TheVariants.{Lf, Cr}
use Rattle.kte_text.proofs.CharLemmas.{ends-encodes}
use Rattle.kte_text.proofs.ReadingLemmas.{first_lf, lines_after-line, lines_after-last}

-- no line end is before the place that the search has found, and none at all where it has found none

none_in : (xs : List ℕ) → ((k : ℕ) → k < length xs → is_line_end (get_or xs k 0) ≡ true → ⊥) → list_any is_line_end xs ≡ false
none_in xs none =
    list_any_none is_line_end xs (All-from_get_or (λ x. is_line_end x ≡ false) xs 0 (λ k within. false_from_ne_true _ (none k within)))

pub none_found : (xs : List ℕ) → IsFirstByte is_line_end xs None → list_any is_line_end xs ≡ false
none_found xs first = none_in xs (λ k within is. first k (omega arith) within is)

-- the search has found k
pub record FoundAt (xs : List ℕ) (k : ℕ) : Type 0 where
  pub within : k < length xs
  pub is : is_line_end (get_or xs k 0) ≡ true
  pub none_before : list_any is_line_end (take k xs) ≡ false
  pub ascii : get_or xs k 0 < 128

ascii_end : (b : ℕ) → is_line_end b ≡ true → b < 128
ascii_end b h =
    elim (or_cases (nat_eq b 10) (nat_eq b 13) h) [
      | inl e ↦ let is = eqb-true b 10 e in omega arith
      | inr e ↦ let is = eqb-true b 13 e in omega arith
    ]

pub found_at : (xs : List ℕ) (k : ℕ) → IsFirstByte is_line_end xs (Some k) → FoundAt xs k
found_at xs k first =
    let range = first.0 in
    record {
      within = range.high;
      is = first.1;
      none_before = none_in (take k xs) (λ j within is.
          let below : j < k = omega (arith, length-take k xs) in
          range.before j (omega arith) below (rw (get_or-take k xs j 0 below) at is));
      ascii = ascii_end (get_or xs k 0) first.1;
    }

-- the same as `position`
none_at : (xs : List ℕ) (k : ℕ) → (is_line_end (get_or xs k 0) ≡ true → ⊥) → not (is_line_end (get_or xs k 0)) ≡ true
none_at xs k other = not_from_false _ (false_from_ne_true _ other)

pub position-found : (xs : List ℕ) (r : Option ℕ) → IsFirstByte is_line_end xs r → position is_line_end xs ≡ r
position-found xs None first =
    let len : position_or_len is_line_end xs ≡ length xs =
    prefix_len_is (λ x. not (is_line_end x)) xs (length xs) 0 (omega arith)
    (λ k within. none_at xs k (λ is. first k (omega arith) within is)) (λ within. absurd (omega arith)) in
    rw (len, le-ltb (length xs) (length xs) (omega arith))
position-found xs (Some k) first =
    let range = first.0 in
    let within : k < length xs = range.high in
    let len : position_or_len is_line_end xs ≡ k =
    prefix_len_is (λ x. not (is_line_end x)) xs k 0 (omega arith)
    (λ j below. none_at xs j (λ is. range.before j (omega arith) below is)) (λ _. not_from_true _ first.1) in
    rw (len, lt-ltb k (length xs) within)

-- the line end that is found, and what follows it

abbrev after_end : List ℕ → List ℕ
after_end bytes = drop (length (end_bytes (end_of bytes))) bytes

-- an end in front of a text in UTF-8
record Front (bytes : List ℕ) : Type 0 where
  pub spelled : bytes ≡ end_bytes (end_of bytes) ++ after_end bytes
  pub utf8 : IsUtf8 (after_end bytes)
  pub chars_are : chars bytes ≡ end_bytes (end_of bytes) ++ chars (after_end bytes)
  pub whole : end_of bytes ≡ Cr → slice_get (chars (after_end bytes)) 0 ≢ Some 10

past_ascii : (b : ℕ) (bytes : List ℕ) → b < 128 → IsUtf8 (b ∷ bytes) → IsUtf8 bytes × (chars (b ∷ bytes) ≡ b ∷ chars bytes)
past_ascii b bytes low u =
    let e : b ∷ bytes ≡ encode b ++ bytes = rw (encode_ascii b low) in
    (IsUtf8-past_char (b ∷ bytes) bytes b u e, chars_past_char (b ∷ bytes) bytes b u e)

-- an LF in front of characters is an LF in front of their bytes
lf_in_front : (bytes : List ℕ) → IsUtf8 bytes → slice_get (chars bytes) 0 ≡ Some 10 → slice_get bytes 0 ≡ Some 10
lf_in_front bytes u e = rw (encodes-chars bytes u) at (first_lf (chars bytes) e)

front_lf : (bytes : List ℕ) → IsUtf8 (10 ∷ bytes) → Front (10 ∷ bytes)
front_lf bytes u =
    let p = past_ascii 10 bytes (omega arith) u in
    record { spelled = refl; utf8 = p.0; chars_are = p.1; whole = λ e. absurd cc }

front_cr : (bytes : List ℕ) → IsUtf8 (13 ∷ bytes) → Front (13 ∷ bytes)
front_cr [] u =
    let p = past_ascii 13 [] (omega arith) u in
    record { spelled = refl; utf8 = p.0; chars_are = p.1; whole = λ e lf. let no = lf_in_front [] p.0 lf in cc }
front_cr (b ∷ bytes) u =
    let p = past_ascii 13 (b ∷ bytes) (omega arith) u in
    elim (cases_Bool (nat_eq b 10)) [
      | inl t ↦
          let is = eqb-true b 10 t in
          let utf8 : IsUtf8 (10 ∷ bytes) = rw is at p.0 in
          let q = past_ascii 10 bytes (omega arith) utf8 in
          let both : chars (13 ∷ 10 ∷ bytes) ≡ 13 ∷ 10 ∷ chars bytes = rw is at p.1 ∙ ap (λ cs. 13 ∷ cs) q.1 in
          let made : Front (13 ∷ 10 ∷ bytes) = record { spelled = refl; utf8 = q.0; chars_are = both; whole = λ e. absurd cc } in
          rw is made
      | inr f ↦
          let cr : end_of (13 ∷ b ∷ bytes) ≡ Cr = rw f in
          record {
            spelled = rw cr;
            utf8 = rw cr p.0;
            chars_are = rw cr p.1;
            whole = λ e. rw cr (λ lf.
                let first : Some b ≡ Some 10 = lf_in_front (b ∷ bytes) p.0 lf in
                let same : b ≡ 10 = cc in
                false≢true (sym f ∙ rw same));
          }
    ]

front_end : (b : ℕ) (bytes : List ℕ) → is_line_end b ≡ true → IsUtf8 (b ∷ bytes) → Front (b ∷ bytes)
front_end b bytes h u =
    elim (or_cases (nat_eq b 10) (nat_eq b 13) h) [
      | inl e ↦ let is = eqb-true b 10 e in rw is (front_lf bytes (rw is at u))
      | inr e ↦ let is = eqb-true b 13 e in rw is (front_cr bytes (rw is at u))
    ]

-- a text is the line before the end that is found, this end, and what follows
pub record Split (bytes : List ℕ) (k : ℕ) : Type 0 where
  pub front : IsUtf8 (take k bytes)
  pub end : IsUtf8 (drop k bytes)
  pub utf8 : IsUtf8 (after_end (drop k bytes))
  pub within : k + length (end_bytes (end_of (drop k bytes))) ≤ length bytes
  pub lines : lines_of bytes ≡ utf16_of (take k bytes) ∷ lines_of (after_end (drop k bytes))
  pub first : first_end bytes ≡ end_of (drop k bytes)

pub split : (bytes : List ℕ) (k : ℕ) → IsUtf8 bytes → FoundAt bytes k → Split bytes k
split bytes k u found =
    let boundary = IsCharBoundary-before_ascii bytes k found.within found.ascii in
    let front = IsUtf8-take bytes k u boundary in
    let end = IsUtf8-drop bytes k u boundary in
    let cons = drop-cons bytes k 0 found.within in
    let f : Front (drop k bytes) = rw cons (front_end (get_or bytes k 0) (drop (suc k) bytes) found.is (rw cons at end)) in
    let front_scalars = scalars-chars (take k bytes) front in
    let none : list_any is_line_end (chars (take k bytes)) ≡ false =
    sym (ends-encodes (chars (take k bytes)) front_scalars) ∙ rw (encodes-chars (take k bytes) front) found.none_before in
    let whole : chars bytes ≡ chars (take k bytes) ++ (end_bytes (end_of (drop k bytes)) ++ chars (after_end (drop k bytes))) =
    ap chars (sym (take-append-drop k bytes)) ∙ chars-append (take k bytes) (drop k bytes) front
    ∙ ap (λ cs. chars (take k bytes) ++ cs) f.chars_are in
    let line = lines_after-line (chars (take k bytes)) (end_of (drop k bytes)) (chars (after_end (drop k bytes))) none f.whole in
    let long = ap length f.spelled ∙ length-append (end_bytes (end_of (drop k bytes))) (after_end (drop k bytes)) in
    record {
      front = front;
      end = end;
      utf8 = f.utf8;
      within = let here = found.within in omega (arith, long, length-drop k bytes);
      lines = ap (lines_after false) whole ∙ line.0;
      first = ap (λ cs. unwrap_or (slice_get (ends_after false cs) 0) Lf) whole ∙ ap (λ ends. unwrap_or (slice_get ends 0) Lf) line.1;
    }

-- a text without a line end is one line
pub one_line : (bytes : List ℕ) → IsUtf8 bytes → list_any is_line_end bytes ≡ false
    → (lines_of bytes ≡ utf16_of bytes ∷ []) × (first_end bytes ≡ Lf)
one_line bytes u none =
    let none_there : list_any is_line_end (chars bytes) ≡ false =
    sym (ends-encodes (chars bytes) (scalars-chars bytes u)) ∙ rw (encodes-chars bytes u) none in
    let last = lines_after-last (chars bytes) none_there in
    (last.0, ap (λ ends. unwrap_or (slice_get ends 0) Lf) last.1)

-- the same from a place in a text on
pub record Step (text : List ℕ) (from k : ℕ) : Type 0 where
  pub within : from + k + length (end_bytes (end_of (drop (from + k) text))) ≤ length text
  pub utf8 : IsUtf8 (drop (from + k + length (end_bytes (end_of (drop (from + k) text)))) text)
  pub lines : lines_of (drop from text)
      ≡ utf16_of (take k (drop from text)) ∷ lines_of (drop (from + k + length (end_bytes (end_of (drop (from + k) text)))) text)

pub step : (text : List ℕ) (from k : ℕ) → from ≤ length text → IsUtf8 (drop from text) → FoundAt (drop from text) k → Step text from k
step text from k start u found =
    let s = split (drop from text) k u found in
    let there : drop k (drop from text) ≡ drop (from + k) text = drop-drop k from text in
    let n : ℕ = length (end_bytes (end_of (drop (from + k) text))) in
    let after : after_end (drop k (drop from text)) ≡ drop (from + k + n) text =
    ap after_end there ∙ drop-drop n (from + k) text in
    let within : k + n ≤ length (drop from text) = rw there at s.within in
    record {
      within = omega (arith, within, length-drop from text);
      utf8 = rw after at s.utf8;
      lines = rw after at s.lines;
    }

-- what is left of a text, as a slice
pub rest_is : (bytes text : List ℕ) (from : ℕ) → bytes ≡ text → take (length bytes - from) (drop from bytes) ≡ drop from text
rest_is bytes text from e = take_all (length bytes - from) (drop from bytes) (omega (arith, length-drop from bytes)) ∙ rw e

pub part_is : (text : List ℕ) (from k : ℕ) → slice_range text from (from + k) ≡ take k (drop from text)
part_is text from k = let same : from + k - from ≡ k = omega arith in rw same
