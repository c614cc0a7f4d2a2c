-- Which text a file has, and which files are refused, for callers.
use Rattle.std.proofs.Common.{◌≡◌, ℕ, ◌<◌, ◌≤◌, Bool, true, false, List, [], ◌++◌, length, drop, nat_eq, refl, sym, ap, ◌∙◌, inl, inr, arith, length-drop}
use Rattle.std.specs.Prelude.{slice_get, unwrap_or, if◌then◌else◌}
use Rattle.std.proofs.Math.Utf8.{encode}
use Rattle.std.proofs.lemmas.Bool.{cases_Bool}
use Rattle.std.proofs.lemmas.Bool.Decides.{Decides-eqb}
use Rattle.std.proofs.lemmas.Slice.Eq.{starts_is}
use Rattle.std.proofs.lemmas.Str.{IsUtf8-append, IsUtf8-encode, IsUtf8-past_char, encodes-chars, scalars-chars}
use Rattle.std.specs.List.{starts_with}
use Rattle.std.specs.Str.{IsUtf8, chars}
use Rattle.kte_text.specs.Texts.{IsText, size_of}
use Rattle.kte_text.specs.Files.{mark_bytes, joined, Loads, Refuses}
use Rattle.kte_text.specs.Reading.{lines_of, ends_after, first_end, mark_len, size_after, file_size}
use Rattle.kte_text.specs.declared.TheConstants.{MAX_SIZE, MAX_FILE_LENGTH}
use Rattle.kte_text.specs.declared.loading.Eol.TheVariants.{Lf}
use Rattle.kte_text.specs.declared.loading.Loaded.{Loaded}
use Rattle.kte_text.specs.declared.loading.LoadFault.{LoadFault}
use Rattle.kte_text.specs.declared.loading.LoadFault.TheVariants as fault
use Rattle.kte_text.proofs.ReadingLemmas.{Makes, makes, Makes_same, IsUtf8-from_Makes, lines_after-some}
use Rattle.kte_text.proofs.SizeLemmas.{size_of-lines_after, size_after-le}

abbrev has_mark : List ℕ → Bool
has_mark bytes = starts_with nat_eq bytes mark_bytes

abbrev front : Bool → List ℕ
front bom = if bom then mark_bytes else []

encode_mark : encode 0xFEFF ≡ mark_bytes
unfolding encode
encode_mark = refl

-- the mark and the rest of a file
mark-rest : (bytes : List ℕ) → bytes ≡ front (has_mark bytes) ++ drop (mark_len bytes) bytes
mark-rest bytes =
    elim (cases_Bool (has_mark bytes)) [
      | inl t ↦ let k = starts_is Decides-eqb bytes mark_bytes (has_mark bytes) refl in let e = k.0 t in rw t e
      | inr f ↦ rw f
    ]

pub IsUtf8-rest : (bytes : List ℕ) → IsUtf8 bytes → IsUtf8 (drop (mark_len bytes) bytes)
IsUtf8-rest bytes u =
    elim (cases_Bool (has_mark bytes)) [
      | inl t ↦
          let e : bytes ≡ mark_bytes ++ drop 3 bytes = rw t at (mark-rest bytes) in
          let past : bytes ≡ encode 0xFEFF ++ drop 3 bytes = rw encode_mark e in
          rw t (IsUtf8-past_char bytes (drop 3 bytes) 0xFEFF u past)
      | inr f ↦ rw f u
    ]

front-drop : (bom : Bool) (rest : List ℕ) → drop (if bom then 3 else 0) (front bom ++ rest) ≡ rest
front-drop true rest = refl
front-drop false rest = refl

-- what a file has without its mark
pub rest-Loads : (bytes : List ℕ) (loaded : Loaded) (l : Loads bytes loaded) → drop (mark_len bytes) bytes ≡ joined loaded.text l.ends
rest-Loads bytes loaded l =
    let e : drop (if loaded.bom then 3 else 0) bytes ≡ joined loaded.text l.ends =
    ap (drop (if loaded.bom then 3 else 0)) l.spelled ∙ front-drop loaded.bom (joined loaded.text l.ends) in
    rw l.marked at e

pub Makes-Loads : (bytes : List ℕ) (loaded : Loaded) (l : Loads bytes loaded) → Makes (drop (mark_len bytes) bytes) loaded.text l.ends
Makes-Loads bytes loaded l = record {
  are_lines = l.lines;
  between = l.between;
  spelled = rest-Loads bytes loaded l;
  whole = l.whole;
}

-- a file has one text, one kind of first line end, and a mark or none
pub Loads_same : (bytes : List ℕ) (a b : Loaded) → Loads bytes a → Loads bytes b → a ≡ b
Loads_same bytes a b la lb =
    let same = Makes_same (drop (mark_len bytes) bytes) a.text b.text la.ends lb.ends (Makes-Loads bytes a la) (Makes-Loads bytes b lb) in
    let eol : a.eol ≡ b.eol = la.first ∙ ap (λ ends. unwrap_or (slice_get ends 0) Lf) same.1 ∙ sym lb.first in
    let bom : a.bom ≡ b.bom = la.marked ∙ sym lb.marked in
    λ i. record { text = same.0 i; eol = eol i; bom = bom i }

-- a file in UTF-8 has a text
abbrev pub loaded_of : List ℕ → Loaded
loaded_of bytes = record {
  text = lines_of (drop (mark_len bytes) bytes);
  eol = first_end (drop (mark_len bytes) bytes);
  bom = has_mark bytes;
}

pub Loads-IsUtf8 : (bytes : List ℕ) → IsUtf8 bytes → Loads bytes (loaded_of bytes)
Loads-IsUtf8 bytes u =
    let rest : List ℕ = drop (mark_len bytes) bytes in
    let utf8 = IsUtf8-rest bytes u in
    let m = makes (chars rest) (scalars-chars rest utf8) in
    let e : rest ≡ joined (lines_of rest) (ends_after false (chars rest)) = sym (encodes-chars rest utf8) ∙ m.spelled in
    record {
      ends = ends_after false (chars rest);
      lines = m.are_lines;
      between = m.between;
      spelled = mark-rest bytes ∙ ap (λ xs. front (has_mark bytes) ++ xs) e;
      whole = m.whole;
      first = refl;
      marked = refl;
    }

-- a file that has a text is UTF-8
IsUtf8-front : (bom : Bool) → IsUtf8 (front bom)
IsUtf8-front true = rw (← encode_mark) (IsUtf8-encode 0xFEFF refl)
IsUtf8-front false = ([], (refl, refl))

pub IsUtf8-Loads : (bytes : List ℕ) (loaded : Loaded) → Loads bytes loaded → IsUtf8 bytes
IsUtf8-Loads bytes loaded l =
    let rest = IsUtf8-from_Makes _ loaded.text l.ends (Makes-Loads bytes loaded l) in
    rw (mark-rest bytes) (IsUtf8-append (front (has_mark bytes)) (drop (mark_len bytes) bytes) (IsUtf8-front (has_mark bytes)) rest)

-- the size of its text, which is at most its length
pub size_of-read : (bytes : List ℕ) → IsUtf8 bytes → size_of (lines_of (drop (mark_len bytes) bytes)) ≡ file_size bytes
size_of-read bytes u =
    let rest : List ℕ = drop (mark_len bytes) bytes in
    let utf8 = IsUtf8-rest bytes u in
    size_of-lines_after (chars rest) (scalars-chars rest utf8) ∙ ap (size_after false) (encodes-chars rest utf8)

pub file_size-le : (bytes : List ℕ) → IsUtf8 bytes → file_size bytes ≤ length (drop (mark_len bytes) bytes)
file_size-le bytes u =
    let rest : List ℕ = drop (mark_len bytes) bytes in
    let utf8 = IsUtf8-rest bytes u in
    rw (encodes-chars rest utf8) at (size_after-le false (chars rest) (scalars-chars rest utf8))

pub size_of-Loads : (bytes : List ℕ) (loaded : Loaded) → Loads bytes loaded → size_of loaded.text ≡ file_size bytes
size_of-Loads bytes loaded l =
    let u = IsUtf8-Loads bytes loaded l in
    ap (λ (x : Loaded). size_of x.text) (Loads_same bytes loaded (loaded_of bytes) l (Loads-IsUtf8 bytes u)) ∙ size_of-read bytes u

pub size_of-Loads-le : (bytes : List ℕ) (loaded : Loaded) → Loads bytes loaded → size_of loaded.text ≤ length bytes
size_of-Loads-le bytes loaded l =
    let e = size_of-Loads bytes loaded l in
    let few = file_size-le bytes (IsUtf8-Loads bytes loaded l) in
    omega (arith, e, few, length-drop (mark_len bytes) bytes)

pub IsText-read : (bytes : List ℕ) → IsUtf8 bytes → file_size bytes ≤ MAX_SIZE → IsText (lines_of (drop (mark_len bytes) bytes))
IsText-read bytes u small =
    let rest : List ℕ = drop (mark_len bytes) bytes in
    let utf8 = IsUtf8-rest bytes u in
    let e = size_of-read bytes u in
    record {
      whole = (makes (chars rest) (scalars-chars rest utf8)).are_lines;
      some = lines_after-some false (chars rest);
      small = omega arith;
    }

-- a file has one fault at most

pub Refuses_same : (bytes : List ℕ) (a b : LoadFault) → Refuses bytes a → Refuses bytes b → a ≡ b
Refuses_same bytes fault.LongFile fault.LongFile ha hb = refl
Refuses_same bytes fault.LongFile (fault.NotUtf8 at) ha hb = absurd (omega (arith, hb.0))
Refuses_same bytes fault.LongFile (fault.TooLarge size) ha hb = absurd (omega (arith, hb.0))
Refuses_same bytes (fault.NotUtf8 at) fault.LongFile ha hb = absurd (omega (arith, ha.0))
Refuses_same bytes (fault.NotUtf8 at) (fault.NotUtf8 at') ha hb = ap fault.NotUtf8 (ha.2 ∙ sym hb.2)
Refuses_same bytes (fault.NotUtf8 at) (fault.TooLarge size) ha hb = absurd (ha.1 (IsUtf8-Loads bytes hb.1.0 hb.1.1))
Refuses_same bytes (fault.TooLarge size) fault.LongFile ha hb = absurd (omega (arith, ha.0))
Refuses_same bytes (fault.TooLarge size) (fault.NotUtf8 at) ha hb = absurd (hb.1 (IsUtf8-Loads bytes ha.1.0 ha.1.1))
Refuses_same bytes (fault.TooLarge size) (fault.TooLarge size') ha hb =
    ap fault.TooLarge (ha.1.2 ∙ size_of-Loads bytes ha.1.0 ha.1.1 ∙ sym (hb.1.2 ∙ size_of-Loads bytes hb.1.0 hb.1.1))
Refuses_same bytes fault.NoMemory b ha hb = absurd ha
Refuses_same bytes a fault.NoMemory ha hb = absurd hb

-- and none where it has a text of a size and a length that are allowed
pub Refuses-none : (bytes : List ℕ) (loaded : Loaded) (a : LoadFault) → length bytes ≤ MAX_FILE_LENGTH → Loads bytes loaded
    → size_of loaded.text ≤ MAX_SIZE → ¬ (Refuses bytes a)
Refuses-none bytes loaded fault.LongFile short l small h = omega arith
Refuses-none bytes loaded (fault.NotUtf8 at) short l small h = h.1 (IsUtf8-Loads bytes loaded l)
Refuses-none bytes loaded (fault.TooLarge size) short l small h =
    let same = ap (λ (x : Loaded). size_of x.text) (Loads_same bytes loaded h.1.0 l h.1.1) in omega (arith, same, h.1.2, h.1.3)
Refuses-none bytes loaded fault.NoMemory short l small h = h

-- a file in UTF-8 of an allowed length whose text would be larger
pub Refuses-large : (bytes : List ℕ) → length bytes ≤ MAX_FILE_LENGTH → IsUtf8 bytes → MAX_SIZE < file_size bytes
    → Refuses bytes (fault.TooLarge (file_size bytes))
Refuses-large bytes short u large =
    let l = Loads-IsUtf8 bytes u in
    (short, (loaded_of bytes, l, sym (size_of-Loads bytes (loaded_of bytes) l), large))

-- and none where its text is not too large, counted over its bytes
pub Refuses-small : (bytes : List ℕ) (a : LoadFault) → length bytes ≤ MAX_FILE_LENGTH → IsUtf8 bytes → file_size bytes ≤ MAX_SIZE → ¬ (Refuses bytes a)
Refuses-small bytes a short u small =
    let l = Loads-IsUtf8 bytes u in
    Refuses-none bytes (loaded_of bytes) a short l (let e = size_of-Loads bytes (loaded_of bytes) l in omega arith)
