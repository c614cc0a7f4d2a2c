-- What is spelled by a row is read again off its table.
use Rattle.std.proofs.Common.{◌≡◌, ℕ, Bool, true, false, List, [], ◌∷◌, ◌++◌, None, Some, Ok, refl, sym, ap, ◌∙◌, subst, append_assoc, inl, inr}
use Rattle.kte_find.specs.declared.rule.Rule.TheVariants as rules
use Rattle.kte_script.specs.declared.limits.Limits.TheVariants.{Journal}
use Rattle.kte_script.specs.Words.{skip, word, behind, ends_here}
use Rattle.kte_script.specs.Strings.{spell_text}
use Rattle.kte_script.specs.Fields.{Kind, Number, OrNone, APlace, ASpan, OrInvalid, Spans, AText, APattern, AQuery, ARule, Expands, Empties, Succeeds, Closes, Value, word_at, starts_number, spell_field}
use Rattle.kte_script.specs.Table.{Values, Row, Filled, row_in, spell_fields, spell_filled}
use Rattle.kte_script.specs.Reading.{read_fields, row_at, front_at}
use Rattle.kte_script.specs.Limits.{AllFit, ArePartedBy}
use Rattle.kte_script.specs.InWords.{IsOneOf}
use Rattle.kte_script.proofs.AgainLemmas.{IsWord, taken}
use Rattle.kte_script.proofs.ReadsLemmas.{bind_ok, done_same, word_found}
use Rattle.kte_script.proofs.LineInWordsLemmas.{row_sound}
use Rattle.kte_script.proofs.RoundLemmas.{filled_again-spaced}
use Rattle.kte_report.specs.Lines.{is_in_line}
use Rattle.kte_report.proofs.FieldLemmas.{fields_fit}

-- a field is empty or begins with a space
field_starts : (kind : Kind) (value : Value kind) (rest : List ℕ) → ends_here rest ≡ true → ends_here (spell_field kind value ++ rest) ≡ true
unfolding spell_text
field_starts (Number count) n rest e = refl
field_starts (OrNone count) None rest e = refl
field_starts (OrNone count) (Some n) rest e = refl
field_starts APlace place rest e = refl
field_starts ASpan span rest e = refl
field_starts OrInvalid None rest e = refl
field_starts OrInvalid (Some span) rest e = refl
field_starts Spans [] rest e = e
field_starts Spans (span ∷ spans) rest e = refl
field_starts AText text rest e = refl
field_starts APattern line rest e = refl
field_starts AQuery query rest e = refl
field_starts ARule (rules.Word word) rest e = refl
field_starts ARule rules.Blanks rest e = refl
field_starts ARule (rules.Long limit) rest e = refl
field_starts ARule rules.Pairs rest e = refl
field_starts ARule rules.Repeat rest e = refl
field_starts Expands expand rest e = refl
field_starts Empties empty rest e = refl
field_starts Succeeds ok rest e = refl
field_starts Closes closed rest e = refl

fields_start : (kinds : List Kind) (values : Values kinds) (rest : List ℕ) → ends_here rest ≡ true → ends_here (spell_fields kinds values ++ rest) ≡ true
fields_start [] values rest e = e
fields_start (kind ∷ kinds) values rest e =
    rw (append_assoc (spell_field kind values.0) (spell_fields kinds values.1) rest) (field_starts kind values.0 (spell_fields kinds values.1 ++ rest) (fields_start kinds values.1 rest e))

-- ---- the rows of a table

-- this holds of each of these rows
abbrev pub OfEach : {A : Type 0} → (Row A → Type 0) → List (Row A) → Type 0
OfEach P [] = Unit {0}
OfEach P (row ∷ rows) = P row × OfEach P rows

of_one : {A : Type 0} (P : Row A → Type 0) (rows : List (Row A)) (row : Row A) → IsOneOf rows row → OfEach P rows → P row
of_one P [] row is each = absurd is
of_one P (first ∷ rows) row (inl e) each = subst P (sym e) each.0
of_one P (first ∷ rows) row (inr is) each = of_one P rows row is each.1

pub of_row : {A : Type 0} (P : Row A → Type 0) (rows : List (Row A)) (w : List ℕ) (row : Row A) → OfEach P rows → row_in rows w ≡ Some row → P row
of_row P rows w row each e = of_one P rows row (row_sound rows w row e).0 each

-- spans are the last of the fields, if there are any
abbrev pub spans_last : List Kind → Bool
spans_last [] = true
spans_last (Spans ∷ []) = true
spans_last (Spans ∷ kind ∷ kinds) = false
spans_last (kind ∷ kinds) = spans_last kinds

-- a row with a word, which has no line end, and with spans at its end only
pub record IsPlain {A : Type 0} (row : Row A) : Type 0 where
  pub is : IsWord row.word
  pub inside : is_in_line row.word ≡ true
  pub last : spans_last row.kinds ≡ true

-- what may follow the fields of such a row
pub record IsRest (rest : List ℕ) : Type 0 where
  pub ends : ends_here rest ≡ true
  pub none : starts_number (skip rest) ≡ false

parted : (kinds : List Kind) (values : Values kinds) (rest : List ℕ) → spans_last kinds ≡ true → IsRest rest → ArePartedBy kinds values rest
parted [] values rest e is = tt
parted (Number count ∷ kinds) values rest e is = (tt, parted kinds values.1 rest e is)
parted (OrNone count ∷ kinds) values rest e is = (tt, parted kinds values.1 rest e is)
parted (APlace ∷ kinds) values rest e is = (tt, parted kinds values.1 rest e is)
parted (ASpan ∷ kinds) values rest e is = (tt, parted kinds values.1 rest e is)
parted (OrInvalid ∷ kinds) values rest e is = (tt, parted kinds values.1 rest e is)
parted (Spans ∷ []) values rest e is = (is.none, tt)
parted (Spans ∷ kind ∷ kinds) values rest e is = absurd cc
parted (AText ∷ kinds) values rest e is = (tt, parted kinds values.1 rest e is)
parted (APattern ∷ kinds) values rest e is = (tt, parted kinds values.1 rest e is)
parted (AQuery ∷ kinds) values rest e is = (tt, parted kinds values.1 rest e is)
parted (ARule ∷ kinds) values rest e is = (tt, parted kinds values.1 rest e is)
parted (Expands ∷ kinds) values rest e is = (tt, parted kinds values.1 rest e is)
parted (Empties ∷ kinds) values rest e is = (tt, parted kinds values.1 rest e is)
parted (Succeeds ∷ kinds) values rest e is = (tt, parted kinds values.1 rest e is)
parted (Closes ∷ kinds) values rest e is = (tt, parted kinds values.1 rest e is)

-- ---- what is spelled by a row

-- a row that its word finds in the table, and whose values make this
pub record IsListed {A : Type 0} (rows : List (Row A)) (f : Filled A) (value : A) : Type 0 where
  pub there : row_in rows f.row.word ≡ Some f.row
  pub made : f.row.make f.values ≡ value

-- what holds of each row of the table holds of a row that is listed
pub of_listed : {A : Type 0} (P : Row A → Type 0) (rows : List (Row A)) (f : Filled A) (value : A) → OfEach P rows → IsListed rows f value → P f.row
of_listed P rows f value each is = of_row P rows f.row.word f.row each is.there

-- the row after a space
pub listed_front : {A : Type 0} (rows : List (Row A)) (f : Filled A) (value : A) (rest : List ℕ) → OfEach IsPlain rows → IsListed rows f value → AllFit Journal f.row.kinds f.values → IsRest rest → front_at Journal rows (32 ∷ spell_filled f ++ rest) ≡ Ok (value, rest)
listed_front {A} rows f value rest each is fits after =
    let plain = of_listed IsPlain rows f value each is in
    filled_again-spaced Journal rows f rest plain.is is.there fits (parted f.row.kinds f.values rest plain.last after) after.ends ∙ ap (λ (x : A). Ok (x, rest)) is.made

-- the first word of a row
pub listed_word : {A : Type 0} (rows : List (Row A)) (f : Filled A) (value : A) (rest : List ℕ) → OfEach IsPlain rows → IsListed rows f value → ends_here rest ≡ true → word (skip (32 ∷ spell_filled f ++ rest)) ≡ f.row.word
listed_word rows f value rest each is e =
    rw (append_assoc f.row.word (spell_fields f.row.kinds f.values) rest) (taken f.row.word (spell_fields f.row.kinds f.values ++ rest) (of_listed IsPlain rows f value each is).is (fields_start f.row.kinds f.values rest e)).0

-- .. and what is read after it
pub listed_after : {A : Type 0} (rows : List (Row A)) (f : Filled A) (value : A) (rest : List ℕ) → OfEach IsPlain rows → IsListed rows f value → AllFit Journal f.row.kinds f.values → IsRest rest → row_at Journal f.row (behind (skip (32 ∷ spell_filled f ++ rest))) ≡ Ok (value, rest)
unfolding front_at
listed_after rows f value rest each is fits after =
    rw (listed_word rows f value rest each is after.ends, is.there) at (listed_front rows f value rest each is fits after)

-- ---- what is read off a table

-- this holds of whatever the row makes
abbrev pub Made : {A : Type 0} → (A → Type 0) → Row A → Type 0
Made P row = (values : Values row.kinds) → AllFit Journal row.kinds values → P (row.make values)

pub after_made : {A : Type 0} (P : A → Type 0) (row : Row A) (bytes : List ℕ) (value : A) (rest : List ℕ) → Made P row → row_at Journal row bytes ≡ Ok (value, rest) → P value
unfolding row_at
after_made {A} P row bytes value rest made e =
    let q = bind_ok (read_fields Journal row.kinds bytes) (λ values. Ok (row.make values.0, values.1)) (value, rest) e in
    let same : (row.make q.0.0, q.0.1) ≡ (value, rest) = done_same {A = A × List ℕ} (row.make q.0.0, q.0.1) (value, rest) q.2 in
    subst (λ (z : A × List ℕ). P z.0) same (made q.0.0 (fields_fit Journal row.kinds bytes q.0.1 q.0.0 q.1))

pub front_made : {A : Type 0} (P : A → Type 0) (rows : List (Row A)) (bytes : List ℕ) (value : A) (rest : List ℕ) → OfEach (Made P) rows → front_at Journal rows bytes ≡ Ok (value, rest) → P value
unfolding front_at
front_made P rows bytes value rest each e =
    let p = bind_ok (word_at (row_in rows) bytes) (λ row. row_at Journal row.0 row.1) (value, rest) e in
    let named = word_found (row_in rows) bytes p.0.0 p.0.1 p.1 in
    after_made P p.0.0 p.0.1 value rest (of_row (Made P) rows (word (skip bytes)) p.0.0 each named) p.2
