-- A spelling is UTF-8, and its line says the command.
use Rattle.std.proofs.Common.{◌≡◌, ℕ, ◌/◌, ◌%◌, ◌^◌, ◌≤◌, ◌<◌, Bool, true, false, nat_eq, nat_lt, List, [], ◌∷◌, ◌++◌, All, Option, None, Some, refl, ap, ◌∙◌, append-nil, arith, inl, inr, ◌⊎◌}
use Rattle.std.specs.Prelude.{codes}
use Rattle.std.specs.Fmt.{decimal}
use Rattle.std.specs.List.{flat_map, list_all}
use Rattle.std.specs.Str.{IsUtf8, IsAscii}
use Rattle.std.specs.Char.Utf16.{utf16_lossy_chars}
use Rattle.std.proofs.Math.Utf8.{scalar, scalars, encode, encodes}
use Rattle.std.proofs.lemmas.Bool.{and_parts, cases_lt, lt-ltb, le-ltb, ltb-true}
use Rattle.std.proofs.lemmas.Bool.Decides.{nat_tests}
use Rattle.std.proofs.lemmas.Fmt.{IsAscii-decimal}
use Rattle.std.proofs.lemmas.Grind.{flat_map-append}
use Rattle.std.proofs.lemmas.List.Elements.{All-nil, All-cons, All-head, All-tail}
use Rattle.std.proofs.lemmas.Str.{IsUtf8-nil, IsUtf8-append, IsUtf8-from_ascii}
use Rattle.std.proofs.lemmas.Str.Ascii.{IsAscii-nil, IsAscii-cons}
use Rattle.kte_text.specs.Units.{IsLine, utf8_of}
use Rattle.kte_text.proofs.CharLemmas.{Continues, IsMultibyte, encode_shape, scalars-line}
use Rattle.kte_find.specs.declared.rule.Rule.{Rule}
use Rattle.kte_find.specs.declared.rule.Rule.TheVariants as rules
use Rattle.kte_place.specs.declared.place.Place.{Place}
use Rattle.kte_place.specs.declared.span.Empty.{Empty}
use Rattle.kte_place.specs.declared.span.Empty.TheVariants.{Allow, Void}
use Rattle.kte_place.specs.Ends.{Ends}
use Rattle.kte_search.specs.declared.query.Query.{Query}
use Rattle.kte_edit.specs.declared.change.Change.TheVariants as Change
use Rattle.kte_command.specs.declared.command.Command.{Command}
use Rattle.kte_command.specs.declared.command.Command.TheVariants.{Edit, Begin, End, Undo, Redo, MakeRange, SetRange, DropRange, ShowRange, Lock, Unlock, Land, Fold, Unfold, Find, FindBack, All as AllMatches, Check, Sync, Save}
use Rattle.kte_script.specs.declared.limits.Limits.{Limits}
use Rattle.kte_script.specs.declared.limits.Limits.TheVariants.{Script}
use Rattle.kte_script.specs.Words.{skip}
use Rattle.kte_script.specs.Strings.{hex_digit, spell_byte, utf8_of_text, spell_text}
use Rattle.kte_script.specs.Fields.{Count, ALine, AColumn, most, Kind, Number, OrNone, APlace, ASpan, OrInvalid, Spans, AText, APattern, AQuery, ARule, Expands, Empties, Succeeds, Closes, Value, spell_field, spell_number, spell_or_none, spell_place, spell_span, spell_or_invalid, spell_spans, spell_pattern, spell_folds, spell_whole, spell_query, spell_rule, expand_word, empty_word, succeeds_word, closes_word}
use Rattle.kte_script.specs.Table.{Values, filled, spell_fields, spelling}
use Rattle.kte_script.specs.Limits.{IsPlace, IsSpan, IsPattern, IsRule, Fits, AllFit, IsWithin, InLimits}
use Rattle.kte_script.specs.Script.{Says, is_skipped, meaning}
use Rattle.kte_script.specs.Spelled.{is_itself}
use Rattle.kte_script.proofs.AgainLemmas.{skip-word, limited}
use Rattle.kte_script.proofs.SpellingLemmas.{all_themselves}
use Rattle.kte_script.proofs.LineLemmas.{says}
use Rattle.kte_script.proofs.RoundLemmas.{command_again, listed}

decide : (b : Bool) → (b ≡ true) ⊎ (b ≡ false)
decide true = inl refl
decide false = inr refl

-- ASCII, by a test
abbrev is_low : ℕ → Bool
is_low byte = nat_lt byte 128

all_low : (bytes : List ℕ) → list_all is_low bytes ≡ true → IsAscii bytes
all_low [] h = IsAscii-nil
all_low (byte ∷ bytes) h =
    let p = and_parts (is_low byte) (list_all is_low bytes) h in
    IsAscii-cons byte bytes (ltb-true _ _ p.0) (all_low bytes p.1)

low_text : (bytes : List ℕ) → list_all is_low bytes ≡ true → IsUtf8 bytes
low_text bytes h = IsUtf8-from_ascii bytes (all_low bytes h)

-- ---- strings

two : (a b : ℕ) → a < 128 → b < 128 → IsAscii (a ∷ b ∷ [])
two a b p q = IsAscii-cons a (b ∷ []) p (IsAscii-cons b [] q IsAscii-nil)

hex_small : (n : ℕ) → n < 16 → hex_digit n < 128
hex_small n h = grind (arith, nat_tests)

byte_ascii : (byte : ℕ) → byte < 128 → IsAscii (spell_byte byte)
unfolding spell_byte
byte_ascii byte small =
    elim (decide (nat_eq byte 10)) [
      | inl e ↦ rw e (two 92 110 (omega arith) (omega arith))
      | inr e10 ↦ elim (decide (nat_eq byte 9)) [
        | inl e ↦ rw (e10, e) (two 92 116 (omega arith) (omega arith))
        | inr e9 ↦ elim (decide (nat_eq byte 34)) [
          | inl e ↦ rw (e10, e9, e) (two 92 34 (omega arith) (omega arith))
          | inr e34 ↦ elim (decide (nat_eq byte 92)) [
            | inl e ↦ rw (e10, e9, e34, e) (two 92 92 (omega arith) (omega arith))
            | inr e92 ↦ elim (cases_lt byte 32) [
              | inl low ↦
                  rw (e10, e9, e34, e92, lt-ltb _ _ low)
                  (IsAscii-cons 92 (120 ∷ hex_digit (byte / 16) ∷ hex_digit (byte % 16) ∷ []) (omega arith)
                  (IsAscii-cons 120 (hex_digit (byte / 16) ∷ hex_digit (byte % 16) ∷ []) (omega arith)
                  (two (hex_digit (byte / 16)) (hex_digit (byte % 16)) (hex_small (byte / 16) (omega arith)) (hex_small (byte % 16) (omega arith)))))
              | inr big ↦ rw (e10, e9, e34, e92, le-ltb _ _ big) (IsAscii-cons byte [] small IsAscii-nil)
            ]
          ]
        ]
      ]
    ]

high : (byte : ℕ) → 128 ≤ byte → is_itself byte ≡ true
high byte h = grind (arith, nat_tests)

continued : (bytes : List ℕ) → All Continues bytes → list_all is_itself bytes ≡ true
continued [] h = refl
continued (byte ∷ bytes) h =
    rw (high byte (All-head Continues byte bytes h).0, continued bytes (All-tail Continues byte bytes h)) refl

multibyte : (c : ℕ) (bytes : List ℕ) → IsMultibyte c bytes → list_all is_itself bytes ≡ true
multibyte c bytes m =
    let lead : 128 ≤ m.lead = elim (cases_lt c 0x1_0000) [
      | inl low ↦ omega (arith, (m.low low).0)
      | inr big ↦ omega (arith, m.high big)
    ] in
    rw (m.is, high m.lead lead, continued m.tail m.continue) refl

encode_text : (c : ℕ) → scalar c ≡ true → IsUtf8 (encode c)
encode_text c h = (c ∷ [], (rw h refl, append-nil (encode c)))

char_text : (c : ℕ) → scalar c ≡ true → IsUtf8 (flat_map spell_byte (encode c))
char_text c h =
    elim (encode_shape c h) [
      | inl p ↦ rw (p.1, append-nil (spell_byte c)) (IsUtf8-from_ascii (spell_byte c) (byte_ascii c p.0))
      | inr m ↦ rw (all_themselves (encode c) (multibyte c (encode c) m)) (encode_text c h)
    ]

chars_text : (cs : List ℕ) → scalars cs ≡ true → IsUtf8 (flat_map spell_byte (encodes cs))
chars_text [] h = IsUtf8-nil
chars_text (c ∷ cs) h =
    let p = and_parts (scalar c) (scalars cs) h in
    rw (flat_map-append spell_byte (encode c) (encodes cs))
    (IsUtf8-append (flat_map spell_byte (encode c)) (flat_map spell_byte (encodes cs)) (char_text c p.0) (chars_text cs p.1))

marks : IsUtf8 (34 ∷ [])
marks = IsUtf8-from_ascii (34 ∷ []) (IsAscii-cons 34 [] (omega arith) IsAscii-nil)

front : IsUtf8 (32 ∷ 34 ∷ [])
front = IsUtf8-from_ascii (32 ∷ 34 ∷ []) (two 32 34 (omega arith) (omega arith))

line_text : (line : List ℕ) → IsLine line → IsUtf8 (flat_map spell_byte (utf8_of line))
line_text line whole = chars_text (utf16_lossy_chars line) (scalars-line line whole)

end_text : IsUtf8 (spell_byte 10)
unfolding spell_byte
end_text = IsUtf8-from_ascii (92 ∷ 110 ∷ []) (two 92 110 (omega arith) (omega arith))

lines_text : (text : List (List ℕ)) → All IsLine text → IsUtf8 (flat_map spell_byte (utf8_of_text text))
lines_text [] all = IsUtf8-nil
lines_text (line ∷ []) all = line_text line (All-head IsLine line [] all)
lines_text (line ∷ next ∷ lines) all =
    let rest = utf8_of_text (next ∷ lines) in
    let others = lines_text (next ∷ lines) (All-tail IsLine line (next ∷ lines) all) in
    rw (flat_map-append spell_byte (utf8_of line) (10 ∷ rest))
    (IsUtf8-append (flat_map spell_byte (utf8_of line)) (spell_byte 10 ++ flat_map spell_byte rest)
    (line_text line (All-head IsLine line (next ∷ lines) all))
    (IsUtf8-append (spell_byte 10) (flat_map spell_byte rest) end_text others))

text_text : (text : List (List ℕ)) → All IsLine text → IsUtf8 (spell_text text)
unfolding spell_text
text_text text all =
    let inside = flat_map spell_byte (utf8_of_text text) in
    IsUtf8-append (32 ∷ 34 ∷ []) (inside ++ 34 ∷ []) front
    (IsUtf8-append inside (34 ∷ []) (lines_text text all) marks)

-- ---- fields

number_text : (limits : Limits) (count : Count) (n : ℕ) → n ≤ most limits count → IsUtf8 (spell_number n)
number_text limits count n le =
    let small : n < 2 ^ 64 = omega (arith, (limited limits count).wide) in
    IsUtf8-from_ascii (spell_number n) (IsAscii-cons 32 (decimal n) (omega arith) (IsAscii-decimal n small))

or_none_text : (limits : Limits) (count : Count) (n : Option ℕ) → Fits limits (OrNone count) n → IsUtf8 (spell_or_none n)
or_none_text limits count None fits = low_text (codes " none") refl
or_none_text limits count (Some n) fits = number_text limits count n fits

place_text : (limits : Limits) (place : Place) → IsPlace limits place → IsUtf8 (spell_place place)
place_text limits place fits =
    IsUtf8-append (spell_number place.line) (spell_number place.column)
    (number_text limits ALine place.line fits.0) (number_text limits AColumn place.column fits.1)

span_text : (limits : Limits) (span : Ends) → IsSpan limits span → IsUtf8 (spell_span span)
span_text limits span fits =
    IsUtf8-append (spell_place span.start) (spell_place span.end)
    (place_text limits span.start fits.start) (place_text limits span.end fits.end)

or_invalid_text : (limits : Limits) (span : Option Ends) → Fits limits OrInvalid span → IsUtf8 (spell_or_invalid span)
or_invalid_text limits None fits = low_text (codes " invalid") refl
or_invalid_text limits (Some span) fits = span_text limits span fits

spans_text : (limits : Limits) (spans : List Ends) → All (IsSpan limits) spans → IsUtf8 (spell_spans spans)
spans_text limits [] all = IsUtf8-nil
spans_text limits (span ∷ spans) all =
    IsUtf8-append (spell_span span) (spell_spans spans)
    (span_text limits span (All-head (IsSpan limits) span spans all)) (spans_text limits spans (All-tail (IsSpan limits) span spans all))

pattern_text : (units : List ℕ) → IsPattern units → IsUtf8 (spell_pattern units)
pattern_text units fits = text_text (units ∷ []) (All-cons IsLine units [] fits.whole (All-nil IsLine))

folds_text : (fold_case : Bool) → IsUtf8 (spell_folds fold_case)
folds_text true = low_text (codes " nocase") refl
folds_text false = low_text (codes " case") refl

whole_text : (whole : Bool) → IsUtf8 (spell_whole whole)
whole_text true = low_text (codes " word") refl
whole_text false = low_text (codes " part") refl

query_text : (query : Query) → IsPattern query.pattern → IsUtf8 (spell_query query)
query_text query fits =
    IsUtf8-append (spell_pattern query.pattern) (spell_folds query.fold_case ++ spell_whole query.whole)
    (pattern_text query.pattern fits)
    (IsUtf8-append (spell_folds query.fold_case) (spell_whole query.whole) (folds_text query.fold_case) (whole_text query.whole))

rule_text : (limits : Limits) (rule : Rule) → IsRule limits rule → IsUtf8 (spell_rule rule)
rule_text limits (rules.Word units) fits =
    IsUtf8-append (codes " word") (spell_pattern units) (low_text (codes " word") refl) (pattern_text units fits)
rule_text limits rules.Blanks fits = low_text (codes " blanks") refl
rule_text limits (rules.Long limit) fits =
    IsUtf8-append (codes " long") (spell_number limit) (low_text (codes " long") refl) (number_text limits AColumn limit fits)
rule_text limits rules.Pairs fits = low_text (codes " pairs") refl
rule_text limits rules.Repeat fits = low_text (codes " repeat") refl

expand_text : (left right : Bool) → IsUtf8 (32 ∷ expand_word left right)
expand_text false false = low_text (codes " none") refl
expand_text true false = low_text (codes " left") refl
expand_text false true = low_text (codes " right") refl
expand_text true true = low_text (codes " both") refl

empty_text : (empty : Empty) → IsUtf8 (32 ∷ empty_word empty)
empty_text Allow = low_text (codes " allow") refl
empty_text Void = low_text (codes " void") refl

succeeds_text : (ok : Bool) → IsUtf8 (32 ∷ succeeds_word ok)
succeeds_text true = low_text (codes " ok") refl
succeeds_text false = low_text (codes " failed") refl

closes_text : (closed : Bool) → IsUtf8 (32 ∷ closes_word closed)
closes_text true = low_text (codes " closed") refl
closes_text false = low_text (codes " open") refl

field_text : (limits : Limits) (kind : Kind) (value : Value kind) → Fits limits kind value → IsUtf8 (spell_field kind value)
field_text limits (Number count) n fits = number_text limits count n fits
field_text limits (OrNone count) n fits = or_none_text limits count n fits
field_text limits APlace place fits = place_text limits place fits
field_text limits ASpan span fits = span_text limits span fits
field_text limits OrInvalid span fits = or_invalid_text limits span fits
field_text limits Spans spans fits = spans_text limits spans fits
field_text limits AText text fits = text_text text fits.whole
field_text limits APattern units fits = pattern_text units fits
field_text limits AQuery query fits = query_text query fits
field_text limits ARule rule fits = rule_text limits rule fits
field_text limits Expands expand fits = expand_text expand.left expand.right
field_text limits Empties empty fits = empty_text empty
field_text limits Succeeds ok fits = succeeds_text ok
field_text limits Closes closed fits = closes_text closed

-- fields are spelled in UTF-8
pub fields_text : (limits : Limits) (kinds : List Kind) (values : Values kinds) → AllFit limits kinds values
    → IsUtf8 (spell_fields kinds values)
fields_text limits [] values fits = IsUtf8-nil
fields_text limits (kind ∷ kinds) values fits =
    IsUtf8-append (spell_field kind values.0) (spell_fields kinds values.1) (field_text limits kind values.0 fits.0) (fields_text limits kinds values.1 fits.1)

-- ---- commands

word_text : (command : Command) → IsUtf8 (filled command).row.word
word_text (Edit (Change.Insert place text)) = low_text (codes "insert") refl
word_text (Edit (Change.Wrap place)) = low_text (codes "wrap") refl
word_text (Edit (Change.Unwrap line)) = low_text (codes "unwrap") refl
word_text (Edit (Change.Remove span)) = low_text (codes "remove") refl
word_text (Edit (Change.Replace span text)) = low_text (codes "replace") refl
word_text Begin = low_text (codes "begin") refl
word_text End = low_text (codes "end") refl
word_text Undo = low_text (codes "undo") refl
word_text Redo = low_text (codes "redo") refl
word_text (MakeRange span expand empty) = low_text (codes "range") refl
word_text (SetRange id span) = low_text (codes "setrange") refl
word_text (DropRange id) = low_text (codes "droprange") refl
word_text (ShowRange id) = low_text (codes "where") refl
word_text Lock = low_text (codes "lock") refl
word_text (Unlock revision) = low_text (codes "unlock") refl
word_text (Land revision span expand empty) = low_text (codes "land") refl
word_text (Fold span) = low_text (codes "fold") refl
word_text (Unfold id) = low_text (codes "unfold") refl
word_text (Find from query) = low_text (codes "find") refl
word_text (FindBack before query) = low_text (codes "findback") refl
word_text (AllMatches query) = low_text (codes "all") refl
word_text (Check rule) = low_text (codes "check") refl
word_text Sync = low_text (codes "sync") refl
word_text Save = low_text (codes "save") refl

no_comment : (command : Command) (rest : List ℕ) → is_skipped ((filled command).row.word ++ rest) ≡ false
no_comment (Edit (Change.Insert place text)) rest = refl
no_comment (Edit (Change.Wrap place)) rest = refl
no_comment (Edit (Change.Unwrap line)) rest = refl
no_comment (Edit (Change.Remove span)) rest = refl
no_comment (Edit (Change.Replace span text)) rest = refl
no_comment Begin rest = refl
no_comment End rest = refl
no_comment Undo rest = refl
no_comment Redo rest = refl
no_comment (MakeRange span expand empty) rest = refl
no_comment (SetRange id span) rest = refl
no_comment (DropRange id) rest = refl
no_comment (ShowRange id) rest = refl
no_comment Lock rest = refl
no_comment (Unlock revision) rest = refl
no_comment (Land revision span expand empty) rest = refl
no_comment (Fold span) rest = refl
no_comment (Unfold id) rest = refl
no_comment (Find from query) rest = refl
no_comment (FindBack before query) rest = refl
no_comment (AllMatches query) rest = refl
no_comment (Check rule) rest = refl
no_comment Sync rest = refl
no_comment Save rest = refl

pub spelling_text : (limits : Limits) (command : Command) → IsWithin limits command → IsUtf8 (spelling command)
spelling_text limits command fits =
    let f = filled command in
    IsUtf8-append f.row.word (spell_fields f.row.kinds f.values) (word_text command) (fields_text limits f.row.kinds f.values fits)

pub line_again : (command : Command) → InLimits command → meaning (spelling command) ≡ Says command
line_again command fits =
    let f = filled command in
    let fields = spell_fields f.row.kinds f.values in
    let words : skip (spelling command) ≡ spelling command = skip-word f.row.word fields (listed command).is in
    says (spelling command) command (spelling_text Script command fits) (ap is_skipped words ∙ no_comment command fields) (command_again command fits)
