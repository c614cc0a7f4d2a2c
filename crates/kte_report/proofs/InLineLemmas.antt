-- What is spelled has no line end.
use Rattle.std.proofs.Common.{◌≡◌, ℕ, ◌/◌, ◌%◌, ◌^◌, ◌<◌, ◌≤◌, Bool, true, false, ltb, nat_eq, List, [], ◌∷◌, ◌++◌, Option, None, Some, refl, arith, inl, inr, All}
use Rattle.std.specs.Prelude.{not, IfSome}
use Rattle.std.specs.Fmt.{decimal}
use Rattle.std.specs.List.{flat_map}
use Rattle.std.specs.Char.{digit_value}
use Rattle.std.specs.Str.Parse.{AllDigits}
use Rattle.std.proofs.lemmas.Fmt.{decimal_is_IsNumeral}
use Rattle.std.proofs.lemmas.List.Elements.{All-head, All-tail}
use Rattle.std.proofs.lemmas.Bool.Decides.{nat_tests}
use Rattle.kte_place.specs.declared.place.Place.{Place}
use Rattle.kte_place.specs.declared.span.Empty.{Empty}
use Rattle.kte_place.specs.declared.span.Empty.TheVariants.{Allow, Void}
use Rattle.kte_place.specs.Ends.{Ends}
use Rattle.kte_find.specs.declared.rule.Rule.{Rule}
use Rattle.kte_find.specs.declared.rule.Rule.TheVariants as rules
use Rattle.kte_script.specs.declared.limits.Limits.TheVariants.{Journal}
use Rattle.kte_script.specs.Strings.{hex_digit, spell_byte, utf8_of_text, spell_text}
use Rattle.kte_script.specs.Fields.{Count, ALine, AColumn, Short, Long, most, Kind, Number, OrNone, APlace, ASpan, OrInvalid, Spans, AText, APattern, AQuery, ARule, Expands, Empties, Succeeds, Closes, Value, spell_number, spell_or_none, spell_place, spell_span, spell_or_invalid, spell_spans, spell_pattern, spell_folds, spell_whole, spell_rule, expand_word, spell_empty, spell_succeeds, spell_closes, spell_field}
use Rattle.kte_script.specs.Table.{Values, spell_fields}
use Rattle.kte_script.specs.Limits.{IsPlace, IsSpan, IsRule, Fits, AllFit}
use Rattle.kte_report.specs.Lines.{is_in_line}
use Rattle.kte_report.proofs.LineLemmas.{both, decide}

pub in-append : (a b : List ℕ) → is_in_line a ≡ true → is_in_line b ≡ true → is_in_line (a ++ b) ≡ true
in-append [] b p q = q
in-append (x ∷ a) b p q =
    let h = both (not (nat_eq x 10)) (is_in_line a) p in
    rw (h.0, in-append a b h.1 q) refl

digit_inside : (c : ℕ) → digit_value c < 10 → not (nat_eq c 10) ≡ true
digit_inside c h = grind (arith, nat_tests)

digits_inside : (ds : List ℕ) → AllDigits 10 ds → is_in_line ds ≡ true
digits_inside [] h = refl
digits_inside (c ∷ cs) h = rw (digit_inside c h.0, digits_inside cs h.1) refl

pub decimal_in_line : (n : ℕ) → n < 2 ^ 64 → is_in_line (decimal n) ≡ true
decimal_in_line n small = digits_inside (decimal n) (decimal_is_IsNumeral n small).0.1

most_small : (count : Count) → most Journal count < 2 ^ 64
most_small ALine = omega arith
most_small AColumn = omega arith
most_small Short = omega arith
most_small Long = omega arith

number_in_line : (count : Count) (n : ℕ) → n ≤ most Journal count → is_in_line (spell_number n) ≡ true
number_in_line count n le = decimal_in_line n (omega (arith, most_small count))

or_none_in_line : (count : Count) (n : Option ℕ) → IfSome n (λ n. n ≤ most Journal count) → is_in_line (spell_or_none n) ≡ true
or_none_in_line count None le = refl
or_none_in_line count (Some n) le = number_in_line count n le

place_in_line : (place : Place) → IsPlace Journal place → is_in_line (spell_place place) ≡ true
place_in_line place fits = in-append (spell_number place.line) (spell_number place.column) (number_in_line ALine place.line fits.0) (number_in_line AColumn place.column fits.1)

span_in_line : (span : Ends) → IsSpan Journal span → is_in_line (spell_span span) ≡ true
span_in_line span fits = in-append (spell_place span.start) (spell_place span.end) (place_in_line span.start fits.start) (place_in_line span.end fits.end)

or_invalid_in_line : (span : Option Ends) → IfSome span (IsSpan Journal) → is_in_line (spell_or_invalid span) ≡ true
or_invalid_in_line None fits = refl
or_invalid_in_line (Some span) fits = span_in_line span fits

spans_in_line : (spans : List Ends) → All (IsSpan Journal) spans → is_in_line (spell_spans spans) ≡ true
spans_in_line [] fits = refl
spans_in_line (span ∷ spans) fits =
    in-append (spell_span span) (spell_spans spans) (span_in_line span (All-head (IsSpan Journal) span spans fits)) (spans_in_line spans (All-tail (IsSpan Journal) span spans fits))

-- ---- strings

hex_inside : (n : ℕ) → not (nat_eq (hex_digit n) 10) ≡ true
hex_inside n = elim (decide (ltb n 10)) [
  | inl e ↦ rw e (grind (arith, nat_tests))
  | inr e ↦ rw e (grind (arith, nat_tests))
]

code_inside : (byte : ℕ) → is_in_line (92 ∷ 120 ∷ hex_digit (byte / 16) ∷ hex_digit (byte % 16) ∷ []) ≡ true
code_inside byte = rw (hex_inside (byte / 16), hex_inside (byte % 16)) refl

byte_in_line : (byte : ℕ) → is_in_line (spell_byte byte) ≡ true
unfolding spell_byte
byte_in_line byte = elim (decide (nat_eq byte 10)) [
  | inl e ↦ rw e refl
  | inr e ↦ elim (decide (nat_eq byte 9)) [
    | inl f ↦ rw (e, f) refl
    | inr f ↦ elim (decide (nat_eq byte 34)) [
      | inl g ↦ rw (e, f, g) refl
      | inr g ↦ elim (decide (nat_eq byte 92)) [
        | inl h ↦ rw (e, f, g, h) refl
        | inr h ↦ elim (decide (ltb byte 32)) [
          | inl i ↦ rw (e, f, g, h, i) (code_inside byte)
          | inr i ↦ rw (e, f, g, h, i, e) refl
        ]
      ]
    ]
  ]
]

bytes_in_line : (bytes : List ℕ) → is_in_line (flat_map spell_byte bytes) ≡ true
bytes_in_line [] = refl
bytes_in_line (byte ∷ bytes) = in-append (spell_byte byte) (flat_map spell_byte bytes) (byte_in_line byte) (bytes_in_line bytes)

text_in_line : (text : List (List ℕ)) → is_in_line (spell_text text) ≡ true
unfolding spell_text
text_in_line text = in-append (32 ∷ 34 ∷ flat_map spell_byte (utf8_of_text text)) (34 ∷ []) (bytes_in_line (utf8_of_text text)) refl

rule_in_line : (rule : Rule) → IsRule Journal rule → is_in_line (spell_rule rule) ≡ true
rule_in_line (rules.Word word) fits = text_in_line (word ∷ [])
rule_in_line rules.Blanks fits = refl
rule_in_line (rules.Long limit) fits = number_in_line AColumn limit fits
rule_in_line rules.Pairs fits = refl
rule_in_line rules.Repeat fits = refl

-- ---- fields

expand_in_line : (left right : Bool) → is_in_line (expand_word left right) ≡ true
expand_in_line false false = refl
expand_in_line true false = refl
expand_in_line false true = refl
expand_in_line true true = refl

empty_in_line : (empty : Empty) → is_in_line (spell_empty empty) ≡ true
empty_in_line Allow = refl
empty_in_line Void = refl

folds_in_line : (fold_case : Bool) → is_in_line (spell_folds fold_case) ≡ true
folds_in_line true = refl
folds_in_line false = refl

whole_in_line : (whole : Bool) → is_in_line (spell_whole whole) ≡ true
whole_in_line true = refl
whole_in_line false = refl

succeeds_in_line : (ok : Bool) → is_in_line (spell_succeeds ok) ≡ true
succeeds_in_line true = refl
succeeds_in_line false = refl

closes_in_line : (closed : Bool) → is_in_line (spell_closes closed) ≡ true
closes_in_line true = refl
closes_in_line false = refl

field_in_line : (kind : Kind) (value : Value kind) → Fits Journal kind value → is_in_line (spell_field kind value) ≡ true
field_in_line (Number count) n fits = number_in_line count n fits
field_in_line (OrNone count) n fits = or_none_in_line count n fits
field_in_line APlace place fits = place_in_line place fits
field_in_line ASpan span fits = span_in_line span fits
field_in_line OrInvalid span fits = or_invalid_in_line span fits
field_in_line Spans spans fits = spans_in_line spans fits
field_in_line AText text fits = text_in_line text
field_in_line APattern line fits = text_in_line (line ∷ [])
field_in_line AQuery query fits =
    in-append (spell_pattern query.pattern) (spell_folds query.fold_case ++ spell_whole query.whole) (text_in_line (query.pattern ∷ [])) (in-append (spell_folds query.fold_case) (spell_whole query.whole) (folds_in_line query.fold_case) (whole_in_line query.whole))
field_in_line ARule rule fits = rule_in_line rule fits
field_in_line Expands expand fits = expand_in_line expand.left expand.right
field_in_line Empties empty fits = empty_in_line empty
field_in_line Succeeds ok fits = succeeds_in_line ok
field_in_line Closes closed fits = closes_in_line closed

pub fields_in_line : (kinds : List Kind) (values : Values kinds) → AllFit Journal kinds values → is_in_line (spell_fields kinds values) ≡ true
fields_in_line [] values fits = refl
fields_in_line (kind ∷ kinds) values fits =
    in-append (spell_field kind values.0) (spell_fields kinds values.1) (field_in_line kind values.0 fits.0) (fields_in_line kinds values.1 fits.1)
