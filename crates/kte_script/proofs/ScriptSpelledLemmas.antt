-- Commands that are spelled, each on a line of its own, are a script that is read as these commands.
use Rattle.std.proofs.Common.{◌≡◌, ℕ, zero, suc, ◌-◌, ◌/◌, ◌%◌, ◌^◌, ◌≤◌, ◌<◌, Bool, true, false, nat_eq, nat_le, List, [], ◌∷◌, ◌++◌, length, drop, All, Option, None, Some, Ok, refl, sym, ap, subst, ◌∙◌, append_assoc, arith, inl, inr, ◌⊎◌}
use Rattle.std.specs.Char.{digit_value}
use Rattle.std.specs.Fmt.{decimal}
use Rattle.std.specs.List.{flat_map, list_all}
use Rattle.std.specs.Str.{bytes_eq}
use Rattle.std.specs.Str.Parse.{AllDigits}
use Rattle.std.proofs.lemmas.Bool.{and_parts, cases_lt, lt-ltb, le-ltb, le-leb}
use Rattle.std.proofs.lemmas.Bool.Decides.{nat_tests}
use Rattle.std.proofs.lemmas.Fmt.{decimal_is_IsNumeral}
use Rattle.std.proofs.lemmas.List.Elements.{All-nil, All-cons, All-head, All-tail}
use Rattle.std.proofs.lemmas.List.Folds.{list_all-append}
use Rattle.std.proofs.lemmas.List.Splits.{slice_split_at}
use Rattle.std.proofs.lemmas.Str.{IsUtf8-nil}
use Rattle.kte_find.specs.declared.rule.Rule.{Rule}
use Rattle.kte_find.specs.declared.rule.Rule.TheVariants as rules
use Rattle.kte_place.specs.declared.place.Place.{Place}
use Rattle.kte_place.specs.declared.span.Empty.{Empty}
use Rattle.kte_place.specs.declared.span.Empty.TheVariants.{Allow, Void}
use Rattle.kte_place.specs.Ends.{Ends}
use Rattle.kte_search.specs.declared.query.Query.{Query}
use Rattle.kte_command.specs.declared.command.Command.{Command}
use Rattle.kte_script.specs.declared.TheConstants.{MAX_SCRIPT_LENGTH, MAX_COMMANDS}
use Rattle.kte_script.specs.declared.limits.Limits.{Limits}
use Rattle.kte_script.specs.declared.limits.Limits.TheVariants.{Script}
use Rattle.kte_script.specs.Ends.{is_end, parts_of}
use Rattle.kte_script.specs.Words.{skip}
use Rattle.kte_script.specs.Strings.{hex_digit, spell_byte, utf8_of_text, spell_text}
use Rattle.kte_script.specs.Fields.{Count, ALine, AColumn, most, Kind, Number, OrNone, APlace, ASpan, OrInvalid, Spans, AText, APattern, AQuery, ARule, Expands, Empties, Succeeds, Closes, Value, spell_field, spell_number, spell_or_none, spell_place, spell_span, spell_or_invalid, spell_spans, spell_pattern, spell_folds, spell_whole, spell_query, spell_rule, expand_word, empty_word, succeeds_word, closes_word}
use Rattle.kte_script.specs.Table.{Values, Row, table, row_in, filled, spell_fields, spelling}
use Rattle.kte_script.specs.Limits.{IsPlace, IsSpan, IsRule, Fits, AllFit, IsWithin, InLimits}
use Rattle.kte_script.specs.Script.{Nothing, meaning, without_cr, lines_of, script_of}
use Rattle.kte_script.specs.ScriptInWords.{AllSay}
use Rattle.kte_script.proofs.AgainLemmas.{limited}
use Rattle.kte_script.proofs.LineLemmas.{skipped, first_line}
use Rattle.kte_script.proofs.RoundLemmas.{listed}
use Rattle.kte_script.proofs.TextLemmas.{line_again}
use Rattle.kte_script.proofs.ScriptInWordsLemmas.{scripts_in_words}

decide : (b : Bool) → (b ≡ true) ⊎ (b ≡ false)
decide true = inl refl
decide false = inr refl

-- ---- a spelling has no control characters, and so no line end

abbrev is_seen : ℕ → Bool
is_seen byte = nat_le 32 byte

abbrev IsSeen : List ℕ → Type 0
IsSeen bytes = list_all is_seen bytes ≡ true

seen_append : (xs ys : List ℕ) → IsSeen xs → IsSeen ys → IsSeen (xs ++ ys)
seen_append xs ys p q = rw (list_all-append is_seen xs ys, p, q) refl

hex_seen : (n : ℕ) → nat_le 32 (hex_digit n) ≡ true
hex_seen n = grind (arith, nat_tests)

byte_seen : (byte : ℕ) → IsSeen (spell_byte byte)
unfolding spell_byte
byte_seen byte =
    elim (decide (nat_eq byte 10)) [
      | inl e ↦ rw e refl
      | inr e10 ↦ elim (decide (nat_eq byte 9)) [
        | inl e ↦ rw (e10, e) refl
        | inr e9 ↦ elim (decide (nat_eq byte 34)) [
          | inl e ↦ rw (e10, e9, e) refl
          | inr e34 ↦ elim (decide (nat_eq byte 92)) [
            | inl e ↦ rw (e10, e9, e34, e) refl
            | inr e92 ↦ elim (cases_lt byte 32) [
              | inl low ↦
                  rw (e10, e9, e34, e92, lt-ltb _ _ low, hex_seen (byte / 16), hex_seen (byte % 16)) refl
              | inr big ↦ rw (e10, e9, e34, e92, le-ltb _ _ big, le-leb _ _ big) refl
            ]
          ]
        ]
      ]
    ]

bytes_seen : (bytes : List ℕ) → IsSeen (flat_map spell_byte bytes)
bytes_seen [] = refl
bytes_seen (byte ∷ bytes) =
    seen_append (spell_byte byte) (flat_map spell_byte bytes) (byte_seen byte) (bytes_seen bytes)

text_seen : (text : List (List ℕ)) → IsSeen (spell_text text)
unfolding spell_text
text_seen text =
    seen_append (flat_map spell_byte (utf8_of_text text)) (34 ∷ []) (bytes_seen (utf8_of_text text)) refl

digit_seen : (c : ℕ) → digit_value c < 10 → nat_le 32 c ≡ true
digit_seen c h = grind (arith, nat_tests)

digits_seen : (ds : List ℕ) → AllDigits 10 ds → IsSeen ds
digits_seen [] h = refl
digits_seen (c ∷ cs) h = rw (digit_seen c h.0, digits_seen cs h.1) refl

number_seen : (limits : Limits) (count : Count) (n : ℕ) → n ≤ most limits count → IsSeen (spell_number n)
number_seen limits count n le =
    let small : n < 2 ^ 64 = omega (arith, (limited limits count).wide) in
    digits_seen (decimal n) (decimal_is_IsNumeral n small).0.1

or_none_seen : (limits : Limits) (count : Count) (n : Option ℕ) → Fits limits (OrNone count) n → IsSeen (spell_or_none n)
or_none_seen limits count None fits = refl
or_none_seen limits count (Some n) fits = number_seen limits count n fits

place_seen : (limits : Limits) (place : Place) → IsPlace limits place → IsSeen (spell_place place)
place_seen limits place fits =
    seen_append (spell_number place.line) (spell_number place.column)
    (number_seen limits ALine place.line fits.0) (number_seen limits AColumn place.column fits.1)

span_seen : (limits : Limits) (span : Ends) → IsSpan limits span → IsSeen (spell_span span)
span_seen limits span fits =
    seen_append (spell_place span.start) (spell_place span.end)
    (place_seen limits span.start fits.start) (place_seen limits span.end fits.end)

or_invalid_seen : (limits : Limits) (span : Option Ends) → Fits limits OrInvalid span → IsSeen (spell_or_invalid span)
or_invalid_seen limits None fits = refl
or_invalid_seen limits (Some span) fits = span_seen limits span fits

spans_seen : (limits : Limits) (spans : List Ends) → All (IsSpan limits) spans → IsSeen (spell_spans spans)
spans_seen limits [] all = refl
spans_seen limits (span ∷ spans) all =
    seen_append (spell_span span) (spell_spans spans)
    (span_seen limits span (All-head (IsSpan limits) span spans all))
    (spans_seen limits spans (All-tail (IsSpan limits) span spans all))

folds_seen : (fold_case : Bool) → IsSeen (spell_folds fold_case)
folds_seen true = refl
folds_seen false = refl

whole_seen : (whole : Bool) → IsSeen (spell_whole whole)
whole_seen true = refl
whole_seen false = refl

query_seen : (query : Query) → IsSeen (spell_query query)
query_seen query =
    seen_append (spell_pattern query.pattern) (spell_folds query.fold_case ++ spell_whole query.whole)
    (text_seen (query.pattern ∷ []))
    (seen_append (spell_folds query.fold_case) (spell_whole query.whole) (folds_seen query.fold_case) (whole_seen query.whole))

rule_seen : (limits : Limits) (rule : Rule) → IsRule limits rule → IsSeen (spell_rule rule)
rule_seen limits (rules.Word units) fits = text_seen (units ∷ [])
rule_seen limits rules.Blanks fits = refl
rule_seen limits (rules.Long limit) fits = number_seen limits AColumn limit fits
rule_seen limits rules.Pairs fits = refl
rule_seen limits rules.Repeat fits = refl

expand_seen : (left right : Bool) → IsSeen (32 ∷ expand_word left right)
expand_seen false false = refl
expand_seen true false = refl
expand_seen false true = refl
expand_seen true true = refl

empty_seen : (empty : Empty) → IsSeen (32 ∷ empty_word empty)
empty_seen Allow = refl
empty_seen Void = refl

succeeds_seen : (ok : Bool) → IsSeen (32 ∷ succeeds_word ok)
succeeds_seen true = refl
succeeds_seen false = refl

closes_seen : (closed : Bool) → IsSeen (32 ∷ closes_word closed)
closes_seen true = refl
closes_seen false = refl

field_seen : (limits : Limits) (kind : Kind) (value : Value kind) → Fits limits kind value → IsSeen (spell_field kind value)
field_seen limits (Number count) n fits = number_seen limits count n fits
field_seen limits (OrNone count) n fits = or_none_seen limits count n fits
field_seen limits APlace place fits = place_seen limits place fits
field_seen limits ASpan span fits = span_seen limits span fits
field_seen limits OrInvalid span fits = or_invalid_seen limits span fits
field_seen limits Spans spans fits = spans_seen limits spans fits
field_seen limits AText text fits = text_seen text
field_seen limits APattern units fits = text_seen (units ∷ [])
field_seen limits AQuery query fits = query_seen query
field_seen limits ARule rule fits = rule_seen limits rule fits
field_seen limits Expands expand fits = expand_seen expand.left expand.right
field_seen limits Empties empty fits = empty_seen empty
field_seen limits Succeeds ok fits = succeeds_seen ok
field_seen limits Closes closed fits = closes_seen closed

fields_seen : (limits : Limits) (kinds : List Kind) (values : Values kinds) → AllFit limits kinds values
    → IsSeen (spell_fields kinds values)
fields_seen limits [] values fits = refl
fields_seen limits (kind ∷ kinds) values fits =
    seen_append (spell_field kind values.0) (spell_fields kinds values.1)
    (field_seen limits kind values.0 fits.0) (fields_seen limits kinds values.1 fits.1)

-- the word of a row that a table has
abbrev word_is_seen : Row Command → Bool
word_is_seen row = list_all is_seen row.word

abbrev found : Row Command → Option (Row Command)
found row = Some row

same_row : (a b : Row Command) → found a ≡ Some b → a ≡ b
same_row a b e = cc

no_row : (row : Row Command) → None ≡ found row → ⊥
no_row row e = cc

row_seen : (rows : List (Row Command)) (word : List ℕ) (row : Row Command) → list_all word_is_seen rows ≡ true
    → row_in rows word ≡ Some row → IsSeen row.word
row_seen [] word row all e = absurd (no_row row e)
row_seen (first ∷ rows) word row all e =
    let p = and_parts (word_is_seen first) (list_all word_is_seen rows) all in
    elim (decide (bytes_eq word first.word)) [
      | inl same ↦ subst (λ (r : Row Command). IsSeen r.word) (same_row first row (rw same at e)) p.0
      | inr other ↦ row_seen rows word row p.1 (rw other at e)
    ]

spelling_seen : (command : Command) → InLimits command → IsSeen (spelling command)
spelling_seen command fits =
    let f = filled command in
    seen_append f.row.word (spell_fields f.row.kinds f.values)
    (row_seen table f.row.word f.row refl (listed command).there) (fields_seen Script f.row.kinds f.values fits)

-- ---- its line

seen_not : (byte low : ℕ) → nat_le 32 byte ≡ true → low < 32 → nat_eq byte low ≡ false
seen_not byte low h small = grind (arith, nat_tests)

no_end : (bytes : List ℕ) → IsSeen bytes → All (λ byte. is_end byte ≡ false) bytes
no_end [] h = All-nil (λ byte. is_end byte ≡ false)
no_end (byte ∷ bytes) h =
    let p = and_parts (is_seen byte) (list_all is_seen bytes) h in
    All-cons (λ byte. is_end byte ≡ false) byte bytes (seen_not byte 10 p.0 (omega arith)) (no_end bytes p.1)

no_cr : (bytes : List ℕ) → IsSeen bytes → bytes_eq bytes (13 ∷ []) ≡ false
no_cr [] h = refl
no_cr (byte ∷ bytes) h =
    let p = and_parts (is_seen byte) (list_all is_seen bytes) h in
    rw (seen_not byte 13 p.0 (omega arith)) refl

seen_drop : (n : ℕ) (bytes : List ℕ) → IsSeen bytes → IsSeen (drop n bytes)
seen_drop zero bytes h = h
seen_drop (suc n) [] h = refl
seen_drop (suc n) (byte ∷ bytes) h = seen_drop n bytes (and_parts (is_seen byte) (list_all is_seen bytes) h).1

all_kept : (line : List ℕ) → IsSeen line → line ≡ without_cr line
all_kept line h =
    let none = no_cr (drop (length line - 1) line) (seen_drop (length line - 1) line h) in
    rw none refl

-- commands, each spelled on a line of its own
abbrev pub spelled : List Command → List ℕ
spelled commands = flat_map (λ command. spelling command ++ 10 ∷ []) commands

first_part : (command : Command) (commands : List Command) → InLimits command
    → parts_of (spelled (command ∷ commands)) ≡ spelling command ∷ parts_of (spelled commands)
first_part command commands fits =
    ap parts_of (append_assoc (spelling command) (10 ∷ []) (spelled commands))
    ∙ slice_split_at is_end (spelling command) 10 (spelled commands) (no_end (spelling command) (spelling_seen command fits)) refl

first_spelled : (command : Command) (commands : List Command) → InLimits command
    → lines_of (spelled (command ∷ commands)) ≡ spelling command ∷ lines_of (spelled commands)
first_spelled command commands fits =
    first_line (spelled (command ∷ commands)) (spelling command) (spelling command) (spelled commands)
    (first_part command commands fits) (all_kept (spelling command) (spelling_seen command fits))

nothing_said : meaning [] ≡ Nothing
unfolding skip
nothing_said = skipped [] IsUtf8-nil refl

all_say : (commands : List Command) → All InLimits commands → AllSay (lines_of (spelled commands)) commands
all_say [] within = inl (nothing_said, refl)
all_say (command ∷ commands) within =
    let fits = All-head InLimits command commands within in
    subst (λ (lines : List (List ℕ)). AllSay lines (command ∷ commands)) (sym (first_spelled command commands fits))
    (inr (command, commands, refl, line_again command fits, all_say commands (All-tail InLimits command commands within)))

-- .. they are read
pub spelled_again : (commands : List Command) (bytes : List ℕ) → All InLimits commands → length commands ≤ MAX_COMMANDS
    → bytes ≡ spelled commands → length bytes ≤ MAX_SCRIPT_LENGTH → script_of bytes ≡ Ok commands
spelled_again commands bytes within few is short =
    let said : AllSay (lines_of bytes) commands = rw is (all_say commands within) in
    (scripts_in_words bytes commands).1 (record { short = short; said = said; few = few })
