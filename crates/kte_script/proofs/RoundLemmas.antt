-- A command that is spelled is read as itself.
use Rattle.std.proofs.Common.{◌≡◌, ℕ, zero, suc, ◌≤◌, ◌<◌, ◌^◌, Bool, true, false, List, [], ◌∷◌, ◌++◌, length, All, Option, None, Result, Ok, Some, refl, sym, ap, ◌∙◌, append_assoc, append-nil, arith, lit<}
use Rattle.std.specs.Prelude.{codes}
use Rattle.std.specs.Fmt.{decimal}
use Rattle.std.proofs.lemmas.List.{length-append}
use Rattle.std.proofs.lemmas.List.Elements.{All-head, All-tail}
use Rattle.kte_find.specs.declared.rule.Rule.{Rule}
use Rattle.kte_find.specs.declared.rule.Rule.TheVariants as rules
use Rattle.kte_place.specs.declared.place.Place.{Place}
use Rattle.kte_place.specs.declared.span.Expand.{Expand}
use Rattle.kte_place.specs.declared.span.Empty.{Empty}
use Rattle.kte_place.specs.declared.span.Empty.TheVariants.{Allow, Void}
use Rattle.kte_place.specs.Ends.{Ends}
use Rattle.kte_search.specs.declared.query.Query.{Query}
use Rattle.kte_edit.specs.declared.change.Change.TheVariants as Change
use Rattle.kte_command.specs.declared.command.Command.{Command}
use Rattle.kte_command.specs.declared.command.Command.TheVariants.{Edit, Begin, End, Undo, Redo, MakeRange, SetRange, DropRange, ShowRange, Lock, Unlock, Land, Fold, Unfold, Find, FindBack, All as AllMatches, Check, Sync, Save}
use Rattle.kte_script.specs.declared.limits.Limits.{Limits}
use Rattle.kte_script.specs.declared.limits.Limits.TheVariants.{Script}
use Rattle.kte_script.specs.Words.{skip, word, ends_here}
use Rattle.kte_script.specs.Strings.{spell_text}
use Rattle.kte_script.specs.Fields.{Count, ALine, AColumn, most, Kind, Number, OrNone, APlace, ASpan, OrInvalid, Spans, AText, APattern, AQuery, ARule, Expands, Empties, Succeeds, Closes, Value, Reading, read_field, spell_field, spell_number, spell_or_none, spell_place, spell_span, spell_or_invalid, spell_spans, spell_pattern, spell_query, spell_rule, number_at, or_none_of, or_none_at, place_at, span_at, or_invalid_at, starts_number, spans_from, spans_at, one_of, fold_word, whole_word, folds_of, folds_at, whole_of, whole_at, how_at, query_at, ForWord, ForBlanks, ForLong, ForPairs, ForRepeat, rule_name, rule_at, expand_word, expand_of, expand_at, empty_of, empty_at, succeeds_word, succeeds_of, succeeds_at, closes_word, closes_of, closes_at, word_at, spell_folds, spell_whole}
use Rattle.kte_script.specs.Table.{Values, Row, Filled, filled, table, row_in, spell_fields, spell_filled, spelling}
use Rattle.kte_script.specs.Reading.{read_fields, row_at, front_at, end_at, command_at}
use Rattle.kte_script.specs.Limits.{IsPlace, IsSpan, IsPattern, IsRule, Fits, AllFit, MayPrecede, ArePartedBy, IsWithin, InLimits}
use Rattle.kte_script.proofs.AgainLemmas.{IsWord, meant_again, taken, word-of, behind-of, skip-word, skip-first, limited, decimal_word, decimal_means, number_again, number_first, number_no_word}
use Rattle.kte_script.proofs.QuotedLemmas.{text_again, pattern_again}

-- ---- numbers, places and spans

wide : (limits : Limits) (count : Count) (n : ℕ) → n ≤ most limits count → n < 2 ^ 64
wide limits count n le = omega (arith, (limited limits count).wide)

or_none_means : (limits : Limits) (count : Count) (n : ℕ) → n ≤ most limits count
    → or_none_of limits count (decimal n) ≡ Some (Some n)
unfolding or_none_of
or_none_means limits count n le =
    rw (number_no_word n 110 (codes "one") (wide limits count n le) (omega arith), decimal_means _ _ n (limited limits count) le) refl

or_none_again : (limits : Limits) (count : Count) (n : Option ℕ) (rest : List ℕ) → Fits limits (OrNone count) n
    → ends_here rest ≡ true → or_none_at limits count (spell_or_none n ++ rest) ≡ Ok (n, rest)
unfolding or_none_at or_none_of
or_none_again limits count None rest fits e =
    meant_again (or_none_of limits count) None (codes "none") rest (record { some = lit< tt; whole = refl }) refl e
or_none_again limits count (Some n) rest fits e =
    meant_again (or_none_of limits count) (Some n) (decimal n) rest (decimal_word n (wide limits count n fits)) (or_none_means limits count n fits) e

place_again : (limits : Limits) (place : Place) (rest : List ℕ) → IsPlace limits place → ends_here rest ≡ true
    → place_at limits (spell_place place ++ rest) ≡ Ok (place, rest)
unfolding place_at
place_again limits place rest fits e =
    let first : number_at limits ALine (spell_number place.line ++ (spell_number place.column ++ rest)) ≡ Ok (place.line, spell_number place.column ++ rest) =
    number_again limits ALine place.line (spell_number place.column ++ rest) fits.0 refl in
    let second = number_again limits AColumn place.column rest fits.1 e in
    rw (append_assoc (spell_number place.line) (spell_number place.column) rest, first, second) refl

span_again : (limits : Limits) (span : Ends) (rest : List ℕ) → IsSpan limits span → ends_here rest ≡ true
    → span_at limits (spell_span span ++ rest) ≡ Ok (span, rest)
unfolding span_at
span_again limits span rest fits e =
    let first = place_again limits span.start (spell_place span.end ++ rest) fits.start refl in
    let second = place_again limits span.end rest fits.end e in
    rw (append_assoc (spell_place span.start) (spell_place span.end) rest, first, second, fits.order) refl

-- a span begins with the number of a line
span_first : (span : Ends) (rest : List ℕ)
    → (more : List ℕ) × (spell_span span ++ rest ≡ spell_number span.start.line ++ more) × (ends_here more ≡ true)
span_first span rest = (
  spell_number span.start.column ++ (spell_place span.end ++ rest),
  append_assoc (spell_place span.start) (spell_place span.end) rest
      ∙ append_assoc (spell_number span.start.line) (spell_number span.start.column) (spell_place span.end ++ rest),
  refl,
)

or_invalid_again : (limits : Limits) (span : Option Ends) (rest : List ℕ) → Fits limits OrInvalid span
    → ends_here rest ≡ true → or_invalid_at limits (spell_or_invalid span ++ rest) ≡ Ok (span, rest)
unfolding or_invalid_at
or_invalid_again limits None rest fits e =
    let is = taken (codes "invalid") rest (record { some = lit< tt; whole = refl }) e in
    rw (is.0, is.1) refl
or_invalid_again limits (Some span) rest fits e =
    let f = span_first span rest in
    let small = wide limits ALine span.start.line fits.start.0 in
    let is = taken (decimal span.start.line) f.0 (decimal_word span.start.line small) f.2 in
    let other : word (skip (spell_span span ++ rest)) ≡ decimal span.start.line = rw f.1 is.0 in
    rw (other, number_no_word span.start.line 105 (codes "nvalid") small (omega arith), span_again limits span rest fits e) refl

-- spans begin with a space
spans_start : (spans : List Ends) (rest : List ℕ) → ends_here rest ≡ true → ends_here (spell_spans spans ++ rest) ≡ true
spans_start [] rest e = e
spans_start (span ∷ spans) rest e = refl

spans_read : (limits : Limits) (spans : List Ends) (room : ℕ) (rest : List ℕ) → All (IsSpan limits) spans
    → length spans ≤ room → ends_here rest ≡ true → starts_number (skip rest) ≡ false
    → spans_from limits room (spell_spans spans ++ rest) ≡ Ok (spans, rest)
spans_read limits [] zero rest all le e none = refl
spans_read limits [] (suc room) rest all le e none = rw none refl
spans_read limits (span ∷ spans) zero rest all le e none = absurd (omega arith)
spans_read limits (span ∷ spans) (suc room) rest all le e none =
    let more : List ℕ = spell_spans spans ++ rest in
    let fits = All-head (IsSpan limits) span spans all in
    let f = span_first span more in
    let begins : starts_number (skip (spell_span span ++ more)) ≡ true =
    rw f.1 (number_first span.start.line f.0 (wide limits ALine span.start.line fits.start.0)) in
    let first = span_again limits span more fits (spans_start spans rest e) in
    let others = spans_read limits spans room rest (All-tail (IsSpan limits) span spans all) (omega arith) e none in
    rw (append_assoc (spell_span span) (spell_spans spans) rest, begins, first, others) refl

spans_count : (spans : List Ends) → length spans ≤ length (spell_spans spans)
spans_count [] = omega arith
spans_count (span ∷ spans) =
    let long = length-append (spell_span span) (spell_spans spans) in
    omega (arith, long, spans_count spans)

spans_again : (limits : Limits) (spans : List Ends) (rest : List ℕ) → All (IsSpan limits) spans
    → ends_here rest ≡ true → starts_number (skip rest) ≡ false
    → spans_at limits (spell_spans spans ++ rest) ≡ Ok (spans, rest)
unfolding spans_at
spans_again limits spans rest all e none =
    spans_read limits spans (length (spell_spans spans ++ rest)) rest all
    (omega (arith, length-append (spell_spans spans) rest, spans_count spans)) e none

-- ---- words

pub expand_is : (left right : Bool) → IsWord (expand_word left right)
expand_is false false = record { some = lit< tt; whole = refl }
expand_is true false = record { some = lit< tt; whole = refl }
expand_is false true = record { some = lit< tt; whole = refl }
expand_is true true = record { some = lit< tt; whole = refl }

pub expand_means : (left right : Bool)
    → expand_of (expand_word left right) ≡ Some (record { left = left; right = right })
unfolding expand_of
expand_means false false = refl
expand_means true false = refl
expand_means false true = refl
expand_means true true = refl

expand_again : (x : Expand) (rest : List ℕ) → ends_here rest ≡ true
    → expand_at (spell_field Expands x ++ rest) ≡ Ok (x, rest)
unfolding expand_at
expand_again x rest e =
    meant_again expand_of x (expand_word x.left x.right) rest (expand_is x.left x.right) (expand_means x.left x.right) e

empty_again : (x : Empty) (rest : List ℕ) → ends_here rest ≡ true
    → empty_at (spell_field Empties x ++ rest) ≡ Ok (x, rest)
unfolding empty_at empty_of
empty_again Allow rest e = meant_again empty_of Allow (codes "allow") rest (record { some = lit< tt; whole = refl }) refl e
empty_again Void rest e = meant_again empty_of Void (codes "void") rest (record { some = lit< tt; whole = refl }) refl e

-- what the words for true and false mean
abbrev pub flag_of : (Bool → List ℕ) → List ℕ → Option Bool
flag_of spelled w = one_of (spelled true) true (spelled false) false w

-- one word for true and another for false
pub record AreFlags (spelled : Bool → List ℕ) : Type 0 where
  pub is : (flag : Bool) → IsWord (spelled flag)
  pub means : (flag : Bool) → flag_of spelled (spelled flag) ≡ Some flag

by_flag : (P : Bool → Type 0) → P true → P false → (flag : Bool) → P flag
by_flag P on off true = on
by_flag P on off false = off

are_flags : (spelled : Bool → List ℕ) → IsWord (spelled true) → IsWord (spelled false)
    → flag_of spelled (spelled true) ≡ Some true → flag_of spelled (spelled false) ≡ Some false → AreFlags spelled
are_flags spelled on off means_on means_off = record {
  is = by_flag (λ flag. IsWord (spelled flag)) on off;
  means = by_flag (λ flag. flag_of spelled (spelled flag) ≡ Some flag) means_on means_off;
}

pub success_flags : AreFlags succeeds_word
success_flags = are_flags succeeds_word (record { some = lit< tt; whole = refl }) (record { some = lit< tt; whole = refl }) refl refl

pub closed_flags : AreFlags closes_word
closed_flags = are_flags closes_word (record { some = lit< tt; whole = refl }) (record { some = lit< tt; whole = refl }) refl refl

pub fold_flags : AreFlags fold_word
fold_flags = are_flags fold_word (record { some = lit< tt; whole = refl }) (record { some = lit< tt; whole = refl }) refl refl

pub whole_flags : AreFlags whole_word
whole_flags = are_flags whole_word (record { some = lit< tt; whole = refl }) (record { some = lit< tt; whole = refl }) refl refl

flag_again : (spelled : Bool → List ℕ) → AreFlags spelled → (flag : Bool) (rest : List ℕ) → ends_here rest ≡ true
    → word_at (flag_of spelled) (32 ∷ spelled flag ++ rest) ≡ Ok (flag, rest)
flag_again spelled flags flag rest e =
    meant_again (flag_of spelled) flag (spelled flag) rest (flags.is flag) (flags.means flag) e

succeeds_again : (ok : Bool) (rest : List ℕ) → ends_here rest ≡ true
    → succeeds_at (spell_field Succeeds ok ++ rest) ≡ Ok (ok, rest)
unfolding succeeds_at succeeds_of
succeeds_again ok rest e = flag_again succeeds_word success_flags ok rest e

closes_again : (closed : Bool) (rest : List ℕ) → ends_here rest ≡ true
    → closes_at (spell_field Closes closed ++ rest) ≡ Ok (closed, rest)
unfolding closes_at closes_of
closes_again closed rest e = flag_again closes_word closed_flags closed rest e

folds_again : (fold_case : Bool) (rest : List ℕ) → ends_here rest ≡ true
    → folds_at (spell_folds fold_case ++ rest) ≡ Ok (fold_case, rest)
unfolding folds_at folds_of
folds_again fold_case rest e = flag_again fold_word fold_flags fold_case rest e

whole_again : (whole : Bool) (rest : List ℕ) → ends_here rest ≡ true
    → whole_at (spell_whole whole ++ rest) ≡ Ok (whole, rest)
unfolding whole_at whole_of
whole_again whole rest e = flag_again whole_word whole_flags whole rest e

query_again : (query : Query) (rest : List ℕ) → IsPattern query.pattern → ends_here rest ≡ true
    → query_at (spell_query query ++ rest) ≡ Ok (query, rest)
unfolding query_at how_at
query_again query rest fits e =
    let pattern = pattern_again query.pattern (spell_folds query.fold_case ++ (spell_whole query.whole ++ rest)) fits refl in
    let fold_case = folds_again query.fold_case (spell_whole query.whole ++ rest) refl in
    let whole = whole_again query.whole rest e in
    rw (
      append_assoc (spell_pattern query.pattern) (spell_folds query.fold_case ++ spell_whole query.whole) rest,
      append_assoc (spell_folds query.fold_case) (spell_whole query.whole) rest,
      pattern,
      fold_case,
      whole,
    ) refl

rule_again : (limits : Limits) (rule : Rule) (rest : List ℕ) → IsRule limits rule → ends_here rest ≡ true
    → rule_at limits (spell_rule rule ++ rest) ≡ Ok (rule, rest)
unfolding rule_at rule_name spell_text
rule_again limits (rules.Word units) rest fits e =
    rw (meant_again rule_name ForWord (codes "word") (spell_pattern units ++ rest) (record { some = lit< tt; whole = refl }) refl refl, pattern_again units rest fits e) refl
rule_again limits rules.Blanks rest fits e =
    rw (meant_again rule_name ForBlanks (codes "blanks") rest (record { some = lit< tt; whole = refl }) refl e) refl
rule_again limits (rules.Long limit) rest fits e =
    rw (meant_again rule_name ForLong (codes "long") (spell_number limit ++ rest) (record { some = lit< tt; whole = refl }) refl refl, number_again limits AColumn limit rest fits e) refl
rule_again limits rules.Pairs rest fits e =
    rw (meant_again rule_name ForPairs (codes "pairs") rest (record { some = lit< tt; whole = refl }) refl e) refl
rule_again limits rules.Repeat rest fits e =
    rw (meant_again rule_name ForRepeat (codes "repeat") rest (record { some = lit< tt; whole = refl }) refl e) refl

-- ---- fields

-- a field of any kind
field_again : (limits : Limits) (kind : Kind) (value : Value kind) (rest : List ℕ) → Fits limits kind value
    → MayPrecede kind rest → ends_here rest ≡ true
    → read_field limits kind (spell_field kind value ++ rest) ≡ Ok (value, rest)
field_again limits (Number count) n rest fits may e = number_again limits count n rest fits e
field_again limits (OrNone count) n rest fits may e = or_none_again limits count n rest fits e
field_again limits APlace place rest fits may e = place_again limits place rest fits e
field_again limits ASpan span rest fits may e = span_again limits span rest fits e
field_again limits OrInvalid span rest fits may e = or_invalid_again limits span rest fits e
field_again limits Spans spans rest fits may e = spans_again limits spans rest fits e may
field_again limits AText text rest fits may e = text_again text rest fits e
field_again limits APattern units rest fits may e = pattern_again units rest fits e
field_again limits AQuery query rest fits may e = query_again query rest fits e
field_again limits ARule rule rest fits may e = rule_again limits rule rest fits e
field_again limits Expands x rest fits may e = expand_again x rest e
field_again limits Empties x rest fits may e = empty_again x rest e
field_again limits Succeeds x rest fits may e = succeeds_again x rest e
field_again limits Closes x rest fits may e = closes_again x rest e

-- a field begins with a space, if it is there at all
or_none_starts : (n : Option ℕ) (rest : List ℕ) → ends_here (spell_or_none n ++ rest) ≡ true
or_none_starts None rest = refl
or_none_starts (Some n) rest = refl

or_invalid_starts : (span : Option Ends) (rest : List ℕ) → ends_here (spell_or_invalid span ++ rest) ≡ true
or_invalid_starts None rest = refl
or_invalid_starts (Some span) rest = refl

rule_starts : (rule : Rule) (rest : List ℕ) → ends_here (spell_rule rule ++ rest) ≡ true
rule_starts (rules.Word word) rest = refl
rule_starts rules.Blanks rest = refl
rule_starts (rules.Long limit) rest = refl
rule_starts rules.Pairs rest = refl
rule_starts rules.Repeat rest = refl

field_starts : (kind : Kind) (value : Value kind) (rest : List ℕ) → ends_here rest ≡ true
    → ends_here (spell_field kind value ++ rest) ≡ true
unfolding spell_text
field_starts (Number count) n rest e = refl
field_starts (OrNone count) n rest e = or_none_starts n rest
field_starts APlace place rest e = refl
field_starts ASpan span rest e = refl
field_starts OrInvalid span rest e = or_invalid_starts span rest
field_starts Spans spans rest e = spans_start spans rest e
field_starts AText text rest e = refl
field_starts APattern units rest e = refl
field_starts AQuery query rest e = refl
field_starts ARule rule rest e = rule_starts rule rest
field_starts Expands x rest e = refl
field_starts Empties x rest e = refl
field_starts Succeeds x rest e = refl
field_starts Closes x rest e = refl

fields_start : (kinds : List Kind) (values : Values kinds) (rest : List ℕ) → ends_here rest ≡ true
    → ends_here (spell_fields kinds values ++ rest) ≡ true
fields_start [] values rest e = e
fields_start (kind ∷ kinds) values rest e =
    rw (append_assoc (spell_field kind values.0) (spell_fields kinds values.1) rest)
    (field_starts kind values.0 (spell_fields kinds values.1 ++ rest) (fields_start kinds values.1 rest e))

pub fields_again : (limits : Limits) (kinds : List Kind) (values : Values kinds) (rest : List ℕ)
    → AllFit limits kinds values → ArePartedBy kinds values rest → ends_here rest ≡ true
    → read_fields limits kinds (spell_fields kinds values ++ rest) ≡ Ok (values, rest)
fields_again limits [] values rest fits may e = refl
fields_again limits (kind ∷ kinds) values rest fits may e =
    let first = field_again limits kind values.0 (spell_fields kinds values.1 ++ rest) fits.0 may.0 (fields_start kinds values.1 rest e) in
    let others = fields_again limits kinds values.1 rest fits.1 may.1 e in
    rw (append_assoc (spell_field kind values.0) (spell_fields kinds values.1) rest, first, others) refl

row_again : {A : Type 0} (limits : Limits) (row : Row A) (values : Values row.kinds) (rest : List ℕ)
    → AllFit limits row.kinds values → ArePartedBy row.kinds values rest → ends_here rest ≡ true
    → row_at limits row (spell_fields row.kinds values ++ rest) ≡ Ok (row.make values, rest)
unfolding row_at
row_again limits row values rest fits may e = rw (fields_again limits row.kinds values rest fits may e) refl

-- a row of a table by its word, where the bytes have this word after any spaces
by_word : {A : Type 0} (limits : Limits) (rows : List (Row A)) (f : Filled A) (bytes rest : List ℕ)
    → skip bytes ≡ f.row.word ++ (spell_fields f.row.kinds f.values ++ rest) → IsWord f.row.word
    → row_in rows f.row.word ≡ Some f.row → ends_here rest ≡ true
    → front_at limits rows bytes ≡ row_at limits f.row (spell_fields f.row.kinds f.values ++ rest)
unfolding front_at
by_word limits rows f bytes rest none is there e =
    let more : List ℕ = spell_fields f.row.kinds f.values ++ rest in
    let start : ends_here more ≡ true = fields_start f.row.kinds f.values rest e in
    rw (none, word-of f.row.word more is.whole start, there, behind-of f.row.word more is.whole start) refl

-- a filled row of a table, spelled and read
pub filled_again : {A : Type 0} (limits : Limits) (rows : List (Row A)) (f : Filled A) (rest : List ℕ)
    → IsWord f.row.word → row_in rows f.row.word ≡ Some f.row → AllFit limits f.row.kinds f.values
    → ArePartedBy f.row.kinds f.values rest → ends_here rest ≡ true
    → front_at limits rows (spell_filled f ++ rest) ≡ Ok (f.row.make f.values, rest)
filled_again limits rows f rest is there fits may e =
    let more : List ℕ = spell_fields f.row.kinds f.values ++ rest in
    let same = append_assoc f.row.word (spell_fields f.row.kinds f.values) rest in
    let none : skip (spell_filled f ++ rest) ≡ f.row.word ++ more = ap skip same ∙ skip-word f.row.word more is in
    by_word limits rows f (spell_filled f ++ rest) rest none is there e ∙ row_again limits f.row f.values rest fits may e

-- .. and so after a space
pub filled_again-spaced : {A : Type 0} (limits : Limits) (rows : List (Row A)) (f : Filled A) (rest : List ℕ)
    → IsWord f.row.word → row_in rows f.row.word ≡ Some f.row → AllFit limits f.row.kinds f.values
    → ArePartedBy f.row.kinds f.values rest → ends_here rest ≡ true
    → front_at limits rows (32 ∷ spell_filled f ++ rest) ≡ Ok (f.row.make f.values, rest)
filled_again-spaced limits rows f rest is there fits may e =
    let more : List ℕ = spell_fields f.row.kinds f.values ++ rest in
    let same = append_assoc f.row.word (spell_fields f.row.kinds f.values) rest in
    let none : skip (32 ∷ spell_filled f ++ rest) ≡ f.row.word ++ more =
    ap (λ (xs : List ℕ). skip (32 ∷ xs)) same ∙ skip-first f.row.word more is in
    by_word limits rows f (32 ∷ spell_filled f ++ rest) rest none is there e ∙ row_again limits f.row f.values rest fits may e

-- ---- commands

-- each command is found by its word, and made again of its values
pub record IsListed (command : Command) : Type 0 where
  pub is : IsWord (filled command).row.word
  pub there : row_in table (filled command).row.word ≡ Some (filled command).row
  pub made : (filled command).row.make (filled command).values ≡ command
  pub parted : (rest : List ℕ) → ArePartedBy (filled command).row.kinds (filled command).values rest

pub listed : (command : Command) → IsListed command
listed (Edit (Change.Insert place text)) = record { is = record { some = lit< tt; whole = refl }; there = refl; made = refl; parted = λ rest. (tt, (tt, tt)) }
listed (Edit (Change.Wrap place)) = record { is = record { some = lit< tt; whole = refl }; there = refl; made = refl; parted = λ rest. (tt, tt) }
listed (Edit (Change.Unwrap line)) = record { is = record { some = lit< tt; whole = refl }; there = refl; made = refl; parted = λ rest. (tt, tt) }
listed (Edit (Change.Remove span)) = record { is = record { some = lit< tt; whole = refl }; there = refl; made = refl; parted = λ rest. (tt, tt) }
listed (Edit (Change.Replace span text)) = record { is = record { some = lit< tt; whole = refl }; there = refl; made = refl; parted = λ rest. (tt, (tt, tt)) }
listed Begin = record { is = record { some = lit< tt; whole = refl }; there = refl; made = refl; parted = λ rest. tt }
listed End = record { is = record { some = lit< tt; whole = refl }; there = refl; made = refl; parted = λ rest. tt }
listed Undo = record { is = record { some = lit< tt; whole = refl }; there = refl; made = refl; parted = λ rest. tt }
listed Redo = record { is = record { some = lit< tt; whole = refl }; there = refl; made = refl; parted = λ rest. tt }
listed (MakeRange span expand empty) = record { is = record { some = lit< tt; whole = refl }; there = refl; made = refl; parted = λ rest. (tt, (tt, (tt, tt))) }
listed (SetRange id span) = record { is = record { some = lit< tt; whole = refl }; there = refl; made = refl; parted = λ rest. (tt, (tt, tt)) }
listed (DropRange id) = record { is = record { some = lit< tt; whole = refl }; there = refl; made = refl; parted = λ rest. (tt, tt) }
listed (ShowRange id) = record { is = record { some = lit< tt; whole = refl }; there = refl; made = refl; parted = λ rest. (tt, tt) }
listed Lock = record { is = record { some = lit< tt; whole = refl }; there = refl; made = refl; parted = λ rest. tt }
listed (Unlock revision) = record { is = record { some = lit< tt; whole = refl }; there = refl; made = refl; parted = λ rest. (tt, tt) }
listed (Land revision span expand empty) = record { is = record { some = lit< tt; whole = refl }; there = refl; made = refl; parted = λ rest. (tt, (tt, (tt, (tt, tt)))) }
listed (Fold span) = record { is = record { some = lit< tt; whole = refl }; there = refl; made = refl; parted = λ rest. (tt, tt) }
listed (Unfold id) = record { is = record { some = lit< tt; whole = refl }; there = refl; made = refl; parted = λ rest. (tt, tt) }
listed (Find from query) = record { is = record { some = lit< tt; whole = refl }; there = refl; made = refl; parted = λ rest. (tt, (tt, tt)) }
listed (FindBack before query) = record { is = record { some = lit< tt; whole = refl }; there = refl; made = refl; parted = λ rest. (tt, (tt, tt)) }
listed (AllMatches query) = record { is = record { some = lit< tt; whole = refl }; there = refl; made = refl; parted = λ rest. (tt, tt) }
listed (Check rule) = record { is = record { some = lit< tt; whole = refl }; there = refl; made = refl; parted = λ rest. (tt, tt) }
listed Sync = record { is = record { some = lit< tt; whole = refl }; there = refl; made = refl; parted = λ rest. tt }
listed Save = record { is = record { some = lit< tt; whole = refl }; there = refl; made = refl; parted = λ rest. tt }

pub front_again : (limits : Limits) (command : Command) (rest : List ℕ) → IsWithin limits command
    → ends_here rest ≡ true → front_at limits table (spelling command ++ rest) ≡ Ok (command, rest)
front_again limits command rest fits e =
    let l = listed command in
    filled_again limits table (filled command) rest l.is l.there fits (l.parted rest) e
    ∙ ap (λ (c : Command). Ok (c, rest)) l.made

pub command_again : (command : Command) → InLimits command → command_at (spelling command) ≡ Ok command
unfolding command_at end_at skip
command_again command fits =
    let front : front_at Script table (spelling command) ≡ Ok (command, []) =
    ap (front_at Script table) (sym (append-nil (spelling command))) ∙ front_again Script command [] fits refl in
    rw front refl

abbrev done : {A : Type 0} → A → Result A ℕ
done x = Ok x

ok_same : {A : Type 0} (x y : A) → done x ≡ done y → x ≡ y
ok_same x y e = cc

same_first : (a b : Command) (x y : List ℕ) (read : Reading Command) → read ≡ Ok (a, x)
    → read ≡ Ok (b, y) → a ≡ b
same_first a b x y read p q =
    let pair : (a, x) ≡ (b, y) = ok_same {A = Command × List ℕ} (a, x) (b, y) (sym p ∙ q) in
    ap (λ (found : Command × List ℕ). found.0) pair

pub one_front : (limits : Limits) (c d : Command) (x y : List ℕ) → IsWithin limits c → IsWithin limits d
    → spelling c ++ 32 ∷ x ≡ spelling d ++ 32 ∷ y → c ≡ d
one_front limits c d x y p q e =
    same_first c d (32 ∷ x) (32 ∷ y) (front_at limits table (spelling d ++ 32 ∷ y))
    (ap (front_at limits table) (sym e) ∙ front_again limits c (32 ∷ x) p refl) (front_again limits d (32 ∷ y) q refl)
