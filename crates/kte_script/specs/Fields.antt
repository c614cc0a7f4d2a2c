-- The kinds of fields: how a field of each kind is read, and its one canonical spelling. This
-- project's own form
use Rattle.std.specs.Prelude.{ℕ, zero, suc, ◌-◌, ◌^◌, Bool, true, false, List, [], ◌∷◌, ◌++◌, length, codes, Option, Some, None, Result, Ok, Err, if◌then◌else◌}
use Rattle.std.specs.Char.{is_ascii_digit}
use Rattle.std.specs.Fmt.{decimal}
use Rattle.std.specs.List.{flat_map}
use Rattle.std.specs.Option.{option_map}
use Rattle.std.specs.Str.{bytes_eq}
use Rattle.kte_find.specs.declared.rule.Rule.{Rule}
use Rattle.kte_find.specs.declared.rule.Rule.TheVariants as rules
use Rattle.kte_place.specs.declared.place.Place.{Place}
use Rattle.kte_place.specs.declared.place.TheConstants.{MAX_REACH}
use Rattle.kte_place.specs.declared.span.Expand.{Expand}
use Rattle.kte_place.specs.declared.span.Empty.{Empty}
use Rattle.kte_place.specs.declared.span.Empty.TheVariants.{Allow, Void}
use Rattle.kte_place.specs.Ends.{Ends}
use Rattle.kte_place.specs.Place.{at}
use Rattle.kte_place.specs.Span.{between}
use Rattle.kte_search.specs.declared.query.Query.{Query}
use Rattle.kte_script.specs.declared.TheConstants.{MAX_NUMBER, MAX_DIGITS, MAX_JOURNAL_DIGITS}
use Rattle.kte_script.specs.declared.limits.Limits.{Limits}
use Rattle.kte_script.specs.declared.limits.Limits.TheVariants.{Script, Journal}
use Rattle.kte_script.specs.Words.{skip, word, behind, ends_here, number_of}
use Rattle.kte_script.specs.Strings.{Quoted, string_at, text_in, pattern_in, spell_text}

-- what a number counts
pub data Count : Type 0 where
  -- lines
  ALine : Count
  -- columns, or the units of a line
  AColumn : Count
  -- what is numbered with 32 bits: jobs, seats, open transactions
  Short : Count
  -- all else: ranges, revisions, primitives, units of a text
  Long : Count

-- the greatest number of what is counted
abbrev pub most : Limits → Count → ℕ
most Script ALine = MAX_REACH
most Script AColumn = MAX_REACH
most Script Short = MAX_NUMBER
most Script Long = MAX_NUMBER
most Journal ALine = 2 ^ 32 - 1
most Journal AColumn = 2 ^ 64 - 1
most Journal Short = 2 ^ 32 - 1
most Journal Long = 2 ^ 64 - 1

-- the most digits of a number
abbrev pub most_digits : Limits → ℕ
most_digits Script = MAX_DIGITS
most_digits Journal = MAX_JOURNAL_DIGITS

pub data Kind : Type 0 where
  -- a number
  Number : Count → Kind
  -- a number or `none`
  OrNone : Count → Kind
  -- `L C`
  APlace : Kind
  -- `L C L C`, the two places in either order
  ASpan : Kind
  -- `L C L C` or `invalid`
  OrInvalid : Kind
  -- `L C L C` for each of them, as long as a digit begins the next word
  Spans : Kind
  -- a string, the lines of a text
  AText : Kind
  -- a string, a line that is not empty
  APattern : Kind
  -- `STRING CASE WHOLE`: a pattern, then `case` or `nocase`, then `word` or `part`
  AQuery : Kind
  -- `word STRING`, `blanks`, `long N`, `pairs` or `repeat`
  ARule : Kind
  -- `none`, `left`, `right` or `both`
  Expands : Kind
  -- `allow` or `void`
  Empties : Kind
  -- `ok` or `failed`
  Succeeds : Kind
  -- `closed` or `open`
  Closes : Kind

abbrev pub Value : Kind → Type 0
Value (Number count) = ℕ
Value (OrNone count) = Option ℕ
Value APlace = Place
Value ASpan = Ends
Value OrInvalid = Option Ends
Value Spans = List Ends
Value AText = List (List ℕ)
Value APattern = List ℕ
Value AQuery = Query
Value ARule = Rule
Value Expands = Expand
Value Empties = Empty
Value Succeeds = Bool
Value Closes = Bool

-- ---- reading

-- a value and the bytes after it; or how many bytes are left from the first word that does not fit
abbrev pub Reading : Type 0 → Type 0
Reading A = Result (A × List ℕ) ℕ

infixl 10 ◌>>=◌
abbrev pub ◌>>=◌ : {A B : Type 0} → Result A ℕ → (A → Result B ℕ) → Result B ℕ
(Ok x) >>= f = f x
(Err left) >>= f = Err left

abbrev pub meant : {A : Type 0} → Option A → List ℕ → Reading A
meant None bytes = Err (length bytes)
meant (Some value) bytes = Ok (value, behind bytes)

-- the value of the first word by this meaning of words
abbrev pub word_at : {A : Type 0} → (List ℕ → Option A) → List ℕ → Reading A
word_at meaning bytes = meant (meaning (word (skip bytes))) (skip bytes)

-- the value that is named by one of two words, or by none of them
abbrev pub one_of : {A : Type 0} → List ℕ → A → List ℕ → A → List ℕ → Option A
one_of first a second b word =
    if bytes_eq word first then Some a else if bytes_eq word second then Some b else None

unfoldable pub number_at : Limits → Count → List ℕ → Reading ℕ
number_at limits count bytes = word_at (number_of (most_digits limits) (most limits count)) bytes

unfoldable pub or_none_of : Limits → Count → List ℕ → Option (Option ℕ)
or_none_of limits count word =
    if bytes_eq word (codes "none") then Some None
    else option_map {T = ℕ} (λ n. Some n) (number_of (most_digits limits) (most limits count) word)

unfoldable pub or_none_at : Limits → Count → List ℕ → Reading (Option ℕ)
or_none_at limits count bytes = word_at (or_none_of limits count) bytes

unfoldable pub place_at : Limits → List ℕ → Reading Place
place_at limits bytes = do
  line ← number_at limits ALine bytes
  column ← number_at limits AColumn line.1
  Ok (at line.0 column.0, column.1)

unfoldable pub span_at : Limits → List ℕ → Reading Ends
span_at limits bytes = do
  first ← place_at limits bytes
  last ← place_at limits first.1
  Ok (between first.0 last.0, last.1)

unfoldable pub or_invalid_at : Limits → List ℕ → Reading (Option Ends)
or_invalid_at limits bytes =
    if bytes_eq (word (skip bytes)) (codes "invalid") then Ok (None, behind (skip bytes))
    else span_at limits bytes >>= λ span. Ok (Some span.0, span.1)

-- a digit is first
abbrev pub starts_number : List ℕ → Bool
starts_number [] = false
starts_number (byte ∷ bytes) = is_ascii_digit byte

-- at most so many spans
abbrev pub spans_from : Limits → ℕ → List ℕ → Reading (List Ends)
spans_from limits zero bytes = Ok ([], bytes)
spans_from limits (suc room) bytes =
    if starts_number (skip bytes)
    then (span_at limits bytes >>= λ first. spans_from limits room first.1
    >>= λ others. Ok (first.0 ∷ others.0, others.1))
    else Ok ([], bytes)

-- .. which are all of them, since each takes a byte
unfoldable pub spans_at : Limits → List ℕ → Reading (List Ends)
spans_at limits bytes = spans_from limits (length bytes) bytes

abbrev pub held : {A : Type 0} → Option A → List ℕ → List ℕ → Reading A
held None rest bytes = Err (length bytes)
held (Some value) rest bytes = if ends_here rest then Ok (value, rest) else Err (length bytes)

abbrev pub quoted : {A : Type 0} → (List ℕ → Option A) → Option Quoted → List ℕ → Reading A
quoted meaning None bytes = Err (length bytes)
quoted meaning (Some found) bytes = held (meaning found.text) found.rest bytes

-- the value of a string by this meaning of what it holds, and then a space or the end; where it has
-- none, the string does not fit as a whole
abbrev pub quoted_at : {A : Type 0} → (List ℕ → Option A) → List ℕ → Reading A
quoted_at meaning bytes = quoted meaning (string_at (skip bytes)) (skip bytes)

unfoldable pub text_at : List ℕ → Reading (List (List ℕ))
text_at bytes = quoted_at text_in bytes

unfoldable pub pattern_at : List ℕ → Reading (List ℕ)
pattern_at bytes = quoted_at pattern_in bytes

unfoldable pub folds_of : List ℕ → Option Bool
folds_of word = one_of (codes "nocase") true (codes "case") false word

unfoldable pub folds_at : List ℕ → Reading Bool
folds_at bytes = word_at folds_of bytes

unfoldable pub whole_of : List ℕ → Option Bool
whole_of word = one_of (codes "word") true (codes "part") false word

unfoldable pub whole_at : List ℕ → Reading Bool
whole_at bytes = word_at whole_of bytes

-- `CASE WHOLE`
unfoldable pub how_at : List ℕ → Reading (Bool × Bool)
how_at bytes = do
  fold_case ← folds_at bytes
  whole ← whole_at fold_case.1
  Ok ((fold_case.0, whole.0), whole.1)

-- a pattern, and how it is compared
abbrev pub query_of : List ℕ → Bool × Bool → Query
query_of pattern how = record { pattern = pattern; fold_case = how.0; whole = how.1 }

unfoldable pub query_at : List ℕ → Reading Query
query_at bytes = do
  pattern ← pattern_at bytes
  how ← how_at pattern.1
  Ok (query_of pattern.0 how.0, how.1)

-- how a rule begins
pub data RuleName : Type 0 where
  ForWord : RuleName
  ForBlanks : RuleName
  ForLong : RuleName
  ForPairs : RuleName
  ForRepeat : RuleName

abbrev pub rule_word : RuleName → List ℕ
rule_word ForWord = codes "word"
rule_word ForBlanks = codes "blanks"
rule_word ForLong = codes "long"
rule_word ForPairs = codes "pairs"
rule_word ForRepeat = codes "repeat"

unfoldable pub rule_name : List ℕ → Option RuleName
rule_name word =
    if bytes_eq word (codes "word") then Some ForWord
    else if bytes_eq word (codes "blanks") then Some ForBlanks
    else if bytes_eq word (codes "long") then Some ForLong
    else if bytes_eq word (codes "pairs") then Some ForPairs
    else if bytes_eq word (codes "repeat") then Some ForRepeat
    else None

-- a rule after its name
abbrev pub rule_after : Limits → RuleName → List ℕ → Reading Rule
rule_after limits ForWord bytes = pattern_at bytes >>= λ word. Ok (rules.Word word.0, word.1)
rule_after limits ForBlanks bytes = Ok (rules.Blanks, bytes)
rule_after limits ForLong bytes =
    number_at limits AColumn bytes >>= λ limit. Ok (rules.Long limit.0, limit.1)
rule_after limits ForPairs bytes = Ok (rules.Pairs, bytes)
rule_after limits ForRepeat bytes = Ok (rules.Repeat, bytes)

unfoldable pub rule_at : Limits → List ℕ → Reading Rule
rule_at limits bytes = do
  name ← word_at rule_name bytes
  rule ← rule_after limits name.0 name.1
  Ok (rule.0, rule.1)

unfoldable pub expand_of : List ℕ → Option Expand
expand_of word =
    if bytes_eq word (codes "none") then Some (record { left = false; right = false })
    else if bytes_eq word (codes "left") then Some (record { left = true; right = false })
    else if bytes_eq word (codes "right") then Some (record { left = false; right = true })
    else if bytes_eq word (codes "both") then Some (record { left = true; right = true })
    else None

unfoldable pub expand_at : List ℕ → Reading Expand
expand_at bytes = word_at expand_of bytes

unfoldable pub empty_of : List ℕ → Option Empty
empty_of word = one_of (codes "allow") Allow (codes "void") Void word

unfoldable pub empty_at : List ℕ → Reading Empty
empty_at bytes = word_at empty_of bytes

unfoldable pub succeeds_of : List ℕ → Option Bool
succeeds_of word = one_of (codes "ok") true (codes "failed") false word

unfoldable pub succeeds_at : List ℕ → Reading Bool
succeeds_at bytes = word_at succeeds_of bytes

unfoldable pub closes_of : List ℕ → Option Bool
closes_of word = one_of (codes "closed") true (codes "open") false word

unfoldable pub closes_at : List ℕ → Reading Bool
closes_at bytes = word_at closes_of bytes

abbrev pub read_field : Limits → (kind : Kind) → List ℕ → Reading (Value kind)
read_field limits (Number count) bytes = number_at limits count bytes
read_field limits (OrNone count) bytes = or_none_at limits count bytes
read_field limits APlace bytes = place_at limits bytes
read_field limits ASpan bytes = span_at limits bytes
read_field limits OrInvalid bytes = or_invalid_at limits bytes
read_field limits Spans bytes = spans_at limits bytes
read_field limits AText bytes = text_at bytes
read_field limits APattern bytes = pattern_at bytes
read_field limits AQuery bytes = query_at bytes
read_field limits ARule bytes = rule_at limits bytes
read_field limits Expands bytes = expand_at bytes
read_field limits Empties bytes = empty_at bytes
read_field limits Succeeds bytes = succeeds_at bytes
read_field limits Closes bytes = closes_at bytes

-- ---- spelling: before each word stands one space

abbrev pub spell_number : ℕ → List ℕ
spell_number n = 32 ∷ decimal n

abbrev pub spell_or_none : Option ℕ → List ℕ
spell_or_none None = codes " none"
spell_or_none (Some n) = spell_number n

abbrev pub spell_place : Place → List ℕ
spell_place place = spell_number place.line ++ spell_number place.column

abbrev pub spell_span : Ends → List ℕ
spell_span span = spell_place span.start ++ spell_place span.end

abbrev pub spell_or_invalid : Option Ends → List ℕ
spell_or_invalid None = codes " invalid"
spell_or_invalid (Some span) = spell_span span

abbrev pub spell_spans : List Ends → List ℕ
spell_spans spans = flat_map spell_span spans

abbrev pub spell_pattern : List ℕ → List ℕ
spell_pattern line = spell_text (line ∷ [])

abbrev pub fold_word : Bool → List ℕ
fold_word true = codes "nocase"
fold_word false = codes "case"

abbrev pub spell_folds : Bool → List ℕ
spell_folds fold_case = 32 ∷ fold_word fold_case

abbrev pub whole_word : Bool → List ℕ
whole_word true = codes "word"
whole_word false = codes "part"

abbrev pub spell_whole : Bool → List ℕ
spell_whole whole = 32 ∷ whole_word whole

abbrev pub spell_query : Query → List ℕ
spell_query query =
    spell_pattern query.pattern ++ (spell_folds query.fold_case ++ spell_whole query.whole)

abbrev pub spell_rule : Rule → List ℕ
spell_rule (rules.Word word) = codes " word" ++ spell_pattern word
spell_rule rules.Blanks = codes " blanks"
spell_rule (rules.Long limit) = codes " long" ++ spell_number limit
spell_rule rules.Pairs = codes " pairs"
spell_rule rules.Repeat = codes " repeat"

abbrev pub expand_word : Bool → Bool → List ℕ
expand_word false false = codes "none"
expand_word true false = codes "left"
expand_word false true = codes "right"
expand_word true true = codes "both"

abbrev pub spell_expand : Expand → List ℕ
spell_expand expand = 32 ∷ expand_word expand.left expand.right

abbrev pub empty_word : Empty → List ℕ
empty_word Allow = codes "allow"
empty_word Void = codes "void"

abbrev pub spell_empty : Empty → List ℕ
spell_empty empty = 32 ∷ empty_word empty

abbrev pub succeeds_word : Bool → List ℕ
succeeds_word true = codes "ok"
succeeds_word false = codes "failed"

abbrev pub spell_succeeds : Bool → List ℕ
spell_succeeds ok = 32 ∷ succeeds_word ok

abbrev pub closes_word : Bool → List ℕ
closes_word true = codes "closed"
closes_word false = codes "open"

abbrev pub spell_closes : Bool → List ℕ
spell_closes closed = 32 ∷ closes_word closed

abbrev pub spell_field : (kind : Kind) → Value kind → List ℕ
spell_field (Number count) n = spell_number n
spell_field (OrNone count) n = spell_or_none n
spell_field APlace place = spell_place place
spell_field ASpan span = spell_span span
spell_field OrInvalid span = spell_or_invalid span
spell_field Spans spans = spell_spans spans
spell_field AText text = spell_text text
spell_field APattern line = spell_pattern line
spell_field AQuery query = spell_query query
spell_field ARule rule = spell_rule rule
spell_field Expands expand = spell_expand expand
spell_field Empties empty = spell_empty empty
spell_field Succeeds ok = spell_succeeds ok
spell_field Closes closed = spell_closes closed
