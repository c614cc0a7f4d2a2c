-- The meaning of a line, stated over its words. A word is the bytes between two spaces, and a string
-- ends at its first quotation mark that is not escaped. Laws prove that reading agrees with it. This
-- project's own form
use Rattle.std.specs.Prelude.{◌≡◌, ℕ, ◌/◌, ◌%◌, ◌≤◌, ◌⊎◌, Bool, true, false, List, [], ◌∷◌, ◌++◌, length, codes, Option, None, Some}
use Rattle.std.specs.List.{list_all}
use Rattle.std.specs.Str.Parse.{IsNumeral, digits_value}
use Rattle.kte_find.specs.declared.rule.Rule.{Rule}
use Rattle.kte_find.specs.declared.rule.Rule.TheVariants as rules
use Rattle.kte_text.specs.Texts.{IsText}
use Rattle.kte_text.specs.Units.{utf8_of}
use Rattle.kte_place.specs.declared.place.Place.{Place}
use Rattle.kte_place.specs.declared.span.Expand.{Expand}
use Rattle.kte_place.specs.declared.span.Empty.{Empty}
use Rattle.kte_place.specs.Ends.{Ends}
use Rattle.kte_place.specs.Place.{at}
use Rattle.kte_place.specs.Span.{between}
use Rattle.kte_search.specs.declared.query.Query.{Query}
use Rattle.kte_command.specs.declared.command.Command.{Command}
use Rattle.kte_script.specs.declared.limits.Limits.{Limits}
use Rattle.kte_script.specs.declared.limits.Limits.TheVariants.{Script}
use Rattle.kte_script.specs.Words.{is_space, is_other, ends_here}
use Rattle.kte_script.specs.Strings.{is_plain, is_coded, hex_digit, utf8_of_text}
use Rattle.kte_script.specs.Fields.{Count, ALine, AColumn, most, most_digits, Kind, Number, OrNone, APlace, ASpan, OrInvalid, Spans, AText, APattern, AQuery, ARule, Expands, Empties, Succeeds, Closes, Value, starts_number, RuleName, ForWord, ForBlanks, ForLong, ForPairs, ForRepeat, rule_word, query_of, fold_word, whole_word, expand_word, empty_word, succeeds_word, closes_word}
use Rattle.kte_script.specs.Table.{Values, Row, table}
use Rattle.kte_script.specs.Limits.{IsPattern}

-- ---- the first word

-- the bytes do not begin with a space
abbrev pub starts_otherwise : List ℕ → Bool
starts_otherwise [] = true
starts_otherwise (byte ∷ bytes) = is_other byte

-- Bytes begin with such a word: after spaces, and before a space or the end
pub record Begins (Is : List ℕ → Type 0) (bytes rest : List ℕ) : Type 0 where
  pub spaces : List ℕ
  pub word : List ℕ
  pub parts : bytes ≡ spaces ++ (word ++ rest)
  pub only : list_all is_space spaces ≡ true
  pub is : Is word
  pub ends : ends_here rest ≡ true

-- Bytes do not begin with such a word, of any value: no front of what follows the spaces is one
-- that ends at a space or at the end. So many bytes follow the spaces
pub record Misfits {A : Type 0} (Is : A → List ℕ → Type 0) (bytes : List ℕ) (left : ℕ) : Type 0 where
  pub spaces : List ℕ
  pub words : List ℕ
  pub parts : bytes ≡ spaces ++ words
  pub only : list_all is_space spaces ≡ true
  pub first : starts_otherwise words ≡ true
  pub count : left ≡ length words
  pub none : (value : A) (word rest : List ℕ) → words ≡ word ++ rest → ends_here rest ≡ true
      → ¬ (Is value word)

-- ---- what words are

-- a number: at least one decimal digit, zeros in front allowed
pub record IsNumber (limits : Limits) (count : Count) (n : ℕ) (word : List ℕ) : Type 0 where
  pub digits : IsNumeral 10 word
  pub few : length word ≤ most_digits limits
  pub value : digits_value 10 word ≡ n
  pub small : n ≤ most limits count

-- a number or `none`
abbrev pub IsOrNone : Limits → Count → Option ℕ → List ℕ → Type 0
IsOrNone limits count None word = word ≡ codes "none"
IsOrNone limits count (Some n) word = IsNumber limits count n word

-- a byte of a string stands for itself, or is written by an escape
abbrev pub MaySpell : ℕ → List ℕ → Type 0
MaySpell byte spelled =
    ((is_plain byte ≡ true) × (spelled ≡ byte ∷ []))
    ⊎ ((is_coded byte ≡ true) × (spelled ≡ 92 ∷ 120 ∷ hex_digit (byte / 16) ∷ hex_digit (byte % 16) ∷ []))
    ⊎ ((byte ≡ 10) × (spelled ≡ 92 ∷ 110 ∷ []))
    ⊎ ((byte ≡ 9) × (spelled ≡ 92 ∷ 116 ∷ []))
    ⊎ ((byte ≡ 34) × (spelled ≡ 92 ∷ 34 ∷ []))
    ⊎ ((byte ≡ 92) × (spelled ≡ 92 ∷ 92 ∷ []))

-- one byte after another
abbrev pub MaySpellAll : List ℕ → List ℕ → Type 0
MaySpellAll [] spelled = spelled ≡ []
MaySpellAll (byte ∷ bytes) spelled =
    (first : List ℕ) × (others : List ℕ) × (spelled ≡ first ++ others) × MaySpell byte first
    × MaySpellAll bytes others

-- a string: between two marks these bytes, spelled so
pub record IsString (bytes : List ℕ) (word : List ℕ) : Type 0 where
  pub inside : List ℕ
  pub marks : word ≡ 34 ∷ (inside ++ (34 ∷ []))
  pub spelled : MaySpellAll bytes inside

-- the string of a text: the lines in UTF-8, an LF between each two
pub record IsQuoted (lines : List (List ℕ)) (word : List ℕ) : Type 0 where
  pub text : IsText lines
  pub string : IsString (utf8_of_text lines) word

-- the string of a line that is not empty
pub record IsQuotedPattern (units : List ℕ) (word : List ℕ) : Type 0 where
  pub line : IsPattern units
  pub string : IsString (utf8_of units) word

abbrev pub IsFold : Bool → List ℕ → Type 0
IsFold fold_case word = word ≡ fold_word fold_case

abbrev pub IsWhole : Bool → List ℕ → Type 0
IsWhole whole word = word ≡ whole_word whole

abbrev pub IsRuleName : RuleName → List ℕ → Type 0
IsRuleName name word = word ≡ rule_word name

abbrev pub IsExpand : Expand → List ℕ → Type 0
IsExpand expand word = word ≡ expand_word expand.left expand.right

abbrev pub IsEmpty : Empty → List ℕ → Type 0
IsEmpty empty word = word ≡ empty_word empty

abbrev pub DoesSucceed : Bool → List ℕ → Type 0
DoesSucceed ok word = word ≡ succeeds_word ok

abbrev pub DoesClose : Bool → List ℕ → Type 0
DoesClose closed word = word ≡ closes_word closed

-- ---- one after another

-- a value of which the bytes begin with the first part, and then the second
pub record Then {A B C : Type 0} (join : A → B → C) (First : A → List ℕ → List ℕ → Type 0) (Second : A → B → List ℕ → List ℕ → Type 0) (value : C) (bytes rest : List ℕ) : Type 0 where
  pub first : A
  pub second : B
  pub middle : List ℕ
  pub front : First first bytes middle
  pub back : Second first second middle rest
  pub joined : value ≡ join first second

-- the first part is at fault, or it is right and the second is at fault
abbrev pub ThenFails : {A : Type 0} → (A → List ℕ → List ℕ → Type 0) → (List ℕ → ℕ → Type 0) → (A → List ℕ → ℕ → Type 0) → List ℕ → ℕ → Type 0
ThenFails {A} First FirstFails SecondFails bytes left =
    FirstFails bytes left
    ⊎ ((first : A) × (middle : List ℕ) × First first bytes middle × SecondFails first middle left)

abbrev pub HasNumber : Limits → Count → ℕ → List ℕ → List ℕ → Type 0
HasNumber limits count = λ n. Begins (IsNumber limits count n)

abbrev pub FailsNumber : Limits → Count → List ℕ → ℕ → Type 0
FailsNumber limits count = Misfits (IsNumber limits count)

-- `L C`
abbrev pub HasPlace : Limits → Place → List ℕ → List ℕ → Type 0
HasPlace limits = Then at (HasNumber limits ALine) (λ line. HasNumber limits AColumn)

abbrev pub FailsPlace : Limits → List ℕ → ℕ → Type 0
FailsPlace limits =
    ThenFails (HasNumber limits ALine) (FailsNumber limits ALine) (λ line. FailsNumber limits AColumn)

-- `L C L C`
abbrev pub HasSpan : Limits → Ends → List ℕ → List ℕ → Type 0
HasSpan limits = Then between (HasPlace limits) (λ first. HasPlace limits)

abbrev pub FailsSpan : Limits → List ℕ → ℕ → Type 0
FailsSpan limits = ThenFails (HasPlace limits) (FailsPlace limits) (λ first. FailsPlace limits)

-- `invalid`
abbrev pub IsInvalid : List ℕ → Type 0
IsInvalid word = word ≡ codes "invalid"

abbrev pub HasOrInvalid : Limits → Option Ends → List ℕ → List ℕ → Type 0
HasOrInvalid limits None bytes rest = Begins IsInvalid bytes rest
HasOrInvalid limits (Some span) bytes rest = HasSpan limits span bytes rest

-- no span is there, and not `invalid` either
abbrev pub FailsOrInvalid : Limits → List ℕ → ℕ → Type 0
FailsOrInvalid limits bytes left =
    FailsSpan limits bytes left × ((rest : List ℕ) → ¬ (Begins IsInvalid bytes rest))

-- so many spaces are in front, and then a digit or not
pub record Continues (goes_on : Bool) (bytes : List ℕ) : Type 0 where
  pub spaces : List ℕ
  pub words : List ℕ
  pub parts : bytes ≡ spaces ++ words
  pub only : list_all is_space spaces ≡ true
  pub first : starts_otherwise words ≡ true
  pub is : starts_number words ≡ goes_on

-- one span after another
abbrev pub HasSome : Limits → List Ends → List ℕ → List ℕ → Type 0
HasSome limits [] bytes rest = bytes ≡ rest
HasSome limits (span ∷ spans) bytes rest =
    (middle : List ℕ) × HasSpan limits span bytes middle × HasSome limits spans middle rest

-- .. and no digit begins the next word
abbrev pub HasSpans : Limits → List Ends → List ℕ → List ℕ → Type 0
HasSpans limits spans bytes rest = HasSome limits spans bytes rest × Continues false rest

-- after some spans a digit begins the next word, but no span
abbrev pub FailsSpans : Limits → List ℕ → ℕ → Type 0
FailsSpans limits bytes left =
    (spans : List Ends) × (middle : List ℕ) × HasSome limits spans bytes middle
    × Continues true middle × FailsSpan limits middle left

-- the string of a pattern
abbrev pub HasQuotedPattern : List ℕ → List ℕ → List ℕ → Type 0
HasQuotedPattern = λ units. Begins (IsQuotedPattern units)

-- `CASE WHOLE`
abbrev pub HasHow : Bool × Bool → List ℕ → List ℕ → Type 0
HasHow =
    Then (λ fold_case whole. (fold_case, whole)) (λ fold_case. Begins (IsFold fold_case))
    (λ fold_case whole. Begins (IsWhole whole))

abbrev pub FailsHow : List ℕ → ℕ → Type 0
FailsHow =
    ThenFails (λ fold_case. Begins (IsFold fold_case)) (Misfits IsFold)
    (λ fold_case. Misfits IsWhole)

-- `STRING CASE WHOLE`
abbrev pub HasQuery : Query → List ℕ → List ℕ → Type 0
HasQuery = Then query_of HasQuotedPattern (λ pattern. HasHow)

abbrev pub FailsQuery : List ℕ → ℕ → Type 0
FailsQuery = ThenFails HasQuotedPattern (Misfits IsQuotedPattern) (λ pattern. FailsHow)

-- what follows the name of a rule
abbrev pub HasRuleAfter : Limits → RuleName → Rule → List ℕ → List ℕ → Type 0
HasRuleAfter limits ForWord rule bytes rest =
    (units : List ℕ) × (rule ≡ rules.Word units) × HasQuotedPattern units bytes rest
HasRuleAfter limits ForBlanks rule bytes rest = (rule ≡ rules.Blanks) × (bytes ≡ rest)
HasRuleAfter limits ForLong rule bytes rest =
    (limit : ℕ) × (rule ≡ rules.Long limit) × HasNumber limits AColumn limit bytes rest
HasRuleAfter limits ForPairs rule bytes rest = (rule ≡ rules.Pairs) × (bytes ≡ rest)
HasRuleAfter limits ForRepeat rule bytes rest = (rule ≡ rules.Repeat) × (bytes ≡ rest)

abbrev pub FailsRuleAfter : Limits → RuleName → List ℕ → ℕ → Type 0
FailsRuleAfter limits ForWord bytes left = Misfits IsQuotedPattern bytes left
FailsRuleAfter limits ForBlanks bytes left = ⊥
FailsRuleAfter limits ForLong bytes left = FailsNumber limits AColumn bytes left
FailsRuleAfter limits ForPairs bytes left = ⊥
FailsRuleAfter limits ForRepeat bytes left = ⊥

-- the name of a rule, and what follows it
abbrev pub HasRule : Limits → Rule → List ℕ → List ℕ → Type 0
HasRule limits =
    Then (λ name rule. rule) (λ name. Begins (IsRuleName name)) (HasRuleAfter limits)

abbrev pub FailsRule : Limits → List ℕ → ℕ → Type 0
FailsRule limits =
    ThenFails (λ name. Begins (IsRuleName name)) (Misfits IsRuleName) (FailsRuleAfter limits)

-- bytes begin with a field of this kind and value
abbrev pub HasField : Limits → (kind : Kind) → Value kind → List ℕ → List ℕ → Type 0
HasField limits (Number count) = HasNumber limits count
HasField limits (OrNone count) = λ n. Begins (IsOrNone limits count n)
HasField limits APlace = HasPlace limits
HasField limits ASpan = HasSpan limits
HasField limits OrInvalid = HasOrInvalid limits
HasField limits Spans = HasSpans limits
HasField limits AText = λ text. Begins (IsQuoted text)
HasField limits APattern = HasQuotedPattern
HasField limits AQuery = HasQuery
HasField limits ARule = HasRule limits
HasField limits Expands = λ expand. Begins (IsExpand expand)
HasField limits Empties = λ empty. Begins (IsEmpty empty)
HasField limits Succeeds = λ ok. Begins (DoesSucceed ok)
HasField limits Closes = λ closed. Begins (DoesClose closed)

-- bytes do not begin with a field of this kind: so many are left from the word at fault on
abbrev pub FailsField : Limits → (kind : Kind) → List ℕ → ℕ → Type 0
FailsField limits (Number count) = FailsNumber limits count
FailsField limits (OrNone count) = Misfits (IsOrNone limits count)
FailsField limits APlace = FailsPlace limits
FailsField limits ASpan = FailsSpan limits
FailsField limits OrInvalid = FailsOrInvalid limits
FailsField limits Spans = FailsSpans limits
FailsField limits AText = Misfits IsQuoted
FailsField limits APattern = Misfits IsQuotedPattern
FailsField limits AQuery = FailsQuery
FailsField limits ARule = FailsRule limits
FailsField limits Expands = Misfits IsExpand
FailsField limits Empties = Misfits IsEmpty
FailsField limits Succeeds = Misfits DoesSucceed
FailsField limits Closes = Misfits DoesClose

abbrev pub HasFields : Limits → (kinds : List Kind) → Values kinds → List ℕ → List ℕ → Type 0
HasFields limits [] values bytes rest = bytes ≡ rest
HasFields limits (kind ∷ kinds) values bytes rest =
    Then (λ value others. (value, others)) (HasField limits kind)
    (λ value. HasFields limits kinds) values bytes rest

abbrev pub FailsFields : Limits → (kinds : List Kind) → List ℕ → ℕ → Type 0
FailsFields limits [] bytes left = ⊥
FailsFields limits (kind ∷ kinds) bytes left =
    ThenFails (HasField limits kind) (FailsField limits kind)
    (λ value. FailsFields limits kinds) bytes left

-- ---- a whole line

abbrev pub IsOneOf : {A : Type 0} → List (Row A) → Row A → Type 0
IsOneOf [] row = ⊥
IsOneOf (first ∷ rows) row = (row ≡ first) ⊎ IsOneOf rows row

-- the word of a row of the table
abbrev pub IsWordOf : Row Command → List ℕ → Type 0
IsWordOf row word = IsOneOf table row × (word ≡ row.word)

-- there is a further word, and so many bytes are left from it on
pub record HasMore (bytes : List ℕ) (left : ℕ) : Type 0 where
  pub spaces : List ℕ
  pub byte : ℕ
  pub others : List ℕ
  pub parts : bytes ≡ spaces ++ (byte ∷ others)
  pub only : list_all is_space spaces ≡ true
  pub first : is_other byte ≡ true
  pub count : left ≡ length (byte ∷ others)

-- a line is this command: the word of a row, its fields, and spaces
pub record IsCommandLine (line : List ℕ) (command : Command) : Type 0 where
  pub row : Row Command
  pub values : Values row.kinds
  pub after : List ℕ
  pub end : List ℕ
  pub named : Begins (IsWordOf row) line after
  pub has : HasFields Script row.kinds values after end
  pub over : list_all is_space end ≡ true
  pub made : command ≡ row.make values

-- A line is no command, and so many bytes are left from its first word at fault on: that is no
-- command's word, or no field of the row in its place, or a word too many
abbrev pub IsFaultyLine : List ℕ → ℕ → Type 0
IsFaultyLine line left =
    Misfits IsWordOf line left
    ⊎ ((row : Row Command) × (after : List ℕ) × Begins (IsWordOf row) line after
    × (FailsFields Script row.kinds after left
    ⊎ ((values : Values row.kinds) × (end : List ℕ) × HasFields Script row.kinds values after end
    × HasMore end left)))
