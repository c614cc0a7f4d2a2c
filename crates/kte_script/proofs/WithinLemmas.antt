-- The commands of a script are within its limits, and may be carried out.
use Rattle.std.proofs.Common.{◌≡◌, ℕ, ◌+◌, ◌-◌, Bool, true, false, nat_eq, List, [], ◌∷◌, length, get_or, All, Option, None, Some, Result, Ok, Err, refl, sym, subst, arith, inl, inr, ◌⊎◌}
use Rattle.std.specs.Str.{is_utf8}
use Rattle.std.specs.Str.Lossy.{utf8_valid_len}
use Rattle.std.proofs.lemmas.List.Elements.{All-nil, All-cons}
use Rattle.std.proofs.lemmas.Bool.Decides.{nat_tests}
use Rattle.kte_find.specs.Rule.{HasWord}
use Rattle.kte_find.specs.declared.rule.Rule.{Rule}
use Rattle.kte_find.specs.declared.rule.Rule.TheVariants as rules
use Rattle.kte_place.specs.declared.place.Place.{Place}
use Rattle.kte_place.specs.Ends.{Ends, SpanIsInReach}
use Rattle.kte_place.specs.Place.{is_at_or_before}
use Rattle.kte_place.specs.Span.{between}
use Rattle.kte_command.specs.Commands.{InRange}
use Rattle.kte_command.specs.declared.command.Command.{Command}
use Rattle.kte_command.specs.declared.command.Command.TheVariants.{Edit, Begin, End, Undo, Redo, MakeRange, SetRange, DropRange, ShowRange, Lock, Unlock, Land, Fold, Unfold, Find, FindBack, All as AllMatches, Check, Sync, Save}
use Rattle.kte_script.specs.declared.fault.ScriptFault.{ScriptFault}
use Rattle.kte_script.specs.declared.fault.ScriptFault.TheVariants as faults
use Rattle.kte_script.specs.declared.limits.Limits.{Limits}
use Rattle.kte_script.specs.declared.limits.Limits.TheVariants.{Script}
use Rattle.kte_script.specs.Words.{skip, word}
use Rattle.kte_script.specs.Fields.{Count, Kind, Number, OrNone, APlace, ASpan, OrInvalid, Spans, AText, APattern, AQuery, ARule, Expands, Empties, Succeeds, Closes, Value, RuleName, ForWord, ForBlanks, ForLong, ForPairs, ForRepeat, word_at}
use Rattle.kte_script.specs.Table.{Values, Row, table, row_in}
use Rattle.kte_script.specs.Reading.{read_fields, row_at, front_at, command_at}
use Rattle.kte_script.specs.Limits.{IsPlace, IsSpan, IsRule, Fits, AllFit, IsWithin, InLimits}
use Rattle.kte_script.specs.Script.{Meaning, Nothing, Says, Faulty, is_skipped, said, meaning, before_all, with_line, read_from}
use Rattle.kte_script.specs.InWords.{IsNumber, IsOrNone, HasPlace, HasSpan, HasOrInvalid, HasSome, HasRuleAfter, HasRule, HasField, HasFields, IsOneOf}
use Rattle.kte_script.proofs.ReadsLemmas.{bind_ok, done_same, word_found}
use Rattle.kte_script.proofs.FieldInWordsLemmas.{fields_reads}
use Rattle.kte_script.proofs.LineInWordsLemmas.{row_sound, commands_in_words}

number_fits : (limits : Limits) (count : Count) (n : ℕ) (w : List ℕ) → IsNumber limits count n w → Fits limits (Number count) n
number_fits limits count n w is = is.small

or_none_fits : (limits : Limits) (count : Count) (n : Option ℕ) (w : List ℕ) → IsOrNone limits count n w → Fits limits (OrNone count) n
or_none_fits limits count None w is = tt
or_none_fits limits count (Some n) w is = is.small

place_fits : (limits : Limits) (place : Place) (bytes rest : List ℕ) → HasPlace limits place bytes rest → IsPlace limits place
place_fits limits place bytes rest h = rw h.joined (h.front.is.small, h.back.is.small)

decide : (b : Bool) → (b ≡ true) ⊎ (b ≡ false)
decide true = inl refl
decide false = inr refl

other_way : (a b : Place) → is_at_or_before a b ≡ false → is_at_or_before b a ≡ true
other_way a b h = grind (arith, nat_tests)

between_fits : (limits : Limits) (a b : Place) → IsPlace limits a → IsPlace limits b → IsSpan limits (between a b)
between_fits limits a b p q =
    elim (decide (is_at_or_before a b)) [
      | inl e ↦ rw e (record { start = p; end = q; order = e })
      | inr e ↦ rw e (record { start = q; end = p; order = other_way a b e })
    ]

span_fits : (limits : Limits) (span : Ends) (bytes rest : List ℕ) → HasSpan limits span bytes rest → IsSpan limits span
span_fits limits span bytes rest h =
    rw h.joined (between_fits limits h.first h.second (place_fits limits h.first bytes h.middle h.front) (place_fits limits h.second h.middle rest h.back))

or_invalid_fits : (limits : Limits) (span : Option Ends) (bytes rest : List ℕ) → HasOrInvalid limits span bytes rest
    → Fits limits OrInvalid span
or_invalid_fits limits None bytes rest h = tt
or_invalid_fits limits (Some span) bytes rest h = span_fits limits span bytes rest h

some_fit : (limits : Limits) (spans : List Ends) (bytes rest : List ℕ) → HasSome limits spans bytes rest → All (IsSpan limits) spans
some_fit limits [] bytes rest h = All-nil (IsSpan limits)
some_fit limits (span ∷ spans) bytes rest h =
    All-cons (IsSpan limits) span spans (span_fits limits span bytes h.0 h.1) (some_fit limits spans h.0 rest h.2)

rule_after_fits : (limits : Limits) (name : RuleName) (rule : Rule) (bytes rest : List ℕ) → HasRuleAfter limits name rule bytes rest
    → IsRule limits rule
rule_after_fits limits ForWord rule bytes rest h = rw h.1 h.2.is.line
rule_after_fits limits ForBlanks rule bytes rest h = rw h.0 tt
rule_after_fits limits ForLong rule bytes rest h = rw h.1 h.2.is.small
rule_after_fits limits ForPairs rule bytes rest h = rw h.0 tt
rule_after_fits limits ForRepeat rule bytes rest h = rw h.0 tt

rule_fits : (limits : Limits) (rule : Rule) (bytes rest : List ℕ) → HasRule limits rule bytes rest → IsRule limits rule
rule_fits limits rule bytes rest h = rw h.joined (rule_after_fits limits h.first h.second h.middle rest h.back)

field_fits : (limits : Limits) (kind : Kind) (value : Value kind) (bytes rest : List ℕ)
    → HasField limits kind value bytes rest → Fits limits kind value
field_fits limits (Number count) n bytes rest h = number_fits limits count n h.word h.is
field_fits limits (OrNone count) n bytes rest h = or_none_fits limits count n h.word h.is
field_fits limits APlace place bytes rest h = place_fits limits place bytes rest h
field_fits limits ASpan span bytes rest h = span_fits limits span bytes rest h
field_fits limits OrInvalid span bytes rest h = or_invalid_fits limits span bytes rest h
field_fits limits Spans spans bytes rest h = some_fit limits spans bytes rest h.0
field_fits limits AText text bytes rest h = h.is.text
field_fits limits APattern units bytes rest h = h.is.line
field_fits limits AQuery query bytes rest h = rw h.joined h.front.is.line
field_fits limits ARule rule bytes rest h = rule_fits limits rule bytes rest h
field_fits limits Expands expand bytes rest h = tt
field_fits limits Empties empty bytes rest h = tt
field_fits limits Succeeds ok bytes rest h = tt
field_fits limits Closes closed bytes rest h = tt

pub fields_fit : (limits : Limits) (kinds : List Kind) (values : Values kinds) (bytes rest : List ℕ)
    → HasFields limits kinds values bytes rest → AllFit limits kinds values
fields_fit limits [] values bytes rest h = tt
fields_fit limits (kind ∷ kinds) values bytes rest h =
    rw h.joined (field_fits limits kind h.first bytes h.middle h.front, fields_fit limits kinds h.second h.middle rest h.back)

-- the values that a command is filled with are those that make it
abbrev Refilled : Limits → Row Command → Type 0
Refilled limits row = (values : Values row.kinds) → AllFit limits row.kinds values → IsWithin limits (row.make values)

-- this holds of each of these rows
abbrev OfEach : (Row Command → Type 0) → List (Row Command) → Type 0
OfEach P [] = Unit {0}
OfEach P (row ∷ rows) = P row × OfEach P rows

of_each : (P : Row Command → Type 0) (rows : List (Row Command)) (row : Row Command) → IsOneOf rows row → OfEach P rows → P row
of_each P [] row is all = absurd is
of_each P (first ∷ rows) row (inl e) all = subst P (sym e) all.0
of_each P (first ∷ rows) row (inr is) all = of_each P rows row is all.1

each_refilled : (limits : Limits) → OfEach (Refilled limits) table
each_refilled limits = search arith

refilled : (limits : Limits) (row : Row Command) → IsOneOf table row → Refilled limits row
refilled limits row is = of_each (Refilled limits) table row is (each_refilled limits)

-- what is read in front is within the limits
pub front_within : (limits : Limits) (bytes : List ℕ) (command : Command) (rest : List ℕ)
    → front_at limits table bytes ≡ Ok (command, rest) → IsWithin limits command
unfolding front_at row_at
front_within limits bytes command rest e =
    let p = bind_ok (word_at (row_in table) bytes) (λ row. row_at limits row.0 row.1) (command, rest) e in
    let q = bind_ok (read_fields limits p.0.0.kinds p.0.1) (λ values. Ok (p.0.0.make values.0, values.1)) (command, rest) p.2 in
    let is : (p.0.0.make q.0.0, q.0.1) ≡ (command, rest) = done_same {A = Command × List ℕ} (p.0.0.make q.0.0, q.0.1) (command, rest) q.2 in
    let named = word_found (row_in table) bytes p.0.0 p.0.1 p.1 in
    let row = row_sound table (word (skip bytes)) p.0.0 named in
    let has = (fields_reads limits p.0.0.kinds).takes p.0.1 q.0.0 q.0.1 q.1 in
    subst (λ (z : Command × List ℕ). IsWithin limits z.0) is
    (refilled limits p.0.0 row.0 q.0.0 (fields_fit limits p.0.0.kinds q.0.0 p.0.1 q.0.1 has))

command_fits : (line : List ℕ) (command : Command) → command_at line ≡ Ok command → InLimits command
command_fits line command e =
    let is = (commands_in_words line command).0 e in
    rw is.made (refilled Script is.row is.named.is.0 is.values (fields_fit Script is.row.kinds is.values is.after is.end is.has))

said_says : (size : ℕ) (read : Result Command ℕ) (command : Command) → said size read ≡ Says command → read ≡ Ok command
said_says size (Ok c) command e = cc
said_says size (Err left) command e = absurd cc

not_said : (command : Command) → Nothing ≡ Says command → ⊥
not_said command e = cc

no_command : (column : ℕ) (command : Command) → Faulty column ≡ Says command → ⊥
no_command column command e = cc

-- what a line says is the command of the line
line_says : (line : List ℕ) (command : Command) → meaning line ≡ Says command → command_at line ≡ Ok command
unfolding meaning
line_says line command e =
    elim (decide (is_utf8 line)) [
      | inl text ↦ elim (decide (is_skipped (skip line))) [
        | inl s ↦ absurd (not_said command (rw (text, s) at e))
        | inr s ↦ said_says (length line) (command_at line) command (rw (text, s) at e)
      ]
      | inr text ↦ absurd (no_command (utf8_valid_len line + 1) command (rw text at e))
    ]

abbrev all_read : List Command → Result (List Command) ScriptFault
all_read commands = Ok commands

abbrev fails : ScriptFault → Result (List Command) ScriptFault
fails fault = Err fault

list_same : (a b : List Command) → all_read a ≡ Ok b → a ≡ b
list_same a b e = cc

refused : (fault : ScriptFault) (commands : List Command) → fails fault ≡ Ok commands → ⊥
refused fault commands e = cc

all_before : (P : Command → Type 0) (command : Command) (read : Result (List Command) ScriptFault) (commands : List Command)
    → P command → ((cs : List Command) → read ≡ Ok cs → All P cs) → before_all command read ≡ Ok commands → All P commands
all_before P command (Ok cs) commands holds others e =
    let is : command ∷ cs ≡ commands = list_same (command ∷ cs) commands e in
    subst (λ (xs : List Command). All P xs) is (All-cons P command cs holds (others cs refl))
all_before P command (Err fault) commands holds others e = absurd cc

with_line_all : (P : Command → Type 0) (number room : ℕ) (lines : List (List ℕ)) (commands : List Command) (meant : Meaning)
    → ((command : Command) → meant ≡ Says command → P command)
    → ((n r : ℕ) (cs : List Command) → read_from n r lines ≡ Ok cs → All P cs)
    → with_line number room meant (λ left. read_from (number + 1) left lines) ≡ Ok commands → All P commands
with_line_all P number room lines commands Nothing holds later e = later (number + 1) room commands e
with_line_all P number room lines commands (Says command) holds later e =
    elim (decide (nat_eq room 0)) [
      | inl full ↦ absurd (refused (faults.TooMany number) commands (rw full at e))
      | inr some ↦
          all_before P command (read_from (number + 1) (room - 1) lines) commands (holds command refl)
          (λ cs f. later (number + 1) (room - 1) cs f) (rw some at e)
    ]
with_line_all P number room lines commands (Faulty column) holds later e = absurd cc

-- what holds of the command of each line holds of all commands of a script
all_said : (P : Command → Type 0) → ((line : List ℕ) (command : Command) → command_at line ≡ Ok command → P command)
    → (lines : List (List ℕ)) (number room : ℕ) (commands : List Command) → read_from number room lines ≡ Ok commands → All P commands
all_said P holds [] number room commands e = subst (λ (xs : List Command). All P xs) (list_same [] commands e) (All-nil P)
all_said P holds (line ∷ lines) number room commands e =
    with_line_all P number room lines commands (meaning line) (λ command is. holds line command (line_says line command is))
    (λ n r cs f. all_said P holds lines n r cs f) e

pub all_fit : (lines : List (List ℕ)) (number room : ℕ) (commands : List Command)
    → read_from number room lines ≡ Ok commands → All InLimits commands
all_fit lines number room commands e = all_said InLimits command_fits lines number room commands e

-- ---- the numbers are in their ranges

span_reach : (span : Ends) → IsSpan Script span → SpanIsInReach span
span_reach span fits = record { start = fits.start; end = fits.end }

rule_word : (rule : Rule) → IsRule Script rule → HasWord rule
rule_word (rules.Word word) fits = fits.some
rule_word rules.Blanks fits = tt
rule_word (rules.Long limit) fits = tt
rule_word rules.Pairs fits = tt
rule_word rules.Repeat fits = tt

in_range : (command : Command) → InLimits command → InRange command
in_range (Edit change) fits = tt
in_range Begin fits = tt
in_range End fits = tt
in_range Undo fits = tt
in_range Redo fits = tt
in_range (MakeRange span expand empty) fits = span_reach span fits.0
in_range (SetRange id span) fits = span_reach span fits.1.0
in_range (DropRange id) fits = tt
in_range (ShowRange id) fits = tt
in_range Lock fits = tt
in_range (Unlock revision) fits = tt
in_range (Land revision span expand empty) fits = span_reach span fits.1.0
in_range (Fold span) fits = span_reach span fits.0
in_range (Unfold id) fits = tt
in_range (Find from query) fits = (fits.0, fits.1.0.some)
in_range (FindBack before query) fits = (fits.0, fits.1.0.some)
in_range (AllMatches query) fits = fits.0.some
in_range (Check rule) fits = rule_word rule fits.0
in_range Sync fits = tt
in_range Save fits = tt

pub all_in_range : (commands : List Command) → All InLimits commands → All InRange commands
all_in_range commands all = λ k d lt. in_range (get_or commands k d) (all k d lt)
