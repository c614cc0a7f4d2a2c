-- The commands that a script or a journal can hold: their numbers and texts are within its limits.
-- This project's own rule
use Rattle.std.specs.Prelude.{◌≡◌, ℕ, ◌≤◌, ◌<◌, false, List, [], ◌∷◌, ◌++◌, length, All, IfSome, IsTrue}
use Rattle.kte_find.specs.declared.rule.Rule.{Rule}
use Rattle.kte_find.specs.declared.rule.Rule.TheVariants as rules
use Rattle.kte_text.specs.Texts.{IsText}
use Rattle.kte_text.specs.Units.{IsLine}
use Rattle.kte_place.specs.declared.place.Place.{Place}
use Rattle.kte_place.specs.Ends.{Ends}
use Rattle.kte_place.specs.Place.{is_at_or_before}
use Rattle.kte_command.specs.declared.command.Command.{Command}
use Rattle.kte_script.specs.declared.limits.Limits.{Limits}
use Rattle.kte_script.specs.declared.limits.Limits.TheVariants.{Script, Journal}
use Rattle.kte_script.specs.Words.{skip}
use Rattle.kte_script.specs.Fields.{ALine, AColumn, most, Kind, Number, OrNone, APlace, ASpan, OrInvalid, Spans, AText, APattern, AQuery, ARule, Expands, Empties, Succeeds, Closes, Value, starts_number}
use Rattle.kte_script.specs.Table.{Values, filled, spell_fields, spelling}

-- a place that may be named
abbrev pub IsPlace : Limits → Place → Type 0
IsPlace limits place = (place.line ≤ most limits ALine) × (place.column ≤ most limits AColumn)

-- two places that may be named, the start at or before the end
pub record IsSpan (limits : Limits) (span : Ends) : Type 0 where
  pub start : IsPlace limits span.start
  pub end : IsPlace limits span.end
  pub order : IsTrue (is_at_or_before span.start span.end)

-- a line that is not empty
pub record IsPattern (units : List ℕ) : Type 0 where
  pub whole : IsLine units
  pub some : 0 < length units

abbrev pub IsRule : Limits → Rule → Type 0
IsRule limits (rules.Word word) = IsPattern word
IsRule limits rules.Blanks = Unit {0}
IsRule limits (rules.Long limit) = limit ≤ most limits AColumn
IsRule limits rules.Pairs = Unit {0}
IsRule limits rules.Repeat = Unit {0}

-- a value that a field of this kind may have
abbrev pub Fits : Limits → (kind : Kind) → Value kind → Type 0
Fits limits (Number count) n = n ≤ most limits count
Fits limits (OrNone count) n = IfSome n (λ n. n ≤ most limits count)
Fits limits APlace place = IsPlace limits place
Fits limits ASpan span = IsSpan limits span
Fits limits OrInvalid span = IfSome span (IsSpan limits)
Fits limits Spans spans = All (IsSpan limits) spans
Fits limits AText text = IsText text
Fits limits APattern units = IsPattern units
Fits limits AQuery query = IsPattern query.pattern
Fits limits ARule rule = IsRule limits rule
Fits limits Expands expand = Unit {0}
Fits limits Empties empty = Unit {0}
Fits limits Succeeds ok = Unit {0}
Fits limits Closes closed = Unit {0}

abbrev pub AllFit : Limits → (kinds : List Kind) → Values kinds → Type 0
AllFit limits [] values = Unit {0}
AllFit limits (kind ∷ kinds) values = Fits limits kind values.0 × AllFit limits kinds values.1

-- what may follow the spelling of a field: after spans no digit begins the next word
abbrev pub MayPrecede : Kind → List ℕ → Type 0
MayPrecede Spans rest = starts_number (skip rest) ≡ false
MayPrecede kind rest = Unit {0}

-- what follows each of these fields may follow it
abbrev pub ArePartedBy : (kinds : List Kind) → Values kinds → List ℕ → Type 0
ArePartedBy [] values rest = Unit {0}
ArePartedBy (kind ∷ kinds) values rest =
    MayPrecede kind (spell_fields kinds values.1 ++ rest) × ArePartedBy kinds values.1 rest

-- a command within these limits
abbrev pub IsWithin : Limits → Command → Type 0
IsWithin limits command = AllFit limits (filled command).row.kinds (filled command).values

-- a command within the limits of a script
abbrev pub InLimits : Command → Type 0
InLimits command = IsWithin Script command

-- bytes begin with the canonical spelling of a command, of this length, and a space
pub record BeginsWith (bytes : List ℕ) (command : Command) (size : ℕ) : Type 0 where
  pub within : IsWithin Journal command
  pub after : List ℕ
  pub parts : bytes ≡ spelling command ++ 32 ∷ after
  pub counted : size ≡ length (spelling command)
