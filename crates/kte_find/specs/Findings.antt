-- The findings of a rule in a text. This project's own rules
use Rattle.std.specs.Prelude.{◌≡◌, ℕ, ◌+◌, ◌<◌, ◌↔◌, List, length, take, Contains, AllPairs, IsTrue}
use Rattle.kte_place.specs.Ends.{Ends}
use Rattle.kte_place.specs.Place.{at, is_before}
use Rattle.kte_place.specs.Span.{ends}
use Rattle.kte_text.specs.Texts.{line_at}
use Rattle.kte_find.specs.declared.found.TheConstants.{MAX_FINDINGS}
use Rattle.kte_find.specs.declared.rule.Rule.{Rule}
use Rattle.kte_find.specs.declared.rule.Rule.TheVariants.{Word, Blanks, Long, Pairs, Repeat}
use Rattle.kte_find.specs.OnLine.{IsPlaceOf, IsBlankEnd, IsBeyond, IsRepeated}
use Rattle.kte_find.specs.Brackets.{Placed, placed, IsLone}

-- the span lies in one line of the text, and its columns are found there
pub record IsInLine (P : List ℕ → ℕ → ℕ → Type 0) (text : List (List ℕ)) (span : Ends) : Type 0 where
  pub there : span.start.line < length text
  pub same : span.end.line ≡ span.start.line
  pub found : P (line_at text span.start.line) span.start.column span.end.column

-- the span of one unit
abbrev pub span_of : Placed → Ends
span_of unit = ends unit.place (at unit.place.line (unit.place.column + 1))

-- the span is that of a bracket in no pair
pub record IsLoneSpan (text : List (List ℕ)) (span : Ends) : Type 0 where
  pub bracket : Placed
  pub lone : IsLone (placed text) bracket
  pub whole : span ≡ span_of bracket

-- the span is a finding of the rule
abbrev pub IsFinding : Rule → List (List ℕ) → Ends → Type 0
IsFinding (Word word) text span = IsInLine (IsPlaceOf word) text span
IsFinding Blanks text span = IsInLine IsBlankEnd text span
IsFinding (Long limit) text span = IsInLine (IsBeyond limit) text span
IsFinding Pairs text span = IsLoneSpan text span
IsFinding Repeat text span = IsInLine IsRepeated text span

-- all spans with this property, in the order of their starts, which all differ
pub record AreAll (P : Ends → Type 0) (spans : List Ends) : Type 0 where
  pub each : (span : Ends) → Contains spans span ↔ P span
  pub ordered : AllPairs (λ one next. IsTrue (is_before one.start next.start)) spans

-- the findings of the rule in the text, the first 4,096 of them by place
pub record AreFindings (rule : Rule) (text : List (List ℕ)) (spans : List Ends) : Type 0 where
  pub all : List Ends
  pub are_all : AreAll (IsFinding rule text) all
  pub first : spans ≡ take MAX_FINDINGS all
