-- A span over one change after another, which is how a range moves with its text (KTextEditor's
-- MovingRange).
use Rattle.std.specs.Prelude.{◌≡◌, ℕ, ◌+◌, ◌*◌, ◌≤◌, Bool, not, ◌&&◌, ◌==◌, nat_lt, List, fold, Option, Some}
use Rattle.kte_place.specs.declared.place.TheConstants.{MAX_REACH}
use Rattle.kte_place.specs.declared.span.Expand.{Expand}
use Rattle.kte_place.specs.declared.span.Empty.{Empty}
use Rattle.kte_place.specs.declared.entry.EntryKind.{EntryKind}
use Rattle.kte_place.specs.declared.entry.EntryKind.TheVariants.{Wrap, Unwrap, Insert, Remove}
use Rattle.kte_place.specs.declared.entry.Entry.{Entry}
use Rattle.kte_place.specs.declared.entry.TheConstants.{MAX_LENGTH}
use Rattle.kte_place.specs.Ends.{Ends}
use Rattle.kte_place.specs.Span.{carry_span, settle}

-- a span carried over one entry after another, and settled after each
abbrev pub carry_all : List Entry → Option Ends → Expand → Empty → Option Ends
carry_all entries span expand empty = fold (λ span entry. carry_span entry span expand empty) span entries

-- an entry of this kind is on none of these lines, and moves none
abbrev pub is_clear_by : EntryKind → ℕ → Ends → Bool
is_clear_by Wrap line span = nat_lt span.end.line line
is_clear_by Unwrap line span = nat_lt span.end.line line
is_clear_by Insert line span = not (line == span.start.line) && not (line == span.end.line)
is_clear_by Remove line span = not (line == span.start.line) && not (line == span.end.line)

-- the entry happens after the span's lines, or within a line on which the span neither starts nor
-- ends
abbrev pub is_clear_of : Entry → Ends → Bool
is_clear_of entry span = is_clear_by entry.kind entry.line span

-- what is so of a span that was carried over so many entries: it is settled, and each entry moved
-- it by at most the greatest length
pub record HasLanded (count : ℕ) (empty : Empty) (span : Ends) : Type 0 where
  pub settled : settle span.start span.end empty ≡ Some span
  pub start : span.start.column ≤ MAX_REACH + count * MAX_LENGTH
  pub end : span.end.column ≤ MAX_REACH + count * MAX_LENGTH
