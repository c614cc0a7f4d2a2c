-- What becomes of the ranges and of their cursors when they settle: the rule of one range
-- (`kte_place`, after KTextEditor's MovingRange) for each of them.
use Rattle.std.specs.Prelude.{◌≡◌, ℕ, Option, None, Some}
use Rattle.std.specs.Option.{option_map}
use Rattle.std.specs.FinMap.{get}
use Rattle.kte_place.specs.declared.place.Place.{Place}
use Rattle.kte_place.specs.declared.span.Empty.{Empty}
use Rattle.kte_place.specs.Ends.{Ends}
use Rattle.kte_place.specs.Span.{settle}
use Rattle.kte_place.specs.Cursors.{Hanging, cursor_at}
use Rattle.kte_ranges.specs.declared.info.RangeInfo.{RangeInfo}
use Rattle.kte_ranges.specs.Cursors.{Hung, span_of}

-- a span by the rule of its range; an invalid range stays invalid
abbrev pub settled : Empty → Option Ends → Option Ends
settled empty None = None
settled empty (Some s) = settle s.start s.end empty

-- what a range settles to
abbrev pub settled_span : Hung → RangeInfo → Option Ends
settled_span hung info = settled info.empty (span_of hung info)

-- the cursors of a range that settled to this
abbrev pub cursors_kept : Option Ends → Option (ℕ × ℕ) → Option (ℕ × ℕ)
cursors_kept None cursors = None
cursors_kept (Some s) cursors = cursors

-- the range after it settled: it is the same, but that it has no cursors where it became invalid
abbrev pub settled_info : Hung → RangeInfo → RangeInfo
settled_info hung info =
    record info { cursors = cursors_kept (settled_span hung info) info.cursors }

-- a cursor that goes to a place, or is taken out where there is none
abbrev pub sent_to : Option Place → Option Hanging → Option Hanging
sent_to None h = None
sent_to (Some place) h = cursor_at place h

-- a range's cursors, if it has any, go to the ends of what it settles to, and keep their behaviour;
-- they are taken out where it becomes invalid
pub record CursorsFollow (old new : Hung) (info : RangeInfo) : Type 0 where
  pub start : (c : ℕ × ℕ) → info.cursors ≡ Some c
      → get new c.0 ≡ sent_to (option_map (λ s. s.start) (settled_span old info)) (get old c.0)
  pub end : (c : ℕ × ℕ) → info.cursors ≡ Some c
      → get new c.1 ≡ sent_to (option_map (λ s. s.end) (settled_span old info)) (get old c.1)
