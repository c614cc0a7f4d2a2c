-- What holds of every table of ranges as ranges come and go, and of every settling.
use Rattle.std.specs.Prelude.{◌≡◌, ℕ, ◌+◌, ◌-◌, ◌≤◌, ◌==◌, Bool, List, [], ◌∷◌, Option, Some, IsTrue, IsFalse}
use Rattle.std.specs.List.{list_any}
use Rattle.kte_place.specs.declared.span.Expand.{Expand}
use Rattle.kte_place.specs.declared.entry.EntryKind.{EntryKind}
use Rattle.kte_place.specs.declared.entry.EntryKind.TheVariants.{Wrap, Unwrap, Insert, Remove}
use Rattle.kte_place.specs.declared.entry.Entry.{Entry}
use Rattle.kte_place.specs.Entry.{carry}
use Rattle.kte_place.specs.Span.{ends, settle, start_on, end_on}
use Rattle.std.specs.FinMap.{get, insert, remove}
use Rattle.kte_place.specs.declared.span.Empty.{Empty}
use Rattle.kte_place.specs.Ends.{Ends}
use Rattle.kte_ranges.specs.declared.info.RangeInfo.{RangeInfo}
use Rattle.kte_ranges.specs.Table.{Ranges}
use Rattle.kte_ranges.specs.Cursors.{Hung, holds_cursor, IsFree, Hangs, HoldsTwo, CursorsHang, CursorsApart}
use Rattle.kte_ranges.specs.Settling.{settled}

-- cursors stay apart as a range comes under a number, where its own differ and no range of another
-- number holds them
abbrev pub ComesApart : Type 0
ComesApart =
    (ranges : Ranges) (id : ℕ) (info : RangeInfo) → CursorsApart ranges → HoldsTwo info
    → ((n : ℕ) → IsTrue (holds_cursor info n) → IsFree (remove ranges id) n)
    → CursorsApart (insert ranges id info)

-- cursors hang as a range comes whose cursors hang
abbrev pub ComesHung : Type 0
ComesHung =
    (hung : Hung) (ranges : Ranges) (id : ℕ) (info : RangeInfo) → CursorsHang hung ranges
    → Hangs hung info → CursorsHang hung (insert ranges id info)

-- cursors stay apart as a range goes
abbrev pub GoesApart : Type 0
GoesApart = (ranges : Ranges) (id : ℕ) → CursorsApart ranges → CursorsApart (remove ranges id)

-- no range holds the cursors of one that went
abbrev pub GoesFree : Type 0
GoesFree =
    (ranges : Ranges) (id n : ℕ) (info : RangeInfo) → CursorsApart ranges
    → get ranges id ≡ Some info → IsTrue (holds_cursor info n) → IsFree (remove ranges id) n

-- cursors hang as a range goes
abbrev pub GoesHung : Type 0
GoesHung =
    (hung : Hung) (ranges : Ranges) (id : ℕ) → CursorsHang hung ranges
    → CursorsHang hung (remove ranges id)

-- what has settled stays as it is
abbrev pub SettlesOnce : Type 0
SettlesOnce = (empty : Empty) (s : Option Ends) → settled empty (settled empty s) ≡ settled empty s

-- the lines that an entry of this kind, at this line, leaves changed: both lines of a cut, and the
-- line that another was joined to
abbrev pub lines_touched : EntryKind → ℕ → List ℕ
lines_touched Wrap line = line ∷ (line + 1) ∷ []
lines_touched Unwrap line = (line - 1) ∷ []
lines_touched Insert line = line ∷ []
lines_touched Remove line = line ∷ []

-- the entry touched this line of the text after it
abbrev pub is_touched_by : Entry → ℕ → Bool
is_touched_by entry line = list_any (λ n. n == line) (lines_touched entry.kind entry.line)

-- a settled range stays settled over an entry after which its start is on no touched line
abbrev pub UntouchedStaysSettled : Type 0
UntouchedStaysSettled =
    (entry : Entry) (s : Ends) (expand : Expand) (empty : Empty)
    → (entry.kind ≡ Unwrap → 1 ≤ entry.line)
    → settle s.start s.end empty ≡ Some s
    → IsFalse (is_touched_by entry (carry entry s.start (start_on expand)).line)
    → settle (carry entry s.start (start_on expand)) (carry entry s.end (end_on expand)) empty
    ≡ Some (ends (carry entry s.start (start_on expand)) (carry entry s.end (end_on expand)))
