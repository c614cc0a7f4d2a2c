-- How a document keeps what contracts see of it.
use Rattle.std.specs.Prelude.{◌≡◌, ℕ, ◌^◌, ◌≤◌, length, map, IsSome, IsTrue, Some}
use Rattle.std.specs.FinMap.{get, entries, from_sorted}
use Rattle.kte_place.specs.declared.span.Expand.{Expand}
use Rattle.kte_place.specs.declared.span.Empty.{Empty}
use Rattle.kte_place.specs.Ends.{Ends}
use Rattle.kte_place.specs.Span.{start_on, end_on}
use Rattle.kte_buffer.specs.Cursors.{hanging}
use Rattle.kte_ranges.specs.declared.info.RangeInfo.{RangeInfo}
use Rattle.kte_ranges.specs.Table.{Ranges}
use Rattle.kte_ranges.specs.Cursors.{Hung, span_of, holds_cursor, CursorsApart}
use Rattle.kte_doc.specs.Standings.{Standing, Standings}
use Rattle.kte_doc.specs.Documents.{Document}
use Rattle.kte_doc.specs.Within.{farthest_at, IsSettledWithin}
use Rattle.kte_doc.specs.declared.document.Doc.TheInside.{Inside}

-- a range as its cursors hang
abbrev pub standing_of : Hung → RangeInfo → Standing
standing_of hung info = record {
  expand = info.expand;
  empty = info.empty;
  kind = info.kind;
  origin = info.origin;
  span = span_of hung info;
}

-- all ranges as their cursors hang
abbrev pub standings_of : Hung → Ranges → Standings
standings_of hung ranges = from_sorted (map (λ e. (e.0, standing_of hung e.1)) (entries ranges))

-- the document that the fields stand for
abbrev pub document_of : Inside → Document
document_of doc = record {
  text = doc.buffer.text;
  revision = doc.history.revision;
  limit = doc.history.limit;
  ranges = standings_of doc.buffer.hung doc.ranges.ranges;
  next = doc.ranges.next;
  locks = doc.history.locks;
  kept = doc.history.kept;
}

-- the two cursors of a range hang at the ends of a settled span of the text, and do at an insertion
-- what the ends do
pub record HangAt (hung : Hung) (lines farthest : ℕ) (expand : Expand) (empty : Empty)
    (cursors : ℕ × ℕ) (span : Ends) : Type 0 where
  pub start : get hung cursors.0 ≡ Some (hanging span.start (start_on expand))
  pub end : get hung cursors.1 ≡ Some (hanging span.end (end_on expand))
  pub stands : IsSettledWithin lines farthest empty span

-- the cursors that hang are those of the ranges, no cursor is held twice, and each range's hang at
-- a settled span
pub record CursorsFit (hung : Hung) (ranges : Ranges) (lines farthest : ℕ) : Type 0 where
  pub apart : CursorsApart ranges
  pub hang : (id : ℕ) (info : RangeInfo) (cursors : ℕ × ℕ) → get ranges id ≡ Some info
      → info.cursors ≡ Some cursors
      → (span : Ends) × HangAt hung lines farthest info.expand info.empty cursors span
  pub held : (n : ℕ) → IsSome (get hung n)
      → (id : ℕ)
      × ((info : RangeInfo) × ((get ranges id ≡ Some info) × IsTrue (holds_cursor info n)))

-- no more primitives were made than may be, and the cursors are those of the ranges
pub record IsSound (doc : Inside) : Type 0 where
  pub within : doc.history.revision ≤ doc.history.limit
  pub small : doc.history.limit ≤ 2 ^ 31
  pub cursors : CursorsFit doc.buffer.hung doc.ranges.ranges (length doc.buffer.text)
      (farthest_at doc.history.revision)
