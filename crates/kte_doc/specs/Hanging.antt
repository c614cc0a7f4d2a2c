-- How the two cursors of one range come to hang, and go.
use Rattle.std.specs.Prelude.{◌≡◌, ◌≢◌, ℕ, ◌<◌, ◌≤◌, Option, None, Some}
use Rattle.std.specs.FinMap.{get, insert}
use Rattle.kte_place.specs.declared.span.Expand.{Expand}
use Rattle.kte_place.specs.Ends.{Ends}
use Rattle.kte_place.specs.declared.place.TheConstants.{MAX_COLUMN}
use Rattle.kte_place.specs.Span.{start_on, end_on}
use Rattle.kte_buffer.specs.Cursors.{hanging}
use Rattle.kte_ranges.specs.Cursors.{Hung}

-- the cursors of a range can hang at the span, in a text of so many lines
pub record CanHang (lines : ℕ) (span : Ends) : Type 0 where
  pub start_line : span.start.line < lines
  pub start_column : span.start.column ≤ MAX_COLUMN
  pub end_line : span.end.line < lines
  pub end_column : span.end.column ≤ MAX_COLUMN

-- two new cursors hang at the ends of the span, and do at an insertion what the ends of such a
-- range do
pub record HungAt (old new : Hung) (expand : Expand) (cursors : ℕ × ℕ) (span : Ends) : Type 0 where
  pub start_free : get old cursors.0 ≡ None
  pub end_free : get old cursors.1 ≡ None
  pub two : cursors.0 ≢ cursors.1
  pub hung : new ≡ insert (insert old cursors.0 (hanging span.start (start_on expand)))
      cursors.1 (hanging span.end (end_on expand))

-- the new cursors of a range that stands at the span; there are none where it is invalid
abbrev pub HangsNew : Hung → Hung → Expand → Option (ℕ × ℕ) → Option Ends → Type 0
HangsNew old new expand None None = new ≡ old
HangsNew old new expand None (Some span) = ⊥
HangsNew old new expand (Some cursors) None = ⊥
HangsNew old new expand (Some cursors) (Some span) = HungAt old new expand cursors span
