-- Ranges that are made together, of spans of the text at one revision.
use Rattle.std.specs.Prelude.{◌≡◌, ℕ, ◌+◌, List, [], ◌∷◌, Option, IfSome}
use Rattle.std.specs.FinMap.{insert}
use Rattle.kte_place.specs.Ends.{Ends}
use Rattle.kte_history.specs.Revisions.{Revisions, landed}
use Rattle.kte_ranges.specs.declared.info.RangeInfo.{RangeInfo}
use Rattle.kte_ranges.specs.Table.{Ranges}
use Rattle.kte_ranges.specs.Cursors.{Hung}
use Rattle.kte_doc.specs.declared.batch.Batch.{Batch}
use Rattle.kte_doc.specs.Standings.{Standing}
use Rattle.kte_doc.specs.Trail.{in_text}
use Rattle.kte_doc.specs.Hanging.{HangsNew}
use Rattle.kte_doc.specs.Within.{IsSettledWithin}
use Rattle.kte_doc.specs.Documents.{range_at}

-- where the span of a range's origin has come to, in a text of so many lines with this history
abbrev pub landed_info : Revisions → ℕ → RangeInfo → Option Ends
landed_info h lines info =
    in_text lines (landed h info.origin.revision info.origin.span info.expand info.empty)

-- the range as it is there
abbrev pub standing_by : Revisions → ℕ → RangeInfo → Standing
standing_by h lines info =
    range_at h lines info.origin.revision info.expand info.empty info.kind info.origin.span

-- the range of the batch that is made of a span
abbrev pub range_of : Revisions → ℕ → Batch → Ends → Standing
range_of h lines batch span =
    range_at h lines batch.revision batch.expand batch.empty batch.kind span

-- the cursors of a range came, where its span has come to
pub record Comes (lines farthest : ℕ) (to : RangeInfo → Option Ends) (info : RangeInfo)
    (old new : Hung) : Type 0 where
  pub hangs : HangsNew old new info.expand info.cursors (to info)
  pub within : IfSome (to info) (IsSettledWithin lines farthest info.empty)

-- the cursors of ranges came, those of one range after those of another
abbrev pub ComeInTurn : ℕ → ℕ → (RangeInfo → Option Ends) → List RangeInfo → Hung → Hung → Type 0
ComeInTurn lines farthest to [] old new = new ≡ old
ComeInTurn lines farthest to (info ∷ infos) old new =
    (mid : Hung)
    × (Comes lines farthest to info old mid × ComeInTurn lines farthest to infos mid new)

-- so it was with the cursors that hang
pub record HaveCome (infos : List RangeInfo) (hung : Hung) : Type 0 where
  pub lines : ℕ
  pub farthest : ℕ
  pub to : RangeInfo → Option Ends
  pub before : Hung
  pub come : ComeInTurn lines farthest to infos before hung

-- the ranges with some more, at rising numbers from one on
abbrev pub with_ranges : Ranges → ℕ → List RangeInfo → Ranges
with_ranges ranges next [] = ranges
with_ranges ranges next (info ∷ infos) = with_ranges (insert ranges next info) (next + 1) infos
