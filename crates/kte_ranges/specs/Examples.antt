-- Short words for the worked examples.
use Rattle.std.specs.Prelude.{ℕ, Bool, false, Option, if◌then◌else◌}
use Rattle.std.specs.FinMap.{insert, empty}
use Rattle.kte_place.specs.declared.place.Place.{Place}
use Rattle.kte_place.specs.declared.place.OnInsert.{OnInsert}
use Rattle.kte_place.specs.declared.place.OnInsert.TheVariants.{Stay, Move}
use Rattle.kte_place.specs.declared.span.Empty.{Empty}
use Rattle.kte_place.specs.Ends.{Ends}
use Rattle.kte_place.specs.Place.{at}
use Rattle.kte_place.specs.Span.{ends}
use Rattle.kte_place.specs.Cursors.{Hanging}
use Rattle.kte_ranges.specs.declared.info.RangeKind.TheVariants.{User}
use Rattle.kte_ranges.specs.declared.info.RangeInfo.{RangeInfo}
use Rattle.kte_ranges.specs.Cursors.{Hung}

-- from a column to a column of line 0
abbrev pub on_line : ℕ → ℕ → Ends
on_line start end = ends (at 0 start) (at 0 end)

-- a cursor at a column of line 0
abbrev pub hanging : ℕ → OnInsert → Hanging
hanging column on = record { place = at 0 column; on_insert = on }

-- the user's range with these cursors
abbrev pub range : Empty → Option (ℕ × ℕ) → RangeInfo
range empty cursors = record {
  expand = record { left = false; right = false };
  empty = empty;
  kind = User;
  origin = record { revision = 0; span = on_line 0 0 };
  cursors = cursors;
}

-- cursor 7 at column 5 of line 0, and cursor 8 before it, at column 2
abbrev pub crossed : Hung
crossed = insert (insert empty 7 (hanging 5 Move)) 8 (hanging 2 Stay)

-- a cursor, if it hangs, beside others
abbrev pub with_peg : Hung → ℕ → Bool → Place → Hung
with_peg hung n hangs place =
    if hangs then insert hung n (record { place = place; on_insert = Stay }) else hung

-- two cursors, of numbers 0 and 1
abbrev pub pegs : Bool → Place → Bool → Place → Hung
pegs first start second end = with_peg (with_peg empty 0 first start) 1 second end
