-- The trail of a document, all primitives since loading, and where a range is after it. The
-- revision is the length of the trail (KTextEditor's moving interface, whose revisions count in the
-- same way).
use Rattle.std.specs.Prelude.{◌≡◌, ◌≤◌, ◌&&◌, ℕ, List, [], ◌∷◌, length, take, drop, nat_lt, Option, None, Some, if◌then◌else◌}
use Rattle.kte_text.specs.Primitives.{after, after_all, FitInTurn}
use Rattle.kte_text.specs.declared.primitive.Primitive.{Primitive}
use Rattle.kte_place.specs.declared.span.Expand.{Expand}
use Rattle.kte_place.specs.declared.span.Empty.{Empty}
use Rattle.kte_place.specs.declared.entry.Entry.{Entry}
use Rattle.kte_place.specs.Ends.{Ends}
use Rattle.kte_place.specs.Span.{made, settle}
use Rattle.kte_history.specs.Landing.{carry_all}
use Rattle.kte_buffer.specs.Entries.{entry}
use Rattle.kte_ranges.specs.declared.info.Origin.{Origin}

-- the text at a revision: the loaded one after so many primitives of the trail
abbrev pub text_at : List (List ℕ) → List Primitive → ℕ → List (List ℕ)
text_at loaded trail revision = after_all (take revision trail) loaded

-- the entries of the trail: each primitive's in the text before it
abbrev pub entries_of : List Primitive → List (List ℕ) → List Entry
entries_of [] text = []
entries_of (primitive ∷ trail) text = entry primitive text ∷ entries_of trail (after primitive text)

-- Where a range is after the trail: made in the text at its origin's revision, and then carried
-- over all later entries
abbrev pub stand : List (List ℕ) → List Primitive → Expand → Empty → Origin → Option Ends
stand loaded trail expand empty origin =
    carry_all (drop origin.revision (entries_of trail loaded))
    (made (length (text_at loaded trail origin.revision)) origin.span empty) expand empty

-- a span whose lines are in a text of so many lines, and no other
abbrev pub in_text : ℕ → Option Ends → Option Ends
in_text lines None = None
in_text lines (Some span) =
    if nat_lt span.start.line lines && nat_lt span.end.line lines then Some span else None

-- A span lands, from the entries since its revision alone, where a range is that was made of it at
-- that revision: it is settled, carried over each entry and settled after each, and is invalid if a
-- line of it is not in the present text
abbrev pub LandsWhereItStands : Type 0
LandsWhereItStands =
    (loaded : List (List ℕ)) (trail : List Primitive) (revision : ℕ) (span : Ends) (expand : Expand)
    (empty : Empty) → FitInTurn trail loaded → revision ≤ length trail
    → in_text (length (after_all trail loaded))
    (carry_all (drop revision (entries_of trail loaded)) (settle span.start span.end empty) expand
    empty)
    ≡ stand loaded trail expand empty (record { revision = revision; span = span })
