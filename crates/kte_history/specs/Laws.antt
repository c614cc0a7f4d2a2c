-- The statements of the laws of histories.
use Rattle.std.specs.Prelude.{◌≡◌, ℕ, ◌+◌, ◌<◌, ◌≤◌, List, [], ◌∷◌, ◌++◌, length, drop, fold, count_by, All, Any, IsTrue, IsFalse, IfSome, IfNone, Some}
use Rattle.kte_place.specs.declared.span.Expand.{Expand}
use Rattle.kte_place.specs.declared.span.Empty.{Empty}
use Rattle.kte_place.specs.declared.entry.Entry.{Entry}
use Rattle.kte_place.specs.Ends.{Ends}
use Rattle.kte_place.specs.Place.{is_at_or_before}
use Rattle.kte_place.specs.Entry.{lines_after}
use Rattle.kte_place.specs.Span.{carry_span, settle}
use Rattle.kte_place.specs.Laws.{IsWithin}
use Rattle.kte_history.specs.declared.lock.Lock.{Lock}
use Rattle.kte_history.specs.declared.lock.Owner.{Owner}
use Rattle.kte_history.specs.Locks.{oldest, kept, has_lock, is_lock_of, unlocked}
use Rattle.kte_history.specs.Landing.{carry_all, is_clear_of}
use Rattle.kte_history.specs.Revisions.{Revisions, begun, with_entry, with_lock, without_lock, can_land, landed}

-- The history is that of the trail, all entries since loading: its revision is the length of the
-- trail, it keeps of the trail what its locks keep, and no later revision is locked
pub record IsHistoryOf (trail : List Entry) (h : Revisions) : Type 0 where
  pub revision : h.revision ≡ length trail
  pub kept : h.kept ≡ kept h.locks trail
  pub locked : All (λ lock. lock.revision ≤ length trail) h.locks

-- ---- what each call does to the history of a trail, whatever there is memory for

-- a text that was just loaded has no trail
abbrev pub BeginsHistory : Type 0
BeginsHistory = (limit reserved : ℕ) → IsHistoryOf [] (record (begun limit) { reserved = reserved })

-- one more entry
abbrev pub AddsToHistory : Type 0
AddsToHistory =
    (trail : List Entry) (h : Revisions) (entry : Entry) (reserved : ℕ) → IsHistoryOf trail h
    → IsHistoryOf (trail ++ entry ∷ []) (record (with_entry entry h) { reserved = reserved })

-- one more lock
abbrev pub LocksHistory : Type 0
LocksHistory =
    (trail : List Entry) (h : Revisions) (owner : Owner) (reserved : ℕ) → IsHistoryOf trail h
    → IsHistoryOf trail (record (with_lock owner h) { reserved = reserved })

-- one lock less
abbrev pub UnlocksHistory : Type 0
UnlocksHistory =
    (trail : List Entry) (h : Revisions) (owner : Owner) (revision reserved : ℕ) → IsHistoryOf trail h
    → IsHistoryOf trail (record (without_lock owner revision h) { reserved = reserved })

-- a span is carried from a revision to the present over all entries of the trail since
abbrev pub LandsOverTrail : Type 0
LandsOverTrail =
    (trail : List Entry) (h : Revisions) (revision : ℕ) (span : Ends) (expand : Expand) (empty : Empty)
    → IsHistoryOf trail h → IsTrue (can_land h revision)
    → landed h revision span expand empty
    ≡ carry_all (drop revision trail) (settle span.start span.end empty) expand empty

-- ---- locks

-- the oldest locked revision is locked, and no lock is on an older one
abbrev pub OldestIsLeast : Type 0
OldestIsLeast =
    (locks : List Lock)
    → IfSome (oldest locks) (λ revision. Any (λ lock. lock.revision ≡ revision) locks × All (λ lock. revision ≤ lock.revision) locks)

-- nothing is locked where there is no oldest one
abbrev pub NoOldest : Type 0
NoOldest = (locks : List Lock) → IfNone (oldest locks) (locks ≡ [])

-- unlocking removes one lock of the owner on the revision, if there is one
abbrev pub UnlocksOne : Type 0
UnlocksOne =
    (locks : List Lock) (owner : Owner) (revision : ℕ) → IsTrue (has_lock locks owner revision)
    → count_by (is_lock_of owner revision) (unlocked locks owner revision) + 1
    ≡ count_by (is_lock_of owner revision) locks

-- .. and no other lock
abbrev pub UnlocksNoOther : Type 0
UnlocksNoOther =
    (locks : List Lock) (owner other : Owner) (revision another : ℕ)
    → ((lock : Lock) → IsTrue (is_lock_of owner revision lock) → IsFalse (is_lock_of other another lock))
    → count_by (is_lock_of other another) (unlocked locks owner revision)
    ≡ count_by (is_lock_of other another) locks

-- ---- lines and landing

-- the lines of a text of so many lines, after the entries
abbrev pub lines_after_all : List Entry → ℕ → ℕ
lines_after_all entries lines = fold (λ lines entry. lines_after entry.kind lines) lines entries

-- each entry is within the text that those before it left
abbrev pub AreWithin : ℕ → List Entry → Type 0
AreWithin lines [] = Unit {0}
AreWithin lines (entry ∷ entries) = IsWithin lines entry × AreWithin (lines_after entry.kind lines) entries

-- a span of the text stays in it
abbrev pub LandsInText : Type 0
LandsInText =
    (lines : ℕ) (entries : List Entry) (span : Ends) (expand : Expand) (empty : Empty)
    → AreWithin lines entries → span.start.line < lines → span.end.line < lines
    → IfSome (carry_all entries (Some span) expand empty) (λ landed.
    (landed.start.line < lines_after_all entries lines) × (landed.end.line < lines_after_all entries lines))

-- a span that ends past the text ends past it for good, by the same distance
abbrev pub LandsPastText : Type 0
LandsPastText =
    (lines : ℕ) (entries : List Entry) (span : Ends) (expand : Expand) (empty : Empty)
    → AreWithin lines entries → IsTrue (is_at_or_before span.start span.end) → lines ≤ span.end.line
    → IfSome (carry_all entries (Some span) expand empty) (λ landed.
    landed.end.line + lines ≡ span.end.line + lines_after_all entries lines)

-- an entry that is clear of a settled span leaves it as it is
abbrev pub ClearEntryKeeps : Type 0
ClearEntryKeeps =
    (entry : Entry) (span : Ends) (expand : Expand) (empty : Empty)
    → settle span.start span.end empty ≡ Some span → IsTrue (is_clear_of entry span)
    → carry_span entry (Some span) expand empty ≡ Some span
