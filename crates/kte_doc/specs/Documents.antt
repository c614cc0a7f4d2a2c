-- A document: a text, its ranges, and how many primitives have changed it since it was loaded
-- (KTextEditor's Document, MovingRange and revisions).
use Rattle.std.specs.Prelude.{◌≡◌, ℕ, ◌-◌, ◌≤◌, List, [], ◌∷◌, ◌++◌, length, slice_get, nat_lt, Option, if◌then◌else◌, refl}
use Rattle.std.specs.Option.{option_map}
use Rattle.std.specs.FinMap.{get}
use Rattle.std.specs.Coded.{Coded, code_by, coded×, coded_list, coded_ℕ}
use Rattle.kte_text.specs.Primitives.{after_all, FitInTurn}
use Rattle.kte_text.specs.declared.primitive.Primitive.{Primitive}
use Rattle.kte_place.specs.contracts.entry.Entry as entry_contract
use Rattle.kte_place.specs.declared.entry.Entry.{Entry}
use Rattle.kte_history.specs.contracts.lock.Lock as lock_contract
use Rattle.kte_history.specs.declared.lock.Lock.{Lock}
use Rattle.kte_place.specs.declared.span.Expand.{Expand}
use Rattle.kte_place.specs.declared.span.Empty.{Empty}
use Rattle.kte_place.specs.Ends.{Ends}
use Rattle.kte_history.specs.Revisions.{Revisions, with_entry, landed}
use Rattle.kte_history.specs.Laws.{IsHistoryOf}
use Rattle.kte_ranges.specs.declared.info.RangeKind.{RangeKind}
use Rattle.kte_ranges.specs.Table.{NumbersBelow}
use Rattle.kte_doc.specs.Standings.{Standing, Standings, AllStandings, standings_code}
use Rattle.kte_doc.specs.Trail.{entries_of, in_text, stand}

-- what a `Doc` holds
pub record Document : Type 0 where
  -- the present text
  pub text : List (List ℕ)
  -- the number of primitives made since loading
  pub revision : ℕ
  -- the greatest revision
  pub limit : ℕ
  -- the ranges by their numbers
  pub ranges : Standings
  -- the number that the next range gets
  pub next : ℕ
  -- the locks on revisions, in the order in which they were taken
  pub locks : List Lock
  -- the entries since the oldest locked revision, and none if nothing is locked
  pub kept : List Entry

-- the history of a document: how many further entries there is room for is not seen
abbrev pub history_of : Document → Revisions
history_of document = record {
  kept = document.kept;
  locks = document.locks;
  revision = document.revision;
  limit = document.limit;
  reserved = 0;
}

-- the entries that are kept after one more
abbrev pub kept_further : Document → Entry → List Entry
kept_further document entry = (with_entry entry (history_of document)).kept

-- a range that is made of a span of the text at a revision, in a text of so many lines with this
-- history: it is where the span lands
abbrev pub range_at : Revisions → ℕ → ℕ → Expand → Empty → RangeKind → Ends → Standing
range_at history lines revision expand empty kind span = record {
  expand = expand;
  empty = empty;
  kind = kind;
  origin = record { revision = revision; span = span };
  span = in_text lines (landed history revision span expand empty);
}

-- the range of a number after ranges were made of spans of the text at a revision: they have rising
-- numbers from the next one on, and every other range is as before
abbrev pub made_of : Document → ℕ → Expand → Empty → RangeKind → List Ends → ℕ → Option Standing
made_of document revision expand empty kind spans id =
    if nat_lt id document.next then get document.ranges id
    else option_map
    (range_at (history_of document) (length document.text) revision expand empty kind)
    (slice_get spans (id - document.next))

-- the range was made or last set at a revision of the trail, and is where the trail puts it
pub record StandsBy (loaded : List (List ℕ)) (trail : List Primitive) (standing : Standing)
    : Type 0 where
  pub origin : standing.origin.revision ≤ length trail
  pub span : standing.span ≡ stand loaded trail standing.expand standing.empty standing.origin

-- The document came from the loaded text by the primitives of the trail, each of which fitted: its
-- text is the one after them, every range is where the trail puts it, and the entries since the
-- oldest locked revision are kept
pub record CameBy (loaded : List (List ℕ)) (trail : List Primitive) (document : Document)
    : Type 0 where
  pub fits : FitInTurn trail loaded
  pub text : document.text ≡ after_all trail loaded
  pub revision : document.revision ≡ length trail
  pub ranges : AllStandings (StandsBy loaded trail) document.ranges
  pub first : 1 ≤ document.next
  pub numbers : NumbersBelow document.next document.ranges
  pub history : IsHistoryOf (entries_of trail loaded) (history_of document)

-- a change of the document that makes no primitive
abbrev pub KeepsTrail : Document → Document → Type 0
KeepsTrail old new =
    (loaded : List (List ℕ)) (trail : List Primitive) → CameBy loaded trail old
    → CameBy loaded trail new

-- a change of the document that makes this one primitive
abbrev pub ExtendsTrail : Primitive → Document → Document → Type 0
ExtendsTrail primitive old new =
    (loaded : List (List ℕ)) (trail : List Primitive) → CameBy loaded trail old
    → CameBy loaded (trail ++ primitive ∷ []) new

-- a document is stored as the tuple of its fields
abbrev pub document_code : Coded Document
document_code =
    code_by (List (List ℕ) × (ℕ × (ℕ × (Standings × (ℕ × (List Lock × List Entry))))))
    (coded× (coded_list (coded_list coded_ℕ)) (coded× coded_ℕ (coded× coded_ℕ (coded× standings_code
    (coded× coded_ℕ
    (coded× (coded_list lock_contract.the_row.coded) (coded_list entry_contract.the_row.coded)))))))
    (λ d. (d.text, (d.revision, (d.limit, (d.ranges, (d.next, (d.locks, d.kept)))))))
    (λ t. record {
      text = t.0;
      revision = t.1.0;
      limit = t.1.1.0;
      ranges = t.1.1.1.0;
      next = t.1.1.1.1.0;
      locks = t.1.1.1.1.1.0;
      kept = t.1.1.1.1.1.1;
    })
    (λ _. refl)
