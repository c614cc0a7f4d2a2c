-- What contracts see of the ranges of a document (KTextEditor's MovingRange; their numbers are this
-- project's own).
use Rattle.std.specs.Prelude.{◌≡◌, ℕ, List, length, Option, None, Some, is_some, refl}
use Rattle.std.specs.Option.{option_map}
use Rattle.std.specs.List.{filter_map}
use Rattle.std.specs.Ordering.{nat_cmp}
use Rattle.std.specs.FinMap.{FinMap, get, entries, from_entries, code}
use Rattle.std.specs.Coded.{Coded, code_by, coded×, coded_ℕ, coded_option}
use Rattle.kte_place.specs.declared.span.Expand.{Expand}
use Rattle.kte_place.specs.declared.span.Empty.{Empty}
use Rattle.kte_place.specs.declared.entry.Entry.{Entry}
use Rattle.kte_place.specs.Ends.{Ends}
use Rattle.kte_place.specs.Span.{made, carry_span}
use Rattle.kte_place.specs.Codes.{ends_code}
use Rattle.kte_ranges.specs.declared.info.RangeKind.{RangeKind}
use Rattle.kte_ranges.specs.declared.info.Origin.{Origin}
use Rattle.kte_ranges.specs.declared.info.RangeInfo.{RangeInfo}
use Rattle.kte_ranges.specs.Table.{expand_code, empty_code, kind_code, origin_code}

-- a range: what it does at a change, whose it is, where it was made or last set, and where it is
-- now. `None` is invalid
pub record Standing : Type 0 where
  pub expand : Expand
  pub empty : Empty
  pub kind : RangeKind
  pub origin : Origin
  pub span : Option Ends

-- the ranges by their numbers
abbrev pub Standings : Type 0
Standings = FinMap nat_cmp Standing

-- each range has a property
abbrev pub AllStandings : (Standing → Type 0) → Standings → Type 0
AllStandings P ranges = (id : ℕ) (standing : Standing) → get ranges id ≡ Some standing → P standing

-- a range that is made at a span of the present text, at the present revision
abbrev pub new_range : List (List ℕ) → ℕ → Ends → Expand → Empty → RangeKind → Standing
new_range text revision span expand empty kind = record {
  expand = expand;
  empty = empty;
  kind = kind;
  origin = record { revision = revision; span = span };
  span = made (length text) span empty;
}

-- a range that is set to a span of the present text, at the present revision: all else of it stays
abbrev pub reset_to : List (List ℕ) → ℕ → Ends → Standing → Standing
reset_to text revision span old = new_range text revision span old.expand old.empty old.kind

-- a range after an entry: its span is carried over the entry, and all else of it stays
abbrev pub moved_over : Entry → Standing → Standing
moved_over entry old = record old { span = carry_span entry old.span old.expand old.empty }

-- the ranges that are not invalid, by where they stand
abbrev pub spans_of : Standings → FinMap nat_cmp Ends
spans_of ranges =
    from_entries (filter_map (λ e. option_map (λ span. (e.0, span)) e.1.span) (entries ranges))

-- an information on a range is that of the range, and it has cursors exactly if it is not invalid
pub record TellsOf (standing : Standing) (info : RangeInfo) : Type 0 where
  pub expand : info.expand ≡ standing.expand
  pub empty : info.empty ≡ standing.empty
  pub kind : info.kind ≡ standing.kind
  pub origin : info.origin ≡ standing.origin
  pub cursors : is_some info.cursors ≡ is_some standing.span

-- something is told exactly where there is a range
abbrev pub Tells : Option Standing → Option RangeInfo → Type 0
Tells None None = Unit {0}
Tells None (Some info) = ⊥
Tells (Some standing) None = ⊥
Tells (Some standing) (Some info) = TellsOf standing info

-- a range is stored as the tuple of its fields
abbrev pub standing_code : Coded Standing
standing_code =
    code_by ((Expand × Empty) × (RangeKind × (Origin × Option Ends)))
    (coded× (coded× expand_code empty_code)
    (coded× kind_code (coded× origin_code (coded_option ends_code))))
    (λ s. ((s.expand, s.empty), (s.kind, (s.origin, s.span))))
    (λ t. record { expand = t.0.0; empty = t.0.1; kind = t.1.0; origin = t.1.1.0; span = t.1.1.1 })
    (λ _. refl)

-- all ranges, by their numbers
abbrev pub standings_code : Coded Standings
standings_code = code coded_ℕ standing_code
