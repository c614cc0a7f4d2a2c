-- A settled range whose start is on no touched line stays settled.
use Rattle.std.proofs.Common.{◌≡◌, ◌≤◌, ◌<◌, ⊎_elim, ◌==◌, nat_lt, if◌then◌else◌, Some, IsFalse, refl, arith}
use Rattle.std.proofs.lemmas.Bool.{cases_lt}
use Rattle.std.proofs.lemmas.Bool.Decides.{nat_tests}
use Rattle.std.specs.List.{list_any}
use Rattle.kte_place.specs.declared.place.Place.{Place}
use Rattle.kte_place.specs.declared.place.OnInsert.{OnInsert}
use Rattle.kte_place.specs.declared.span.Empty.{Empty}
use Rattle.kte_place.specs.declared.span.Empty.TheVariants.{Allow, Void}
use Rattle.kte_place.specs.declared.entry.EntryKind.{EntryKind}
use Rattle.kte_place.specs.declared.entry.EntryKind.TheVariants.{Wrap, Unwrap, Insert, Remove}
use Rattle.kte_place.specs.declared.entry.Entry.{Entry}
use Rattle.kte_place.specs.Ends.{Ends}
use Rattle.kte_place.specs.Entry.{carry_by}
use Rattle.kte_place.specs.Span.{ends, settle, start_on, end_on}
use Rattle.kte_ranges.specs.Laws.{lines_touched, UntouchedStaysSettled}

-- a place after an entry, by its kind
abbrev after : EntryKind → Entry → Place → OnInsert → Place
after k e p on = if nat_lt p.line e.line then p else carry_by k e p on

abbrev StaysBy : EntryKind → Empty → Entry → Ends → OnInsert → OnInsert → Type 0
StaysBy k empty e s on off =
    (k ≡ Unwrap → 1 ≤ e.line) → settle s.start s.end empty ≡ Some s
    → IsFalse (list_any (λ n. n == (after k e s.start on).line) (lines_touched k e.line))
    → settle (after k e s.start on) (after k e s.end off) empty ≡ Some (ends (after k e s.start on) (after k e s.end off))

-- the same, where the start was before the entry's line, and where it was not
abbrev ByStart : EntryKind → Empty → Entry → Ends → OnInsert → OnInsert → Type 0
ByStart k empty e s on off = (s.start.line < e.line → StaysBy k empty e s on off) × (e.line ≤ s.start.line → StaysBy k empty e s on off)

by_start : (k : EntryKind) (empty : Empty) (e : Entry) (s : Ends) (on off : OnInsert) → ByStart k empty e s on off
    → StaysBy k empty e s on off
by_start k empty e s on off both = ⊎_elim both.0 both.1 (cases_lt s.start.line e.line)

stays_by : (k : EntryKind) (empty : Empty) (e : Entry) (s : Ends) (on off : OnInsert) → StaysBy k empty e s on off
stays_by Wrap Allow e s on off =
    by_start Wrap Allow e s on off
    (λ before join settled untouched. grind (arith, nat_tests), λ from join settled untouched. grind (arith, nat_tests))
stays_by Wrap Void e s on off =
    by_start Wrap Void e s on off
    (λ before join settled untouched. grind (arith, nat_tests), λ from join settled untouched. grind (arith, nat_tests))
stays_by Unwrap Allow e s on off = λ join settled untouched. let above = join refl in grind (arith, nat_tests)
stays_by Unwrap Void e s on off = λ join settled untouched. let above = join refl in grind (arith, nat_tests)
stays_by Insert Allow e s on off = λ join settled untouched. grind (arith, nat_tests)
stays_by Insert Void e s on off = λ join settled untouched. grind (arith, nat_tests)
stays_by Remove Allow e s on off = λ join settled untouched. grind (arith, nat_tests)
stays_by Remove Void e s on off = λ join settled untouched. grind (arith, nat_tests)

pub untouched_stays_settled : UntouchedStaysSettled
untouched_stays_settled e s expand empty join settled untouched =
    stays_by e.kind empty e s (start_on expand) (end_on expand) join settled untouched
