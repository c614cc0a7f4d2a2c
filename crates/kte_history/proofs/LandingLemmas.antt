-- A span over one entry after another: how far it moves, and which entries leave it.
use Rattle.std.proofs.Common.{◌≡◌, ℕ, ◌+◌, ◌*◌, ◌<◌, ◌≤◌, List, [], ◌∷◌, ⊎_elim, Option, None, Some, IfSome, IsTrue, length, drop, get_or, add-one, drop-cons, refl, sym, ap, ◌∙◌, arith}
use Rattle.std.proofs.lemmas.Bool.{cases_lt}
use Rattle.std.proofs.lemmas.Bool.Decides.{nat_tests}
use Rattle.kte_place.specs.declared.place.Place.{Place}
use Rattle.kte_place.specs.declared.place.OnInsert.{OnInsert}
use Rattle.kte_place.specs.declared.place.TheConstants.{MAX_REACH}
use Rattle.kte_place.specs.declared.span.Expand.{Expand}
use Rattle.kte_place.specs.declared.span.Empty.{Empty}
use Rattle.kte_place.specs.declared.span.Empty.TheVariants.{Allow, Void}
use Rattle.kte_place.specs.declared.entry.Entry.{Entry}
use Rattle.kte_place.specs.declared.entry.EntryKind.{EntryKind}
use Rattle.kte_place.specs.declared.entry.EntryKind.TheVariants.{Wrap, Unwrap, Insert, Remove}
use Rattle.kte_place.specs.declared.entry.TheConstants.{MAX_LENGTH}
use Rattle.kte_place.specs.Ends.{Ends}
use Rattle.kte_place.specs.Place.{is_at_or_before}
use Rattle.kte_place.specs.Entry.{carry, carry_by, lines_after, EntryFits}
use Rattle.kte_place.specs.Span.{carry_span, settle, start_on, end_on}
use Rattle.kte_place.specs.Laws.{IsWithin}
use Rattle.kte_place.proofs.CarryLemmas.{stays_in_text, stays_past_text}
use Rattle.kte_history.specs.Landing.{carry_all, is_clear_by}
use Rattle.kte_history.specs.Laws.{ClearEntryKeeps, lines_after_all, LandsInText, LandsPastText}

-- an invalid range stays invalid
pub carry_all-None : (entries : List Entry) (expand : Expand) (empty : Empty) → carry_all entries None expand empty ≡ None
carry_all-None [] expand empty = refl
carry_all-None (entry ∷ entries) expand empty = carry_all-None entries expand empty

-- ---- how far an entry moves a place

moved_by : (k : EntryKind) (e : Entry) (p : Place) (on : OnInsert) → EntryFits e
    → ((carry_by k e p on).line ≤ p.line + 1) × ((carry_by k e p on).column ≤ p.column + MAX_LENGTH)
moved_by Wrap e p on fits = (grind (arith, nat_tests), grind (arith, nat_tests))
moved_by Unwrap e p on fits = let old = fits.old in (grind (arith, nat_tests), grind (arith, nat_tests))
moved_by Insert e p on fits = let length = fits.length in (grind (arith, nat_tests), grind (arith, nat_tests))
moved_by Remove e p on fits = (grind (arith, nat_tests), grind (arith, nat_tests))

pub moved : (e : Entry) (p : Place) (on : OnInsert) → EntryFits e
    → ((carry e p on).line ≤ p.line + 1) × ((carry e p on).column ≤ p.column + MAX_LENGTH)
moved e p on fits =
    let by = moved_by e.kind e p on fits in
    let line = by.0 in let column = by.1 in (grind (arith, nat_tests), grind (arith, nat_tests))

-- ---- settling

-- what is so of both ends is so of both ends after they were settled
pub settle_keeps : (P : Place → Type 0) (start end : Place) (empty : Empty) → P start → P end
    → IfSome (settle start end empty) (λ span. P span.start × P span.end)
settle_keeps P start end Void at_start at_end = grind (arith, nat_tests)
settle_keeps P start end Allow at_start at_end = grind (arith, nat_tests)

pub settled_again : (start end : Place) (empty : Empty) → IfSome (settle start end empty) (λ span. settle span.start span.end empty ≡ Some span)
settled_again start end Void = grind (arith, nat_tests)
settled_again start end Allow = grind (arith, nat_tests)

-- ends on lines that are in order stay on them
settled_lines : (start end : Place) (empty : Empty) → start.line ≤ end.line
    → IfSome (settle start end empty) (λ span. (span.end.line ≡ end.line) × IsTrue (is_at_or_before span.start span.end))
settled_lines start end Void in_order = grind (arith, nat_tests)
settled_lines start end Allow in_order = grind (arith, nat_tests)

-- ---- entries that leave a span

stays_by : (k : EntryKind) (e : Entry) (span : Ends) (on off : OnInsert) → e.kind ≡ k → span.start.line ≤ span.end.line
    → IsTrue (is_clear_by k e.line span) → (carry e span.start on ≡ span.start) × (carry e span.end off ≡ span.end)
stays_by Wrap e span on off kind in_order clear = (grind (arith, nat_tests), grind (arith, nat_tests))
stays_by Unwrap e span on off kind in_order clear = (grind (arith, nat_tests), grind (arith, nat_tests))
stays_by Insert e span on off kind in_order clear = (grind (arith, nat_tests), grind (arith, nat_tests))
stays_by Remove e span on off kind in_order clear = (grind (arith, nat_tests), grind (arith, nat_tests))

settled_in_order : (span : Ends) (empty : Empty) → settle span.start span.end empty ≡ Some span → span.start.line ≤ span.end.line
settled_in_order span Void settled = grind (arith, nat_tests)
settled_in_order span Allow settled = grind (arith, nat_tests)

pub clear_entry_keeps : ClearEntryKeeps
clear_entry_keeps e span expand empty settled clear =
    let stay = stays_by e.kind e span (start_on expand) (end_on expand) refl (settled_in_order span empty settled) clear in
    rw (stay.0, stay.1) settled

-- ---- lines

-- over one entry
in_text : (lines : ℕ) (e : Entry) (span : Ends) (expand : Expand) (empty : Empty) → IsWithin lines e
    → span.start.line < lines → span.end.line < lines
    → IfSome (carry_span e (Some span) expand empty) (λ after. (after.start.line < lines_after e.kind lines) × (after.end.line < lines_after e.kind lines))
in_text lines e span expand empty within start end =
    settle_keeps (λ place. place.line < lines_after e.kind lines) _ _ empty
    (stays_in_text lines e span.start (start_on expand) within start)
    (stays_in_text lines e span.end (end_on expand) within end)

past_text : (lines : ℕ) (e : Entry) (span : Ends) (expand : Expand) (empty : Empty) → IsWithin lines e
    → IsTrue (is_at_or_before span.start span.end) → lines ≤ span.end.line
    → IfSome (carry_span e (Some span) expand empty) (λ after.
    (after.end.line + lines ≡ span.end.line + lines_after e.kind lines) × IsTrue (is_at_or_before after.start after.end))
past_text lines e span expand empty within ordered past =
    let end = stays_past_text lines e span.end (end_on expand) within past in
    let lines_in_order : span.start.line ≤ span.end.line = grind (arith, nat_tests) in
    let in_order : (carry e span.start (start_on expand)).line ≤ (carry e span.end (end_on expand)).line =
    ⊎_elim
    (λ inside. omega (arith, end, stays_in_text lines e span.start (start_on expand) within inside))
    (λ beyond. omega (arith, end, stays_past_text lines e span.start (start_on expand) within beyond))
    (cases_lt span.start.line lines) in
    by_end _ _ _ (settled_lines _ _ empty in_order) end where
      by_end : (at before : ℕ) (o : Option Ends) → IfSome o (λ after. (after.end.line ≡ at) × IsTrue (is_at_or_before after.start after.end))
          → at + lines ≡ before
          → IfSome o (λ after. (after.end.line + lines ≡ before) × IsTrue (is_at_or_before after.start after.end))
      by_end at before None is end = tt
      by_end at before (Some after) is end = (omega (arith, is.0, end), is.1)

-- over all of them
abbrev IsIn : ℕ → Ends → Type 0
IsIn lines span = (span.start.line < lines) × (span.end.line < lines)

pub lands_in_text : LandsInText
lands_in_text lines [] span expand empty within start end = (start, end)
lands_in_text lines (e ∷ entries) span expand empty within start end =
    over_rest (λ after is. lands_in_text (lines_after e.kind lines) entries after expand empty within.1 is.0 is.1) _
    (in_text lines e span expand empty within.0 start end) where
      over_rest : ((after : Ends) → IsIn (lines_after e.kind lines) after
          → IfSome (carry_all entries (Some after) expand empty) (IsIn (lines_after_all entries (lines_after e.kind lines))))
          → (o : Option Ends) → IfSome o (IsIn (lines_after e.kind lines))
          → IfSome (carry_all entries o expand empty) (IsIn (lines_after_all entries (lines_after e.kind lines)))
      over_rest rest None is = rw (carry_all-None entries expand empty) tt
      over_rest rest (Some after) is = rest after is

-- a span that ends this far past the text
abbrev EndsPast : ℕ → ℕ → ℕ → Ends → Type 0
EndsPast lines line lines_then span = span.end.line + lines ≡ line + lines_then

ends_past : (o : Option Ends) (lines next last end line : ℕ) → line + lines ≡ end + next → IfSome o (EndsPast next line last)
    → IfSome o (EndsPast lines end last)
ends_past None lines next last end line ends is = tt
ends_past (Some landed) lines next last end line ends is = omega (arith, ends, is)

pub lands_past_text : LandsPastText
lands_past_text lines [] span expand empty within ordered past = refl
lands_past_text lines (e ∷ entries) span expand empty within ordered past =
    over_rest (lines_after e.kind lines) (lines_after_all entries (lines_after e.kind lines))
    (λ after ends ordered. lands_past_text (lines_after e.kind lines) entries after expand empty within.1 ordered (omega (arith, ends))) _
    (past_text lines e span expand empty within.0 ordered past) where
      over_rest : (next last : ℕ) → ((after : Ends) → after.end.line + lines ≡ span.end.line + next → IsTrue (is_at_or_before after.start after.end)
          → IfSome (carry_all entries (Some after) expand empty) (EndsPast next after.end.line last))
          → (o : Option Ends)
          → IfSome o (λ after. (after.end.line + lines ≡ span.end.line + next) × IsTrue (is_at_or_before after.start after.end))
          → IfSome (carry_all entries o expand empty) (EndsPast lines span.end.line last)
      over_rest next last rest None is = rw (carry_all-None entries expand empty) tt
      over_rest next last rest (Some after) is = ends_past _ lines next last span.end.line after.end.line is.0 (rest after is.0 is.1)

-- ---- a span that was carried over the first entries

-- so many entries moved the place from one that may be named
pub record IsNear (count : ℕ) (p : Place) : Type 0 where
  pub line : p.line ≤ MAX_REACH + count
  pub column : p.column ≤ MAX_REACH + count * MAX_LENGTH

-- the span is settled, so many entries moved it, and the rest of them carry it to where all carry
-- the first one
pub record IsCarried (entries : List Entry) (first : Ends) (expand : Expand) (empty : Empty) (count : ℕ) (span : Ends) : Type 0 where
  pub settled : settle span.start span.end empty ≡ Some span
  pub start : IsNear count span.start
  pub end : IsNear count span.end
  pub same : carry_all (drop count entries) (Some span) expand empty ≡ carry_all entries (Some first) expand empty

pub IsNear-carried : (count : ℕ) (e : Entry) (p : Place) (on : OnInsert) → EntryFits e → IsNear count p → IsNear (count + 1) (carry e p on)
IsNear-carried count e p on fits near =
    let by = moved e p on fits in
    let line = near.line in let column = near.column in
    record { line = omega (arith, by.0); column = omega (arith, by.1) }

-- over the next entry
pub carry_all-drop : (entries : List Entry) (i : ℕ) (d : Entry) (span : Ends) (expand : Expand) (empty : Empty) → i < length entries
    → carry_all (drop i entries) (Some span) expand empty
    ≡ carry_all (drop (i + 1) entries) (carry_span (get_or entries i d) (Some span) expand empty) expand empty
carry_all-drop entries i d span expand empty within =
    ap (λ rest. carry_all rest (Some span) expand empty) (drop-cons entries i d within)
    ∙ ap (λ n. carry_all (drop n entries) (carry_span (get_or entries i d) (Some span) expand empty) expand empty) (sym (add-one i))

pub carried_next : (entries : List Entry) (first span after : Ends) (expand : Expand) (empty : Empty) (i : ℕ) (d : Entry)
    → IsCarried entries first expand empty i span → i < length entries → EntryFits (get_or entries i d)
    → carry_span (get_or entries i d) (Some span) expand empty ≡ Some after → IsCarried entries first expand empty (i + 1) after
carried_next entries first span after expand empty i d is within fits carried =
    let e : Entry = get_or entries i d in
    let near = rw carried at (settle_keeps (IsNear (i + 1)) _ _ empty
    (IsNear-carried i e span.start (start_on expand) fits is.start) (IsNear-carried i e span.end (end_on expand) fits is.end)) in
    record {
      settled = rw carried at (settled_again (carry e span.start (start_on expand)) (carry e span.end (end_on expand)) empty);
      start = near.0;
      end = near.1;
      same = ap (λ o. carry_all (drop (i + 1) entries) o expand empty) (sym carried)
          ∙ sym (carry_all-drop entries i d span expand empty within) ∙ is.same;
    }

pub carried_lost : (entries : List Entry) (first span : Ends) (expand : Expand) (empty : Empty) (i : ℕ) (d : Entry)
    → IsCarried entries first expand empty i span → i < length entries
    → carry_span (get_or entries i d) (Some span) expand empty ≡ None → carry_all entries (Some first) expand empty ≡ None
carried_lost entries first span expand empty i d is within lost =
    sym is.same ∙ carry_all-drop entries i d span expand empty within
    ∙ ap (λ o. carry_all (drop (i + 1) entries) o expand empty) lost ∙ carry_all-None (drop (i + 1) entries) expand empty
