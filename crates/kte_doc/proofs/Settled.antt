-- All ranges are carried over an entry, and settle.
use Rattle.std.proofs.Common.{◌≡◌, ℕ, ◌+◌, ◌<◌, ◌≤◌, ◌^◌, ◌==◌, IfSome, Bool, true, false, List, length, Option, None, Some, IsSome, IsTrue, ◌⊎◌, inl, inr, refl, sym, ap, ◌∙◌, subst, arith}
use Rattle.std.specs.Option.{option_map}
use Rattle.std.specs.FinMap.{get}
use Rattle.std.specs.List.{Contains, list_any}
use Rattle.kte_text.specs.Primitives.{misfit, after}
use Rattle.kte_text.proofs.PrimitiveLemmas.{FitsText-from_misfit}
use Rattle.kte_text.specs.declared.primitive.Primitive.{Primitive}
use Rattle.kte_place.specs.declared.place.Place.{Place}
use Rattle.kte_place.specs.declared.place.OnInsert.{OnInsert}
use Rattle.kte_place.specs.declared.place.TheConstants.{MAX_COLUMN}
use Rattle.kte_place.specs.declared.entry.Entry.{Entry}
use Rattle.kte_place.specs.declared.entry.EntryKind.{EntryKind}
use Rattle.kte_place.specs.declared.entry.EntryKind.TheVariants.{Wrap, Unwrap, Insert, Remove}
use Rattle.kte_place.specs.Ends.{Ends}
use Rattle.kte_place.specs.Place.{is_before}
use Rattle.kte_place.specs.Span.{ends, settle, start_on, end_on, carry_span}
use Rattle.kte_place.specs.Entry.{carry}
use Rattle.kte_place.specs.Cursors.{Hanging, cursor_at}
use Rattle.kte_buffer.specs.Cursors.{hanging, carried}
use Rattle.kte_buffer.specs.Entries.{entry, lines_by, is_touched}
use Rattle.kte_buffer.specs.Buffer.{is_home, ColumnsFit}
use Rattle.kte_buffer.specs.declared.buffer.Ready.TheVariants.{ToRehome}
use Rattle.kte_buffer.proofs.CallerLemmas.{IsWithin-entry}
use Rattle.kte_ranges.specs.declared.info.RangeInfo.{RangeInfo}
use Rattle.kte_ranges.specs.Table.{Ranges, AllInfos}
use Rattle.kte_ranges.specs.Cursors.{Hung, span_of, ends_at, is_among, holds_cursor, IsFree, CursorsHang, CursorsApart, StartsAreReady}
use Rattle.kte_ranges.specs.Laws.{lines_touched}
use Rattle.kte_ranges.specs.Starts.{IsNearOrSettled}
use Rattle.kte_ranges.proofs.Untouched.{untouched_stays_settled}
use Rattle.kte_ranges.specs.Settling.{settled, settled_span, settled_info, cursors_kept, sent_to, CursorsFollow}
use Rattle.kte_doc.specs.Standings.{moved_over}
use Rattle.kte_doc.specs.Within.{IsWithin, farthest_at}
use Rattle.kte_doc.specs.Inside.{standing_of, standings_of, HangAt, CursorsFit}
use Rattle.kte_doc.proofs.Crossing.{crossed}
use Rattle.kte_doc.proofs.Growth.{IsWithin-carried}
use Rattle.kte_doc.proofs.Maps.{get-standings_of}
use Rattle.kte_doc.proofs.OneRange.{span_of-HangAt, span_of-invalid, ends_at-both, first_or_second, cursors_of_held, settle_ordered, settle_within}

-- every cursor is carried over the entry
abbrev pub AllCarried : Entry → Hung → Hung → Type 0
AllCarried e old new = (id : ℕ) → get new id ≡ option_map (carried e) (get old id)

-- where the ends of a span are carried to
abbrev start_after : Entry → RangeInfo → Ends → Place
start_after e info span = carry e span.start (start_on info.expand)

abbrev end_after : Entry → RangeInfo → Ends → Place
end_after e info span = carry e span.end (end_on info.expand)

-- a test has an answer
tested : (b : Bool) → (b ≡ true) ⊎ (b ≡ false)
tested true = inl refl
tested false = inr refl

-- what is there after a change of what was there
changed : {A : Type 0} (f : A → A) (o n : Option A) (y : A) → n ≡ option_map f o → n ≡ Some y → (x : A) × ((o ≡ Some x) × (y ≡ f x))
changed f None n y is some = absurd (cc)
changed f (Some x) n y is some = (x, (refl, cc))

-- the values of two that are equal
by_some : {A : Type 0} {x y : A} → Some x ≡ Some y → x ≡ y
by_some same = cc

-- a range that keeps its cursors settled to a span
kept_by : (o : Option Ends) (cursors : Option (ℕ × ℕ)) (c : ℕ × ℕ) → cursors_kept o cursors ≡ Some c → (span : Ends) × ((o ≡ Some span) × (cursors ≡ Some c))
kept_by None cursors c is = absurd (cc)
kept_by (Some span) cursors c is = (span, (refl, is))

-- the touched lines are those that the law of settled ranges speaks of
touched_alike : (k : EntryKind) (line n : ℕ)
    → list_any (λ m. m == n) (lines_by k line) ≡ list_any (λ m. m == n) (lines_touched k line)
touched_alike Wrap line n = refl
touched_alike Unwrap line n = refl
touched_alike Insert line n = refl
touched_alike Remove line n = refl

-- The entry moves places of a text of some lines to places of the text after it, and the cursors of the ranges were carried over it
pub record Carries (e : Entry) (lines lines' farthest farthest' : ℕ) (old now : Hung) (ranges : Ranges) : Type 0 where
  pub joined : e.kind ≡ Unwrap → 1 ≤ e.line
  pub moves : (place : Place) (on : OnInsert) → IsWithin lines farthest place → IsWithin lines' farthest' (carry e place on)
  pub bound : farthest' ≤ MAX_COLUMN
  pub fit : CursorsFit old ranges lines farthest
  pub all : AllCarried e old now

module _ (e : Entry) (lines lines' farthest farthest' : ℕ) (old now : Hung) (ranges : Ranges)
    (carries : Carries e lines lines' farthest farthest' old now ranges) where
  start_now : (info : RangeInfo) (c : ℕ × ℕ) (span : Ends) → HangAt old lines farthest info.expand info.empty c span
      → get now c.0 ≡ Some (hanging (start_after e info span) (start_on info.expand))
  start_now info c span at = carries.all c.0 ∙ ap (option_map (carried e)) at.start

  end_now : (info : RangeInfo) (c : ℕ × ℕ) (span : Ends) → HangAt old lines farthest info.expand info.empty c span
      → get now c.1 ≡ Some (hanging (end_after e info span) (end_on info.expand))
  end_now info c span at = carries.all c.1 ∙ ap (option_map (carried e)) at.end

  -- a range stands between the carried ends
  span_now : (info : RangeInfo) (c : ℕ × ℕ) (span : Ends) → info.cursors ≡ Some c → HangAt old lines farthest info.expand info.empty c span
      → span_of now info ≡ Some (ends (start_after e info span) (end_after e info span))
  span_now info c span is at =
      ap (ends_at now) is ∙ ends_at-both now c _ _ (start_now info c span at) (end_now info c span at)

  -- so it settles to the span carried over the entry
  settled_now : (info : RangeInfo) (c : ℕ × ℕ) (span : Ends) → info.cursors ≡ Some c → HangAt old lines farthest info.expand info.empty c span
      → settled_span now info ≡ settle (start_after e info span) (end_after e info span) info.empty
  settled_now info c span is at = ap (settled info.empty) (span_now info c span is at)

  -- the cursors of every range hang
  pub hang_now : CursorsHang now ranges
  hang_now id info there n held =
      let c = cursors_of_held info.cursors n held in
      let at = carries.fit.hang id info c.0 there c.1 in
      elim (first_or_second c.0 n (ap (λ o. is_among o n) (sym c.1) ∙ held)) [
        | inl first ↦ subst (λ o. IsSome o) (sym (ap (get now) first ∙ start_now info c.0 at.0 at.1)) refl
        | inr second ↦ subst (λ o. IsSome o) (sym (ap (get now) second ∙ end_now info c.0 at.0 at.1)) refl
      ]

  -- a cursor can be moved to each start that an end came before
  start_ready : (id : ℕ) (info : RangeInfo) (s : Ends) (o : Option (ℕ × ℕ)) → get ranges id ≡ Some info → info.cursors ≡ o
      → span_of now info ≡ Some s → IsTrue (is_before s.end s.start)
      → IsTrue (is_home (ToRehome e) s.start.line) × (s.start.column ≤ MAX_COLUMN)
  start_ready id info s None there is stands before = let none = span_of-invalid now info is in absurd (cc)
  start_ready id info s (Some c) there is stands before =
      let at = carries.fit.hang id info c there is in
      let same : ends (start_after e info at.0) (end_after e info at.0) ≡ s = by_some (sym (span_now info c at.0 is at.1) ∙ stands) in
      let Is : Ends → Type 0 = λ t. IsTrue (is_before t.end t.start) in
      let Ready : Ends → Type 0 = λ t. IsTrue (is_home (ToRehome e) t.start.line) × (t.start.column ≤ MAX_COLUMN) in
      let over = subst Is (sym same) before in
      let within = carries.moves at.0.start (start_on info.expand) at.1.stands.start_within in
      subst Ready same (
        crossed e at.0.start at.0.end (start_on info.expand) (end_on info.expand) carries.joined
            (settle_ordered at.0.start at.0.end info.empty at.0 at.1.stands.settled) over,
        omega (arith, within.column, carries.bound),
      )

  pub ready_now : StartsAreReady now (is_home (ToRehome e)) ranges
  ready_now id info there s stands before = start_ready id info s info.cursors there refl stands before

  -- each range starts with a listed cursor, or is settled where it stands
  pub others_now : (near : List ℕ)
      → ((id : ℕ) → IfSome (get now id) (λ cursor. IsTrue (is_home (ToRehome e) cursor.place.line) → Contains near id))
      → AllInfos (IsNearOrSettled now near) ranges
  others_now near lists id info there c is =
      let at = carries.fit.hang id info c there is in
      let Listed : Option Hanging → Type 0 = λ o.
      IfSome o (λ cursor. IsTrue (is_home (ToRehome e) cursor.place.line) → Contains near c.0) in
      let listed = subst Listed (start_now info c at.0 at.1) (lists c.0) in
      let start = start_after e info at.0 in
      elim (tested (is_touched e start.line)) [
        | inl on ↦ inl (listed on)
        | inr off ↦
            let apart = sym (touched_alike e.kind e.line start.line) ∙ off in
            inr (settled_now info c at.0 is at.1
            ∙ untouched_stays_settled e at.0 info.expand info.empty carries.joined at.1.stands.settled apart
            ∙ sym (span_now info c at.0 is at.1))
      ]

  module _ (later : Hung) (ranges' : Ranges)
      (settles : (id : ℕ) → get ranges' id ≡ option_map (settled_info now) (get ranges id))
      (spans : AllInfos (λ info. span_of later (settled_info now info) ≡ settled_span now info) ranges)
      (follow : AllInfos (CursorsFollow now later) ranges)
      (others : (n : ℕ) → IsFree ranges n → get later n ≡ get now n)
      (apart : CursorsApart ranges') where
    -- a range that settled to a span hangs there
    hang_later : (id : ℕ) (info : RangeInfo) (c : ℕ × ℕ) (span : Ends) → get ranges id ≡ Some info → info.cursors ≡ Some c
        → settled_span now info ≡ Some span → HangAt later lines' farthest' info.expand info.empty c span
    hang_later id info c span there is settled_to =
        let at = carries.fit.hang id info c there is in
        let settled_by = sym (settled_now info c at.0 is at.1) ∙ settled_to in
        record {
          start = (follow id info there).start c is
              ∙ ap (λ o. sent_to (option_map (λ s. s.start) o) (get now c.0)) settled_to
              ∙ ap (cursor_at span.start) (start_now info c at.0 at.1);
          end = (follow id info there).end c is
              ∙ ap (λ o. sent_to (option_map (λ s. s.end) o) (get now c.1)) settled_to
              ∙ ap (cursor_at span.end) (end_now info c at.0 at.1);
          stands = settle_within lines' farthest' _ _ info.empty span settled_by
              (carries.moves at.0.start (start_on info.expand) at.1.stands.start_within)
              (carries.moves at.0.end (end_on info.expand) at.1.stands.end_within);
        }

    -- the cursors of one that became invalid are gone
    gone_later : (id : ℕ) (info : RangeInfo) (n : ℕ) → get ranges id ≡ Some info → IsTrue (holds_cursor info n)
        → settled_span now info ≡ None → get later n ≡ None
    gone_later id info n there held invalid =
        let c = cursors_of_held info.cursors n held in
        elim (first_or_second c.0 n (ap (λ o. is_among o n) (sym c.1) ∙ held)) [
          | inl first ↦ ap (get later) first ∙ (follow id info there).start c.0 c.1
              ∙ ap (λ o. sent_to (option_map (λ s. s.start) o) (get now c.0.0)) invalid
          | inr second ↦ ap (get later) second ∙ (follow id info there).end c.0 c.1
              ∙ ap (λ o. sent_to (option_map (λ s. s.end) o) (get now c.0.1)) invalid
        ]

    -- no cursor hangs that did not hang
    none_new : (n : ℕ) → get old n ≡ None → get later n ≡ None
    none_new n none =
        let not_now : get now n ≡ None = carries.all n ∙ ap (option_map (carried e)) none in
        others n (λ id info there.
        elim (tested (holds_cursor info n)) [
          | inl held ↦ let some = hang_now id info there n held in absurd (grind arith)
          | inr free ↦ free
        ])
        ∙ not_now

    held_later : (n : ℕ) (o : Option Hanging) → get old n ≡ o → IsSome (get later n)
        → (id : ℕ) × ((info : RangeInfo) × ((get ranges' id ≡ Some info) × IsTrue (holds_cursor info n)))
    held_later n None is some = let none = none_new n is in absurd (grind arith)
    held_later n (Some h) is some =
        let it = carries.fit.held n (subst (λ o. IsSome o) (sym is) refl) in
        held_by it.0 it.1.0 it.1.1.0 it.1.1.1 (settled_span now it.1.0) refl where
          held_by : (id : ℕ) (info : RangeInfo) → get ranges id ≡ Some info → IsTrue (holds_cursor info n) → (o : Option Ends) → settled_span now info ≡ o
              → (id : ℕ) × ((info : RangeInfo) × ((get ranges' id ≡ Some info) × IsTrue (holds_cursor info n)))
          held_by id info there held None invalid = let none = gone_later id info n there held invalid in absurd (grind arith)
          held_by id info there held (Some span) settled_to = (
            id,
            (
              settled_info now info,
              (
                settles id ∙ ap (option_map (settled_info now)) there,
                ap (λ o. is_among (cursors_kept o info.cursors) n) settled_to ∙ held,
              ),
            ),
          )

    -- the cursors are those of the ranges again
    pub CursorsFit-settled : CursorsFit later ranges' lines' farthest'
    CursorsFit-settled = record {
      apart = apart;
      hang = λ id info c there is.
          let was = changed (settled_info now) (get ranges id) (get ranges' id) info (settles id) there in
          let kept = kept_by (settled_span now was.0) was.0.cursors c (ap (λ i. i.cursors) (sym was.1.1) ∙ is) in
          let At : RangeInfo → Type 0 = λ i. HangAt later lines' farthest' i.expand i.empty c kept.0 in
          (kept.0, subst At (sym was.1.1) (hang_later id was.0 c kept.0 was.1.0 kept.1.1 kept.1.0));
      held = λ n some. held_later n (get old n) refl some;
    }

    moved_span : (id : ℕ) (info : RangeInfo) (o : Option (ℕ × ℕ)) → get ranges id ≡ Some info → info.cursors ≡ o
        → settled_span now info ≡ carry_span e (span_of old info) info.expand info.empty
    moved_span id info None there is =
        ap (settled info.empty) (span_of-invalid now info is)
        ∙ ap (λ o. carry_span e o info.expand info.empty) (sym (span_of-invalid old info is))
    moved_span id info (Some c) there is =
        let at = carries.fit.hang id info c there is in
        settled_now info c at.0 is at.1
        ∙ ap (λ o. carry_span e o info.expand info.empty) (sym (span_of-HangAt old lines farthest info c at.0 is at.1))

    moved_standing : (id : ℕ) (o : Option RangeInfo) → get ranges id ≡ o
        → option_map (standing_of later) (option_map (settled_info now) o) ≡ option_map (moved_over e) (option_map (standing_of old) o)
    moved_standing id None there = refl
    moved_standing id (Some info) there =
        ap (λ span. Some (record { expand = info.expand; empty = info.empty; kind = info.kind; origin = info.origin; span = span }))
        (spans id info there ∙ moved_span id info info.cursors there refl)

    -- what contracts see: each range is moved over the entry
    pub ranges_moved : (id : ℕ) → get (standings_of later ranges') id ≡ option_map (moved_over e) (get (standings_of old ranges) id)
    ranges_moved id =
        get-standings_of later ranges' id
        ∙ ap (option_map (standing_of later)) (settles id)
        ∙ moved_standing id (get ranges id) refl
        ∙ ap (option_map (moved_over e)) (sym (get-standings_of old ranges id))

-- the cursors are carried over a primitive that fits, at a revision below the limit
pub Carries-primitive : (p : Primitive) (text read : List (List ℕ)) (revision limit : ℕ) (e : Entry) (old mid now : Hung) (ranges : Ranges)
    → misfit p text ≡ None → revision < limit → limit ≤ 2 ^ 31 → e ≡ entry p read → read ≡ text
    → CursorsFit old ranges (length text) (farthest_at revision) → mid ≡ old → AllCarried e mid now
    → Carries e (length text) (length (after p text)) (farthest_at revision) (farthest_at (revision + 1)) old now ranges
Carries-primitive p text read revision limit e old mid now ranges fits below small is same fit kept all =
    let of : entry p text ≡ e = ap (λ t. entry p t) (sym same) ∙ sym is in
    record {
      joined = subst (λ (e : Entry). e.kind ≡ Unwrap → 1 ≤ e.line) of (IsWithin-entry p text (FitsText-from_misfit p text fits)).joined;
      moves = λ place on within.
          subst (λ (e : Entry). IsWithin (length (after p text)) (farthest_at (revision + 1)) (carry e place on)) of
          (IsWithin-carried p text revision place on fits within);
      bound = omega arith;
      fit = fit;
      all = λ id. all id ∙ ap (λ (m : Hung). option_map (carried e) (get m id)) kept;
    }

-- no cursor stands farther than can be carried
pub columns_fit : (hung mid : Hung) (ranges : Ranges) (lines farthest : ℕ) → farthest ≤ MAX_COLUMN → mid ≡ hung → CursorsFit hung ranges lines farthest
    → ColumnsFit mid
columns_fit hung mid ranges lines farthest bound same fit id =
    subst (λ (m : Hung). IfSome (get m id) (λ cursor. cursor.place.column ≤ MAX_COLUMN)) (sym same) (by_cursor (get hung id) refl) where
      by_cursor : (o : Option Hanging) → get hung id ≡ o → IfSome o (λ cursor. cursor.place.column ≤ MAX_COLUMN)
      by_cursor None is = tt
      by_cursor (Some h) is =
          let it = fit.held id (subst (λ o. IsSome o) (sym is) refl) in
          let c = cursors_of_held it.1.0.cursors id it.1.1.1 in
          let at = fit.hang it.0 it.1.0 c.0 it.1.1.0 c.1 in
          let P : Hanging → Type 0 = λ h. h.place.column ≤ MAX_COLUMN in
          elim (first_or_second c.0 id (ap (λ o. is_among o id) (sym c.1) ∙ it.1.1.1)) [
            | inl first ↦ subst P (by_some (sym at.1.start ∙ ap (get hung) (sym first) ∙ is)) (omega (arith, at.1.stands.start_within.column))
            | inr second ↦ subst P (by_some (sym at.1.end ∙ ap (get hung) (sym second) ∙ is)) (omega (arith, at.1.stands.end_within.column))
          ]
