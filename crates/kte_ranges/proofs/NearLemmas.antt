-- Settling the rows whose ranges start with some cursors, one after another, where no two rows hold
-- a cursor in common.
use Rattle.std.proofs.Common.{◌≡◌, ◌≢◌, ℕ, ◌+◌, ◌<◌, Bool, true, false, List, length, map, get_or, set, slice_index, length-set, Option, Some, None, IsTrue, IsSome, All, AllPairs, refl, sym, ap, ◌∙◌, subst, ◌⊎◌, ⊎_elim, inl, inr, arith}
use Rattle.std.proofs.lemmas.Bool.{false≢true, cases_lt, cases_eq}
use Rattle.std.proofs.lemmas.Bool.Decides.{nat_tests}
use Rattle.std.proofs.lemmas.List.{get_or_default, same_lists, get_or-map, length-map, get_or-set_same, get_or-set_other}
use Rattle.std.specs.FinMap.{get}
use Rattle.kte_place.specs.Ends.{Ends}
use Rattle.kte_place.specs.Place.{is_before}
use Rattle.kte_place.specs.Span.{ends}
use Rattle.kte_place.specs.declared.place.Place.{Place}
use Rattle.kte_place.specs.declared.span.Empty.{Empty}
use Rattle.kte_place.specs.declared.span.Empty.TheVariants.{Allow, Void}
use Rattle.kte_place.specs.Cursors.{Hanging, place_of, cursor_at}
use Rattle.kte_ranges.specs.declared.info.RangeInfo.{RangeInfo}
use Rattle.kte_ranges.specs.Cursors.{Hung, span_of, ends_at, holds_cursor, Hangs, HoldsTwo, StartIsReady}
use Rattle.kte_ranges.specs.Settling.{settled, settled_span, settled_info, cursors_kept, sent_to, CursorsFollow}
use Rattle.kte_ranges.specs.Rows.{ShareNone, settled_row}
use Rattle.kte_ranges.specs.Starts.{Rows, starts_with, IsNearOrSettled}
use Rattle.kte_ranges.proofs.Settled.{HangAlike, span_alike, info_alike, follow_from, follow_to, held_apart, first_is_held, second_is_held}
use Rattle.kte_ranges.proofs.Tables.{span_settled, hangs_settled, kept_among, kept_pair}
use Rattle.kte_ranges.proofs.Coming.{settles_once}
use Rattle.kte_ranges.proofs.OneRange.{span_is, same_pair}
use Rattle.kte_ranges.proofs.StartLemmas.{starts, starts_hold, starts_at}

-- the row has settled, and its cursors followed
pub record IsDone (old new : Hung) (row now : ℕ × RangeInfo) : Type 0 where
  pub is : now ≡ settled_row old row
  pub follow : CursorsFollow old new row.1

-- the row is as it was, and so are its cursors
pub record IsFresh (old new : Hung) (row now : ℕ × RangeInfo) : Type 0 where
  pub is : now ≡ row
  pub alike : HangAlike old new row.1

abbrev pub IsEither : Hung → Hung → ℕ × RangeInfo → ℕ × RangeInfo → Type 0
IsEither old new row now = IsDone old new row now ⊎ IsFresh old new row now

-- after the rows that start with the first so many cursors of the list have settled
pub record NearSettled (old new : Hung) (rows now : Rows) (near : List ℕ) (count : ℕ) : Type 0 where
  pub len : length now ≡ length rows
  pub each : (j : ℕ) (d : ℕ × RangeInfo) → j < length rows → IsEither old new (get_or rows j d) (get_or now j d)
  pub seen : (j m : ℕ) (d : ℕ × RangeInfo) → j < length rows → m < count → starts_with (get_or rows j d).1 (slice_index near m) ≡ true
      → IsDone old new (get_or rows j d) (get_or now j d)
  pub others : (n : ℕ) → All (λ row. holds_cursor row.1 n ≡ false) rows → get new n ≡ get old n

pub none_seen : (old : Hung) (rows : Rows) (near : List ℕ) → NearSettled old old rows rows near 0
none_seen old rows near = record {
  len = refl;
  each = λ j d lt. inr (record { is = refl; alike = λ n held. refl });
  seen = λ j m d lt before. absurd (omega (arith, before));
  others = λ n free. refl;
}

-- ---- one row

-- a settled range settles to itself
again_span : (old new : Hung) (info : RangeInfo) → Hangs old info → CursorsFollow old new info
    → settled_span new (settled_info old info) ≡ settled_span old info
again_span old new info hangs follow =
    ap (settled info.empty) (span_settled old new info hangs follow) ∙ settles_once info.empty (span_of old info)

again_info : (old new : Hung) (info : RangeInfo) → Hangs old info → CursorsFollow old new info
    → settled_info new (settled_info old info) ≡ settled_info old info
again_info old new info hangs follow =
    ap (λ s. record (settled_info old info) { cursors = cursors_kept s (settled_info old info).cursors }) (again_span old new info hangs follow)
    ∙ by_span (settled_span old info) where
      by_span : (s : Option Ends) → (let kept : RangeInfo = record info { cursors = cursors_kept s (cursors_kept s info.cursors) } in kept)
          ≡ (let kept : RangeInfo = record info { cursors = cursors_kept s info.cursors } in kept)
      by_span None = refl
      by_span (Some s) = refl

sent_twice : (o : Option Place) (h k g : Option Hanging) → k ≡ sent_to o h → g ≡ sent_to o k → g ≡ sent_to o h
sent_twice None h k g first second = second
sent_twice (Some p) None k g first second = second ∙ ap (cursor_at p) first
sent_twice (Some p) (Some h) k g first second = second ∙ ap (cursor_at p) first

-- .. so its cursors stay where they followed to
again_follow : (old new newer : Hung) (info : RangeInfo) (c : ℕ × ℕ) → (settled_info old info).cursors ≡ Some c → Hangs old info
    → CursorsFollow old new info → CursorsFollow new newer (settled_info old info) → CursorsFollow old newer info
again_follow old new newer info c kept hangs follow again = record {
  start = λ e is. let same = again_span old new info hangs follow in
      sent_twice _ _ _ _ (follow.start e is) (rw same at (again.start e (pair e is)));
  end = λ e is. let same = again_span old new info hangs follow in
      sent_twice _ _ _ _ (follow.end e is) (rw same at (again.end e (pair e is)));
} where
  -- the range kept its cursors
  pair : (e : ℕ × ℕ) → info.cursors ≡ Some e → (settled_info old info).cursors ≡ Some e
  pair e is = kept ∙ sym (kept_pair (settled_span old info) info.cursors c kept) ∙ is

-- a range that is settled where it stands is done as it is
at_own : (h : Option Hanging) (a : Place) → place_of h ≡ Some a → h ≡ cursor_at a h
at_own None a at_a = refl
at_own (Some h) a at_a = grind arith

place_there : (h : Option Hanging) → IsSome h → (a : Place) × (place_of h ≡ Some a)
place_there None hangs = absurd (grind arith)
place_there (Some h) hangs = (h.place, refl)

settled_done : (old new : Hung) (row : ℕ × RangeInfo) (c : ℕ × ℕ) → row.1.cursors ≡ Some c → Hangs old row.1
    → settled_span old row.1 ≡ span_of old row.1 → HangAlike old new row.1 → IsDone old new row row
settled_done old new row c is hangs settles alike =
    let start = place_there (get old c.0) (hangs c.0 (first_is_held row.1 c is)) in
    let end = place_there (get old c.1) (hangs c.1 (second_is_held row.1 c is)) in
    let at : settled_span old row.1 ≡ Some (ends start.0 end.0) = settles ∙ span_is old row.1 c start.0 end.0 is start.1 end.1 in
    record {
      is = ap (λ s. (row.0, record row.1 { cursors = cursors_kept s row.1.cursors })) (sym at);
      follow = record {
        start = λ e own. let same = same_pair row.1 c e is own in
            rw (at, ← same) (alike c.0 (first_is_held row.1 c is) ∙ at_own (get old c.0) start.0 start.1);
        end = λ e own. let same = same_pair row.1 c e is own in
            rw (at, ← same) (alike c.1 (second_is_held row.1 c is) ∙ at_own (get old c.1) end.0 end.1);
      };
    }

invalid_done : (old new : Hung) (row : ℕ × RangeInfo) → row.1.cursors ≡ None → IsDone old new row row
invalid_done old new row none = record {
  is = ap (λ o. (row.0, record row.1 { cursors = o })) (by_cursors row.1.cursors none);
  follow = record { start = λ c is. absurd (some_none (sym is ∙ none)); end = λ c is. absurd (some_none (sym is ∙ none)) };
} where
  some_none : {A : Type 0} {a : A} → Some a ≡ None → ⊥
  some_none e = cc

  by_cursors : (o : Option (ℕ × ℕ)) → o ≡ None → o ≡ cursors_kept (settled row.1.empty (ends_at old o)) o
  by_cursors None e = refl
  by_cursors (Some c) e = absurd (some_none e)

-- the ends of a settled range are in order
in_order : (empty : Empty) (o : Option Ends) (s : Ends) → settled empty o ≡ Some s → IsTrue (is_before s.end s.start) → ⊥
in_order empty None s is before = cc
in_order Allow (Some t) s is before = grind (arith, nat_tests)
in_order Void (Some t) s is before = grind (arith, nat_tests)

free_by : (b : Bool) → (b ≡ true → ⊥) → b ≡ false
free_by true never = absurd (never refl)
free_by false never = refl

-- ---- the next row

module _ (old new : Hung) (rows now : Rows) (near : List ℕ) (count : ℕ) (so_far : NearSettled old new rows now near count)
    (apart : AllPairs ShareNone rows) (hang : All (λ row. Hangs old row.1) rows) (i : ℕ) (d : ℕ × RangeInfo) (in_range : i < length rows) where
  -- what it holds it held
  held_now : (n : ℕ) → IsTrue (holds_cursor (get_or now i d).1 n) → IsTrue (holds_cursor (get_or rows i d).1 n)
  held_now n held = ⊎_elim
      (λ done. kept_among (settled_span old (get_or rows i d).1) (get_or rows i d).1.cursors n (subst (λ row. IsTrue (holds_cursor row.1 n)) done.is held))
      (λ fresh. subst (λ row. IsTrue (holds_cursor row.1 n)) fresh.is held)
      (so_far.each i d in_range)

  pub near_hangs : Hangs new (get_or now i d).1
  near_hangs = ⊎_elim
      (λ done. subst (λ row. Hangs new row.1) (sym done.is) (hangs_settled old new (get_or rows i d).1 (hang i d in_range) done.follow))
      (λ fresh. subst (λ row. Hangs new row.1) (sym fresh.is) (λ n held. rw (fresh.alike n held) (hang i d in_range n held)))
      (so_far.each i d in_range)

  pub near_two : HoldsTwo (get_or rows i d).1 → HoldsTwo (get_or now i d).1
  near_two two = ⊎_elim
      (λ done. subst (λ row. HoldsTwo row.1) (sym done.is) (λ c is. two c (kept_pair (settled_span old (get_or rows i d).1) (get_or rows i d).1.cursors c is)))
      (λ fresh. subst (λ row. HoldsTwo row.1) (sym fresh.is) two)
      (so_far.each i d in_range)

  pub near_ready : (ready later : ℕ → Bool) → later ≡ ready → StartIsReady old ready (get_or rows i d).1 → StartIsReady new later (get_or now i d).1
  near_ready ready later same is_ready = rw same (⊎_elim
      (λ done. subst (λ row. StartIsReady new ready row.1) (sym done.is) (λ s is before.
      absurd (in_order (get_or rows i d).1.empty (span_of old (get_or rows i d).1) s
      (sym (span_settled old new (get_or rows i d).1 (hang i d in_range) done.follow) ∙ is) before)))
      (λ fresh. subst (λ row. StartIsReady new ready row.1) (sym fresh.is) (λ s is before.
      is_ready s (sym (span_alike old new (get_or rows i d).1 fresh.alike) ∙ is) before))
      (so_far.each i d in_range))

  module _ (newer : Hung) (start : ℕ) (starts_it : starts_with (get_or now i d).1 start ≡ true)
      (follow : CursorsFollow new newer (get_or now i d).1)
      (rest : (n : ℕ) → holds_cursor (get_or now i d).1 n ≡ false → get newer n ≡ get new n) where
    here : IsDone old newer (get_or rows i d) ((get_or now i d).0, settled_info new (get_or now i d).1)
    here = ⊎_elim
        (λ done.
        let at = starts (get_or now i d).1 start starts_it in
        record {
          is = ap (λ row. (row.0, settled_info new row.1)) done.is
              ∙ ap (λ x. ((get_or rows i d).0, x)) (again_info old new (get_or rows i d).1 (hang i d in_range) done.follow);
          follow = again_follow old new newer (get_or rows i d).1 at.0 (ap (λ row. row.1.cursors) (sym done.is) ∙ at.1) (hang i d in_range) done.follow
              (subst (λ row. CursorsFollow new newer row.1) done.is follow);
        })
        (λ fresh. record {
          is = ap (λ row. (row.0, settled_info new row.1)) fresh.is ∙ ap (λ x. ((get_or rows i d).0, x)) (info_alike old new (get_or rows i d).1 fresh.alike);
          follow = follow_from old new newer (get_or rows i d).1 fresh.alike (subst (λ row. CursorsFollow new newer row.1) fresh.is follow);
        })
        (so_far.each i d in_range)

    -- no other row holds its cursors
    apart_from : (j : ℕ) (e : ℕ × RangeInfo) (n : ℕ) → j < length rows → j ≢ i → IsTrue (holds_cursor (get_or rows j e).1 n)
        → holds_cursor (get_or rows i d).1 n ≡ false
    apart_from j e n inside differs held = ⊎_elim
        (λ before. subst (λ row. holds_cursor row.1 n ≡ false) (get_or_default rows i e d in_range) (apart j i e before in_range n held))
        (λ from. ⊎_elim
        (λ after. held_apart _ _ (λ own. apart i j d after inside n own) (subst (λ row. IsTrue (holds_cursor row.1 n)) (get_or_default rows j e d inside) held))
        (λ until. absurd (differs (omega (arith, from, until))))
        (cases_lt i j))
        (cases_lt j i)

    stays : (j : ℕ) (e : ℕ × RangeInfo) → j < length rows → j ≢ i → HangAlike new newer (get_or rows j e).1
    stays j e inside differs n held =
        rest n (free_by (holds_cursor (get_or now i d).1 n) (λ own. false≢true (sym (apart_from j e n inside differs held) ∙ held_now n own)))

    still_done : (j : ℕ) (e : ℕ × RangeInfo) → j < length rows → j ≢ i → IsDone old new (get_or rows j e) (get_or now j e)
        → IsDone old newer (get_or rows j e) (get_or now j e)
    still_done j e inside differs done = record {
      is = done.is;
      follow = follow_to old new newer (get_or rows j e).1 done.follow (stays j e inside differs);
    }

    pub next_settled : slice_index near count ≡ start
        → NearSettled old newer rows (set now i ((get_or now i d).0, settled_info new (get_or now i d).1)) near (count + 1)
    next_settled at = record {
      len = length-set now i _ ∙ so_far.len;
      each = λ j e inside. ⊎_elim
          (λ same. inl (at_it j e inside same))
          (λ differs. subst (IsEither old newer (get_or rows j e)) (sym (get_or-set_other now i j _ e differs)) (⊎_elim
          (λ done. inl (still_done j e inside differs done))
          (λ fresh. inr (record { is = fresh.is; alike = λ n held. stays j e inside differs n held ∙ fresh.alike n held }))
          (so_far.each j e inside)))
          (cases_eq j i);
      seen = λ j m e inside before starts_j. ⊎_elim
          (λ same. at_it j e inside same)
          (λ differs. subst (IsDone old newer (get_or rows j e)) (sym (get_or-set_other now i j _ e differs)) (still_done j e inside differs (⊎_elim
          (λ earlier. so_far.seen j m e inside earlier starts_j)
          (λ last. absurd (false≢true (sym (apart_from j e start inside differs
          (starts_hold (get_or rows j e).1 start (subst (λ n. starts_with (get_or rows j e).1 n ≡ true) (ap (slice_index near) (let it : m ≡ count = omega (arith, before, last) in it) ∙ at) starts_j)))
          ∙ held_now start (starts_hold (get_or now i d).1 start starts_it))))
          (cases_lt m count))))
          (cases_eq j i);
      others = λ n free. rest n (free_by (holds_cursor (get_or now i d).1 n) (λ own. false≢true (sym (free i d in_range) ∙ held_now n own))) ∙ so_far.others n free;
    } where
      at_it : (j : ℕ) (e : ℕ × RangeInfo) → j < length rows → j ≡ i
          → IsDone old newer (get_or rows j e) (get_or (set now i ((get_or now i d).0, settled_info new (get_or now i d).1)) j e)
      at_it j e inside same =
          let inside_now : i < length now = rw so_far.len in_range in
          rw (same, get_or-set_same now i _ e inside_now, get_or_default rows i e d in_range) here

-- ---- a cursor at which no range starts, and the end

-- it settles nothing
pub none_settled_near : (old new : Hung) (rows now : Rows) (near : List ℕ) (count start : ℕ) → NearSettled old new rows now near count
    → slice_index near count ≡ start → All (λ row. starts_with row.1 start ≡ false) now → NearSettled old new rows now near (count + 1)
none_settled_near old new rows now near count start so_far at none = record {
  len = so_far.len;
  each = so_far.each;
  seen = λ j m d inside before starts_j. ⊎_elim
      (λ earlier. so_far.seen j m d inside earlier starts_j)
      (λ last. ⊎_elim
      (λ done. done)
      (λ fresh. absurd (false≢true (sym (none j d (let there : j < length now = rw so_far.len inside in there))
      ∙ subst (λ row. starts_with row.1 start ≡ true) (sym fresh.is)
      (subst (λ n. starts_with (get_or rows j d).1 n ≡ true) (ap (slice_index near) (let it : m ≡ count = omega (arith, before, last) in it) ∙ at) starts_j))))
      (so_far.each j d inside))
      (cases_lt m count);
  others = so_far.others;
}

-- every row has settled where those not seen were settled
module _ (old new : Hung) (rows now : Rows) (near : List ℕ) (count : ℕ) (so_far : NearSettled old new rows now near count)
    (whole : count ≡ length near) (hang : All (λ row. Hangs old row.1) rows) (settles : All (λ row. IsNearOrSettled old near row.1) rows) where
  all_done : (j : ℕ) (d : ℕ × RangeInfo) → j < length rows → IsDone old new (get_or rows j d) (get_or now j d)
  all_done j d inside = ⊎_elim
      (λ done. done)
      (λ fresh. by_cursors fresh (get_or rows j d).1.cursors refl)
      (so_far.each j d inside) where
        by_cursors : IsFresh old new (get_or rows j d) (get_or now j d) → (o : Option (ℕ × ℕ)) → (get_or rows j d).1.cursors ≡ o
            → IsDone old new (get_or rows j d) (get_or now j d)
        by_cursors fresh None is = subst (IsDone old new (get_or rows j d)) (sym fresh.is) (invalid_done old new (get_or rows j d) is)
        by_cursors fresh (Some c) is = ⊎_elim
            (λ at. so_far.seen j at.0 d inside (omega (arith, at.1, whole))
            (starts_at (get_or rows j d).1 (slice_index near at.0) c is (sym at.2 ∙ get_or_default near at.0 c.0 0 at.1)))
            (λ same. subst (IsDone old new (get_or rows j d)) (sym fresh.is) (settled_done old new (get_or rows j d) c is (hang j d inside) same fresh.alike))
            (settles j d inside c is)

  pub all_rows : now ≡ map (settled_row old) rows
  all_rows = same_lists now (map (settled_row old) rows) (so_far.len ∙ sym (length-map _ _)) (λ k d inside.
      let there : k < length rows = rw (← so_far.len) inside in
      (all_done k d there).is ∙ sym (get_or-map (settled_row old) rows k d d there))

  pub all_follow : All (λ row. CursorsFollow old new row.1) rows
  all_follow = λ k d inside. (all_done k d inside).follow
