-- Settling one row after another, where no two hold a cursor in common.
use Rattle.std.proofs.Common.{◌≡◌, ℕ, ◌+◌, ◌<◌, Bool, true, false, ◌++◌, length, take, drop, map, get_or, set, Option, Some, None, IsTrue, refl, sym, ap, ◌∙◌, subst, arith, below_more}
use Rattle.std.proofs.lemmas.Bool.Decides.{nat_tests}
use Rattle.std.proofs.lemmas.Grind.{common_steps}
use Rattle.std.proofs.lemmas.List.{get_or_default}
use Rattle.std.proofs.lemmas.List.Edits.{map_over_more}
use Rattle.std.specs.List.{AllPairs}
use Rattle.std.specs.FinMap.{get}
use Rattle.kte_ranges.specs.declared.info.RangeInfo.{RangeInfo}
use Rattle.kte_ranges.specs.Cursors.{Hung, is_among, holds_cursor, ends_at, span_of, Hangs, HoldsTwo, StartIsReady}
use Rattle.kte_ranges.specs.Settling.{settled, settled_span, settled_info, cursors_kept, CursorsFollow}
use Rattle.kte_ranges.specs.Starts.{Rows}
use Rattle.kte_ranges.specs.Rows.{ShareNone, settled_row}

-- the cursors of the range hang alike
abbrev pub HangAlike : Hung → Hung → RangeInfo → Type 0
HangAlike old new info = (n : ℕ) → IsTrue (holds_cursor info n) → get new n ≡ get old n

-- after the first i rows have settled
pub record SettledUpTo (old new : Hung) (rows now : Rows) (i : ℕ) : Type 0 where
  pub rows_are : now ≡ map (settled_row old) (take i rows) ++ drop i rows
  pub cursors : (k : ℕ) (d : ℕ × RangeInfo) → k < i → CursorsFollow old new (get_or rows k d).1
  pub others : (n : ℕ) → ((k : ℕ) (d : ℕ × RangeInfo) → k < i → holds_cursor (get_or rows k d).1 n ≡ false)
      → get new n ≡ get old n

ends_alike : (old new : Hung) (o : Option (ℕ × ℕ)) → ((n : ℕ) → IsTrue (is_among o n) → get new n ≡ get old n)
    → ends_at new o ≡ ends_at old o
ends_alike old new None alike = refl
ends_alike old new (Some c) alike =
    let first : IsTrue (is_among (Some c) c.0) = grind (arith, nat_tests) in
    let second : IsTrue (is_among (Some c) c.1) = grind (arith, nat_tests) in
    rw (alike c.0 first, alike c.1 second)

-- what a range settles to depends on its own cursors alone
pub span_alike : (old new : Hung) (info : RangeInfo) → HangAlike old new info → span_of new info ≡ span_of old info
span_alike old new info alike = ends_alike old new info.cursors alike

pub settled_alike : (old new : Hung) (info : RangeInfo) → HangAlike old new info → settled_span new info ≡ settled_span old info
settled_alike old new info alike = ap (settled info.empty) (span_alike old new info alike)

pub info_alike : (old new : Hung) (info : RangeInfo) → HangAlike old new info → settled_info new info ≡ settled_info old info
info_alike old new info alike =
    ap (λ s. record info { cursors = cursors_kept s info.cursors }) (settled_alike old new info alike)

pub first_is_held : (info : RangeInfo) (c : ℕ × ℕ) → info.cursors ≡ Some c → IsTrue (holds_cursor info c.0)
first_is_held info c is = rw is (grind (arith, nat_tests))

pub second_is_held : (info : RangeInfo) (c : ℕ × ℕ) → info.cursors ≡ Some c → IsTrue (holds_cursor info c.1)
second_is_held info c is = rw is (grind (arith, nat_tests))

-- the cursors hung alike before they followed
pub follow_from : (old mid new : Hung) (info : RangeInfo) → HangAlike old mid info → CursorsFollow mid new info → CursorsFollow old new info
follow_from old mid new info alike follow = record {
  start = λ c is. rw (← settled_alike old mid info alike, ← alike c.0 (first_is_held info c is)) (follow.start c is);
  end = λ c is. rw (← settled_alike old mid info alike, ← alike c.1 (second_is_held info c is)) (follow.end c is);
}

-- the cursors hang alike after they followed
pub follow_to : (old mid new : Hung) (info : RangeInfo) → CursorsFollow old mid info → HangAlike mid new info → CursorsFollow old new info
follow_to old mid new info follow alike = record {
  start = λ c is. alike c.0 (first_is_held info c is) ∙ follow.start c is;
  end = λ c is. alike c.1 (second_is_held info c is) ∙ follow.end c is;
}

pub held_apart : (a b : Bool) → (IsTrue a → b ≡ false) → IsTrue b → a ≡ false
held_apart true b apart held = absurd (grind (arith, apart refl))
held_apart false b apart held = refl

pub none_settled : (old : Hung) (rows : Rows) → SettledUpTo old old rows rows 0
none_settled old rows = record {
  rows_are = refl;
  cursors = λ k d lt. absurd (omega arith);
  others = λ n free. refl;
}

module _ (old new : Hung) (rows now : Rows) (i : ℕ) (so_far : SettledUpTo old new rows now i) (apart : AllPairs ShareNone rows) (in_range : i < length rows) where
  pub row_is : (d : ℕ × RangeInfo) → get_or now i d ≡ get_or rows i d
  row_is d = grind (arith, common_steps, so_far.rows_are)

  -- the next row's cursors hang as at first
  pub next_alike : (d : ℕ × RangeInfo) → HangAlike old new (get_or rows i d).1
  next_alike d n held = so_far.others n (λ k e lt.
      let at_e : IsTrue (holds_cursor (get_or rows i e).1 n) = subst (λ row. IsTrue (holds_cursor row.1 n)) (get_or_default rows i d e in_range) held in
      held_apart _ _ (apart k i e lt in_range n) at_e)

  -- the rows before it do not hold its cursors
  earlier_free : (k : ℕ) (d e : ℕ × RangeInfo) (n : ℕ) → k < i → IsTrue (holds_cursor (get_or rows k e).1 n)
      → holds_cursor (get_or rows i d).1 n ≡ false
  earlier_free k d e n lt held = subst (λ row. holds_cursor row.1 n ≡ false) (get_or_default rows i e d in_range) (apart k i e lt in_range n held)

  one_more : (newer : Hung) (d : ℕ × RangeInfo) → CursorsFollow new newer (get_or rows i d).1
      → ((n : ℕ) → holds_cursor (get_or rows i d).1 n ≡ false → get newer n ≡ get new n)
      → SettledUpTo old newer rows (set now i (settled_row old (get_or rows i d))) (i + 1)
  one_more newer d follow rest = record {
    rows_are = map_over_more (settled_row old) rows now i (get_or rows i d) in_range so_far.rows_are
        (get_or_default rows i d (get_or rows i d) in_range ∙ sym (row_is (get_or rows i d)));
    cursors = λ k e lt. below_more
        (λ k. (e : ℕ × RangeInfo) → CursorsFollow old newer (get_or rows k e).1) i
        (λ k before e. follow_to old new newer _ (so_far.cursors k e before) (λ n held. rest n (earlier_free k d e n before held)))
        (λ e. subst (λ row. CursorsFollow old newer row.1) (get_or_default rows i d e in_range) (follow_from old new newer _ (next_alike d) follow))
        k lt e;
    others = λ n free. rest n (free i d (omega arith)) ∙ so_far.others n (λ k e lt. free k e (omega arith));
  }

  module _ (d : ℕ × RangeInfo) where
    pub still_hangs : Hangs old (get_or rows i d).1 → Hangs new (get_or now i d).1
    still_hangs hangs = rw (row_is d) (λ n held. rw (next_alike d n held) (hangs n held))

    pub still_two : HoldsTwo (get_or rows i d).1 → HoldsTwo (get_or now i d).1
    still_two two = subst (λ row. HoldsTwo row.1) (sym (row_is d)) two

    pub still_ready : (ready later : ℕ → Bool) → later ≡ ready → StartIsReady old ready (get_or rows i d).1
        → StartIsReady new later (get_or now i d).1
    still_ready ready later same is_ready =
        rw (row_is d, same) (λ s is before. is_ready s (sym (span_alike old new (get_or rows i d).1 (next_alike d)) ∙ is) before)

    pub after : (newer : Hung) (info : RangeInfo) → info ≡ settled_info new (get_or now i d).1
        → CursorsFollow new newer (get_or now i d).1
        → ((n : ℕ) → holds_cursor (get_or now i d).1 n ≡ false → get newer n ≡ get new n)
        → SettledUpTo old newer rows (set now i ((get_or now i d).0, info)) (i + 1)
    after newer info is follow rest =
        let row : ((get_or now i d).0, info) ≡ settled_row old (get_or rows i d) =
        ap (λ x. ((get_or now i d).0, x)) is ∙ ap (settled_row new) (row_is d) ∙ ap (λ x. ((get_or rows i d).0, x)) (info_alike old new _ (next_alike d)) in
        rw row (one_more newer d (subst (λ row. CursorsFollow new newer row.1) (row_is d) follow)
        (subst (λ row. (n : ℕ) → holds_cursor row.1 n ≡ false → get newer n ≡ get new n) (row_is d) rest))
