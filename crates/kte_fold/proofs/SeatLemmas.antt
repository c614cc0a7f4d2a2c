-- The walks that find where a span goes.
use Rattle.std.proofs.Common.{◌≡◌, ℕ, ◌+◌, ◌<◌, ◌≤◌, ◌⊎◌, false, List, length, slice_index, set, Option, None, Some, IsTrue, inl, inr, refl, sym, subst, arith}
use Rattle.std.proofs.Common.{length-set, get_or-set_other, get_or-set_same}
use Rattle.kte_place.specs.Ends.{Ends}
use Rattle.kte_place.specs.Place.{is_at_or_before, is_before}
use Rattle.kte_fold.specs.Folds.{Spans, is_crossed}
use Rattle.kte_fold.specs.Tree.{KeepsTree, LiesIn, Precedes, span_at}
use Rattle.kte_fold.specs.Inside.{IsOutline, KeepsTreeFrom, Descended, IsAbove, NoneCross, AreApart, LieInside, Follow}
use Rattle.kte_fold.proofs.PlaceLemmas.{lies_trans, lies_precedes, precedes_lies, by_later_end, by_later_start, le_trans, lt_trans_le}

either : (k at : ℕ) → (k < at) ⊎ (at ≤ k)
either k at = grind arith

same_or_above : (k at : ℕ) → at ≤ k → (k ≡ at) ⊎ (at < k)
same_or_above k at h = grind arith

module _ (spans : Spans) (numbers old : List ℕ) (outline : IsOutline numbers old) (kept : KeepsTree spans numbers old) (s : Ends) where
  -- before the first fold
  pub descended_none : Descended spans numbers old old s 0 (length numbers)
  descended_none = record {
    same_length = refl;
    ordered = omega arith;
    bounded = omega arith;
    passed = λ k h. absurd (omega arith);
    kept = λ k h. refl;
    level = λ k a h. outline.fits k h;
    beyond = λ k a h. absurd (omega arith);
  }

  -- past a fold that precedes the span, and all that is inside it
  pub descended_past : (new : List ℕ) (at end : ℕ) → Descended spans numbers old new s at end → at < end
      → Precedes (span_at spans numbers at) (Some s)
      → Descended spans numbers old new s (at + (1 + slice_index new at)) end
  descended_past new at end found l p =
      let same = found.kept at (omega arith) in
      let fit = found.level at (omega arith) l in
      record {
        same_length = found.same_length;
        ordered = omega arith;
        bounded = found.bounded;
        passed = λ k h. elim (either k at) [
          | inl b ↦ elim (found.passed k b) [
            | inl a ↦ inl a
            | inr q ↦ inr (record {
              kept = q.kept;
              ends = let e = q.ends in omega arith;
              precedes = q.precedes;
              kept_inside = q.kept_inside;
            })
          ]
          | inr a ↦ inr (record {
            kept = found.kept k a;
            ends = elim (same_or_above k at a) [
              | inl e ↦ let f = subst (λ (n : ℕ). slice_index old n ≡ slice_index old at) (sym e) refl in omega arith
              | inr b ↦ let n = outline.nests at k (omega (arith, found.bounded)) (b, omega arith) in omega arith
            ];
            precedes = elim (same_or_above k at a) [
              | inl e ↦ subst (λ (n : ℕ). Precedes (span_at spans numbers n) (Some s)) (sym e) p
              | inr b ↦
                  lies_precedes (span_at spans numbers k) (span_at spans numbers at) (Some s)
                  (kept.nested at k (omega (arith, found.bounded)) (b, omega arith)) p
            ];
            kept_inside = λ j u. found.kept j (let v = u.0 in omega arith);
          })
        ];
        kept = λ k h. found.kept k (omega arith);
        level = λ k a h. found.level k (omega arith) h;
        beyond = found.beyond;
      }

  -- into a fold that holds the span
  pub descended_into : (new : List ℕ) (at end : ℕ) → Descended spans numbers old new s at end → at < end
      → LiesIn (Some s) (span_at spans numbers at)
      → Descended spans numbers old (set new at (slice_index new at + 1)) s (at + 1) (at + (slice_index new at + 1))
  descended_into new at end found l q =
      let same = found.kept at (omega arith) in
      let fit = found.level at (omega arith) l in
      let count : length new ≡ length numbers = omega (arith, found.same_length, outline.same_length) in
      let there : at < length new = omega (arith, found.bounded) in
      record {
        same_length = omega (arith, length-set new at (slice_index new at + 1), found.same_length);
        ordered = omega arith;
        bounded = omega (arith, found.bounded);
        passed = λ k h. elim (same_or_above at k (omega arith)) [
          | inl e ↦ inl (at_here new at end there found k (sym e) q)
          | inr b ↦ elim (found.passed k b) [
            | inl a ↦ inl (record {
              counted = let other = set_other new at k (slice_index new at + 1) (omega arith) in let c = a.counted in omega arith;
              reaches = let r = a.reaches in omega arith;
              holds = a.holds;
            })
            | inr p ↦ inr (record {
              kept = let other = set_other new at k (slice_index new at + 1) (omega arith) in let c = p.kept in omega arith;
              ends = let r = p.ends in omega arith;
              precedes = p.precedes;
              kept_inside = λ j u.
                  let v = u.1 in
                  let r = p.ends in
                  let other = set_other new at j (slice_index new at + 1) (omega arith) in
                  let c = p.kept_inside j u in omega arith;
            })
          ]
        ];
        kept = λ k h.
            let other = set_other new at k (slice_index new at + 1) (omega arith) in
            let c = found.kept k (omega arith) in omega arith;
        level = λ k a h. let n = outline.nests at k (omega (arith, found.bounded)) (omega arith, omega arith) in omega arith;
        beyond = λ k a h.
            lies_precedes (Some s) (span_at spans numbers at) (span_at spans numbers k) q (kept.apart at k h (omega arith));
      } where
        set_other : (new : List ℕ) (at k x : ℕ) → ¬ (k ≡ at) → slice_index (set new at x) k ≡ slice_index new k
        set_other new at k x h = get_or-set_other new at k x 0 h

        at_here : (new : List ℕ) (at end : ℕ) → at < length new → Descended spans numbers old new s at end → (k : ℕ) → k ≡ at → LiesIn (Some s) (span_at spans numbers at)
            → IsAbove spans numbers old (set new at (slice_index new at + 1)) s (at + (slice_index new at + 1)) k
        at_here new at end there found k e q =
            let same = found.kept at (omega arith) in
            let f = subst (λ (n : ℕ). slice_index old n ≡ slice_index old at) (sym e) refl in
            let g = subst (λ (n : ℕ). slice_index (set new at (slice_index new at + 1)) n ≡ slice_index new at + 1) (sym e) (get_or-set_same new at (slice_index new at + 1) 0 there) in
            record {
              counted = omega arith;
              reaches = omega arith;
              holds = subst (λ (n : ℕ). LiesIn (Some s) (span_at spans numbers n)) (sym e) q;
            }

  -- no fold holds the span that ends after its start: what is left lies in the span or follows it
  pub apart_at : (at end : ℕ) (f : Ends) → end ≤ length numbers → NoneCross spans numbers s (length numbers)
      → span_at spans numbers at ≡ Some f → IsTrue (is_before s.start f.end) → ¬ (LiesIn (Some s) (Some f))
      → AreApart spans numbers s at end
  apart_at at end f bounded free is later out k a h =
      let here : LiesIn (Some f) (Some s) ⊎ Precedes (Some s) (Some f) =
      by_later_end f s later (subst (λ (o : Option Ends). is_crossed o s ≡ false) is (free at (omega arith))) out in
      elim (same_or_above k at a) [
        | inl e ↦
            subst (λ (n : ℕ). LiesIn (span_at spans numbers n) (Some s) ⊎ Precedes (Some s) (span_at spans numbers n)) (sym e)
            (subst (λ (o : Option Ends). LiesIn o (Some s) ⊎ Precedes (Some s) o) (sym is) here)
        | inr b ↦ elim (either (at + slice_index old at) k) [
          | inr under ↦
              let inner = subst (λ (o : Option Ends). LiesIn (span_at spans numbers k) o) is (kept.nested at k (omega arith) (b, under)) in
              elim here [
                | inl x ↦ inl (lies_trans (span_at spans numbers k) (Some f) (Some s) inner x)
                | inr x ↦ inr (precedes_lies (Some s) (Some f) (span_at spans numbers k) x inner)
              ]
          | inl past ↦
              let next = subst (λ (o : Option Ends). Precedes o (span_at spans numbers k)) is (kept.apart at k (omega arith) past) in
              after (span_at spans numbers k) next (free k (omega arith))
        ]
      ] where
        after : (o : Option Ends) → Precedes (Some f) o → is_crossed o s ≡ false → LiesIn o (Some s) ⊎ Precedes (Some s) o
        after None next x = inl tt
        after (Some g) next x = by_later_start g s (lt_trans_le s.start f.end g.start later next) x

-- the part of the tree from a place on
pub kept_from : (spans : Spans) (numbers old new : List ℕ) (at : ℕ) → IsOutline numbers old → KeepsTree spans numbers old
    → ((k : ℕ) → at ≤ k → slice_index new k ≡ slice_index old k) → KeepsTreeFrom spans numbers new at
kept_from spans numbers old new at outline kept same = record {
  nests = λ i j a h u.
      let e = same i a in
      let b = u.0 in
      let f = same j (omega arith) in
      let v = u.1 in
      let n = outline.nests i j h (b, omega arith) in omega arith;
  nested = λ i j a h u. let e = same i a in let v = u.1 in kept.nested i j h (u.0, omega arith);
  apart = λ i j a h l. let e = same i a in kept.apart i j h (omega arith);
}

module _ (spans : Spans) (numbers inside : List ℕ) (s : Ends) (at end : ℕ) (kept : KeepsTreeFrom spans numbers inside at)
    (bounded : end ≤ length numbers) (level : (k : ℕ) → at ≤ k → k < end → k + slice_index inside k < end)
    (apart : AreApart spans numbers s at end) where
  -- one more fold that lies in the span, and all that is inside it
  pub inside_more : (next : ℕ) → at ≤ next → next < end → LieInside spans numbers inside s at next
      → LiesIn (span_at spans numbers next) (Some s)
      → LieInside spans numbers inside s at (next + (1 + slice_index inside next))
  inside_more next a l before here k b h = elim (either k next) [
    | inl c ↦ let x = before k b c in let y = x.0 in (omega arith, x.1)
    | inr c ↦ elim (same_or_above k next c) [
      | inl e ↦
          let f = subst (λ (n : ℕ). slice_index inside n ≡ slice_index inside next) (sym e) refl in
          (omega arith, subst (λ (n : ℕ). LiesIn (span_at spans numbers n) (Some s)) (sym e) here)
      | inr d ↦
          let n = kept.nests next k a (omega arith) (d, omega arith) in
          let fit = level next a l in (
            omega arith,
            lies_trans (span_at spans numbers k) (span_at spans numbers next) (Some s)
                (kept.nested next k a (omega arith) (d, omega arith)) here,
          )
    ]
  ]

  -- the first that follows it is followed by all that do
  pub follow_all : (next : ℕ) (f : Ends) → at ≤ next → span_at spans numbers next ≡ Some f
      → IsTrue (is_at_or_before f.start f.end) → IsTrue (is_at_or_before s.end f.start) → Follow spans numbers s next end
  follow_all next f a is ordered h k b l = elim (same_or_above k next b) [
    | inl e ↦
        subst (λ (n : ℕ). Precedes (Some s) (span_at spans numbers n)) (sym e)
        (subst (λ (o : Option Ends). Precedes (Some s) o) (sym is) h)
    | inr c ↦ elim (either (next + slice_index inside next) k) [
      | inr under ↦
          let inner = subst (λ (o : Option Ends). LiesIn (span_at spans numbers k) o) is (kept.nested next k a (omega arith) (c, under)) in
          precedes_lies (Some s) (Some f) (span_at spans numbers k) h inner
      | inl past ↦
          let later = subst (λ (o : Option Ends). Precedes o (span_at spans numbers k)) is (kept.apart next k a (omega arith) past) in
          after (span_at spans numbers k) later
    ]
  ] where
    after : (o : Option Ends) → Precedes (Some f) o → Precedes (Some s) o
    after None later = tt
    after (Some g) later = le_trans s.end f.end g.start (le_trans s.end f.start f.end h ordered) later
