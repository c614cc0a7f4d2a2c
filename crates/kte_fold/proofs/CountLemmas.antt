-- How many of the first lines are hidden, by a walk over the outermost folds.
use Rattle.std.proofs.Common.{◌≡◌, ℕ, zero, suc, ◌+◌, ◌-◌, ◌<◌, ◌≤◌, ◌⊎◌, Bool, true, false, List, length, slice_index, Option, None, Some, IsTrue, inl, inr, refl, sym, subst, ap, ◌∙◌, arith}
use Rattle.std.proofs.lemmas.Bool.Decides.{nat_tests}
use Rattle.std.specs.FinMap.{get}
use Rattle.kte_place.specs.declared.place.Place.{Place}
use Rattle.kte_place.specs.Ends.{Ends}
use Rattle.kte_place.specs.Place.{is_at_or_before}
use Rattle.kte_fold.specs.Folds.{Spans, hides, is_hidden, visible_before, visible_of}
use Rattle.kte_fold.specs.Tree.{KeepsTree, LiesIn, Precedes, span_at}
use Rattle.kte_fold.specs.Inside.{IsOutline, Counted, EndsBefore, StartsFrom}
use Rattle.kte_fold.proofs.ListLemmas.{any_none, any_at}

either : (k at : ℕ) → (k < at) ⊎ (at ≤ k)
either k at = grind arith

line_of : (p q : Place) → IsTrue (is_at_or_before p q) → p.line ≤ q.line
line_of p q h = grind (arith, nat_tests)

ended : (o : Option Ends) (below n : ℕ) → EndsBefore o below → below ≤ n → hides o n ≡ false
ended None below n h l = refl
ended (Some s) below n h l = grind (arith, nat_tests)

starting : (o : Option Ends) (line n : ℕ) → StartsFrom o line → n ≤ line → hides o n ≡ false
starting None line n h l = refl
starting (Some s) line n h l = grind (arith, nat_tests)

hidden_by : (s : Ends) (n : ℕ) → s.start.line < n → n ≤ s.end.line → hides (Some s) n ≡ true
hidden_by s n a b = grind (arith, nat_tests)

weaken : (o : Option Ends) (a b : ℕ) → a ≤ b → EndsBefore o a → EndsBefore o b
weaken None a b l h = tt
weaken (Some s) a b l h = omega arith

earlier : (o : Option Ends) (a b : ℕ) → b ≤ a → StartsFrom o a → StartsFrom o b
earlier None a b l h = tt
earlier (Some s) a b l h = omega arith

starts_from_none : (o : Option Ends) → StartsFrom o 0
starts_from_none None = tt
starts_from_none (Some s) = omega arith

none_inside : (o : Option Ends) (line : ℕ) → LiesIn o None → EndsBefore o line
none_inside None line h = tt
none_inside (Some s) line h = absurd h

ends_inside : (o : Option Ends) (f : Ends) → LiesIn o (Some f) → EndsBefore o (f.end.line + 1)
ends_inside None f h = tt
ends_inside (Some s) f h = let l = line_of s.end f.end h.1 in omega arith

starts_inside : (o : Option Ends) (f : Ends) → LiesIn o (Some f) → StartsFrom o f.start.line
starts_inside None f h = tt
starts_inside (Some s) f h = line_of f.start s.start h.0

starts_after : (o : Option Ends) (f : Ends) → Precedes (Some f) o → StartsFrom o f.end.line
starts_after None f h = tt
starts_after (Some s) f h = line_of f.end s.start h

module _ (spans : Spans) (numbers : List ℕ) where
  -- lines that are not hidden
  shown_stretch : (from more : ℕ) → ((n : ℕ) → from ≤ n → n < from + more → is_hidden spans numbers n ≡ false)
      → visible_before spans numbers (from + more) ≡ visible_before spans numbers from + more
  shown_stretch from zero h = ap (visible_before spans numbers) (plus_none from) ∙ sym (plus_none (visible_before spans numbers from)) where
    plus_none : (n : ℕ) → n + 0 ≡ n
    plus_none n = omega arith
  shown_stretch from (suc more) h =
      let before = shown_stretch from more (λ n a l. h n a (omega arith)) in
      let next : from + suc more ≡ suc (from + more) = omega arith in
      let shown = h (from + more) (omega arith) (omega arith) in
      ap (visible_before spans numbers) next ∙ step (from + more) shown ∙ (let x : visible_before spans numbers (from + more) + 1 ≡ visible_before spans numbers from + suc more = omega arith in x) where
        step : (n : ℕ) → is_hidden spans numbers n ≡ false → visible_before spans numbers (suc n) ≡ visible_before spans numbers n + 1
        step n e = rw e refl

  -- lines that are hidden
  hidden_stretch : (from more : ℕ) → ((n : ℕ) → from ≤ n → n < from + more → is_hidden spans numbers n ≡ true)
      → visible_before spans numbers (from + more) ≡ visible_before spans numbers from
  hidden_stretch from zero h = ap (visible_before spans numbers) (plus_none from) where
    plus_none : (n : ℕ) → n + 0 ≡ n
    plus_none n = omega arith
  hidden_stretch from (suc more) h =
      let before = hidden_stretch from more (λ n a l. h n a (omega arith)) in
      let next : from + suc more ≡ suc (from + more) = omega arith in
      let hidden = h (from + more) (omega arith) (omega arith) in
      ap (visible_before spans numbers) next ∙ step (from + more) hidden ∙ before where
        step : (n : ℕ) → is_hidden spans numbers n ≡ true → visible_before spans numbers (suc n) ≡ visible_before spans numbers n
        step n e = rw e refl

  -- there are no more visible lines before an earlier line
  pub fewer_before : (from more : ℕ) → visible_before spans numbers from ≤ visible_before spans numbers (from + more)
  fewer_before from zero = let e = ap (visible_before spans numbers) (plus_none from) in omega arith where
    plus_none : (n : ℕ) → n + 0 ≡ n
    plus_none n = omega arith
  fewer_before from (suc more) =
      let before = fewer_before from more in
      let next : from + suc more ≡ suc (from + more) = omega arith in
      let e = ap (visible_before spans numbers) next in
      let s = step (from + more) (is_hidden spans numbers (from + more)) refl in
      omega arith where
        step : (n : ℕ) (b : Bool) → is_hidden spans numbers n ≡ b → visible_before spans numbers n ≤ visible_before spans numbers (suc n)
        step n true e = rw e (omega arith)
        step n false e = rw e (omega arith)

  shown : (at hidden below line : ℕ) → Counted spans numbers at hidden below
      → ((k : ℕ) → at ≤ k → k < length numbers → StartsFrom (span_at spans numbers k) line)
      → (n : ℕ) → below ≤ n → n ≤ line → is_hidden spans numbers n ≡ false
  shown at hidden below line c later n a l = any_none (λ id. hides (get spans id) n) numbers (λ k h. elim (either k at) [
    | inl b ↦ ended (span_at spans numbers k) below n (c.past k b) a
    | inr g ↦ starting (span_at spans numbers k) line n (later k g h) l
  ])

  pub counted_none : Counted spans numbers 0 0 0
  counted_none = record {
    counted = refl;
    past = λ k h. absurd (omega arith);
    later = λ k a h. starts_from_none (span_at spans numbers k);
  }

  -- a line that the folds passed end before, and the others start on or after, is not hidden
  pub line_shown : (at hidden below line : ℕ) → Counted spans numbers at hidden below → below ≤ line
      → ((k : ℕ) → at ≤ k → k < length numbers → StartsFrom (span_at spans numbers k) line)
      → is_hidden spans numbers line ≡ false
  line_shown at hidden below line c l later = shown at hidden below line c later line l (omega arith)

  pub line_counted : (at hidden below line : ℕ) → Counted spans numbers at hidden below → below ≤ line
      → ((k : ℕ) → at ≤ k → k < length numbers → StartsFrom (span_at spans numbers k) line)
      → visible_before spans numbers line + hidden ≡ line
  line_counted at hidden below line c l later =
      let stretch = shown_stretch below (line - below) (λ n a h. shown at hidden below line c later n a (omega arith)) in
      let whole : below + (line - below) ≡ line = omega arith in
      let e = ap (visible_before spans numbers) whole in
      let counted = c.counted in
      omega arith

  module _ (inside : List ℕ) (outline : IsOutline numbers inside) (kept : KeepsTree spans numbers inside) where
    -- the folds from a valid one on start on its line or later
    pub later_start : (at : ℕ) (f : Ends) (line : ℕ) → span_at spans numbers at ≡ Some f → IsTrue (is_at_or_before f.start f.end)
        → line ≤ f.start.line → (k : ℕ) → at ≤ k → k < length numbers → StartsFrom (span_at spans numbers k) line
    later_start at f line is ordered l k a h = elim (either at k) [
      | inr e ↦
          let same : at ≡ k = omega arith in
          subst (λ (n : ℕ). StartsFrom (span_at spans numbers n) line) same
          (subst (λ (o : Option Ends). StartsFrom o line) (sym is) l)
      | inl b ↦ elim (either (at + slice_index inside at) k) [
        | inr under ↦
            earlier (span_at spans numbers k) f.start.line line l
            (starts_inside (span_at spans numbers k) f
            (subst (λ (o : Option Ends). LiesIn (span_at spans numbers k) o) is (kept.nested at k h (b, under))))
        | inl past ↦
            let order = line_of f.start f.end ordered in
            earlier (span_at spans numbers k) f.end.line line (omega arith)
            (starts_after (span_at spans numbers k) f
            (subst (λ (o : Option Ends). Precedes o (span_at spans numbers k)) is (kept.apart at k h past)))
      ]
    ]

    -- past an invalid fold
    pub counted_skip : (at hidden below : ℕ) → at < length numbers → Counted spans numbers at hidden below
        → span_at spans numbers at ≡ None → Counted spans numbers (at + (1 + slice_index inside at)) hidden below
    counted_skip at hidden below there c is =
        let fit = outline.fits at there in
        record {
          counted = c.counted;
          past = λ k h. elim (either k at) [
            | inl b ↦ c.past k b
            | inr a ↦ elim (either at k) [
              | inl b ↦
                  none_inside (span_at spans numbers k) below
                  (subst (λ (o : Option Ends). LiesIn (span_at spans numbers k) o) is (kept.nested at k (omega arith) (b, omega arith)))
              | inr e ↦
                  let same : at ≡ k = omega arith in
                  subst (λ (n : ℕ). EndsBefore (span_at spans numbers n) below) same
                  (subst (λ (o : Option Ends). EndsBefore o below) (sym is) tt)
            ]
          ];
          later = λ k a h. c.later k (omega arith) h;
        }

    -- past a valid fold
    pub counted_fold : (at hidden below : ℕ) (f : Ends) → at < length numbers → Counted spans numbers at hidden below
        → span_at spans numbers at ≡ Some f → IsTrue (is_at_or_before f.start f.end)
        → Counted spans numbers (at + (1 + slice_index inside at)) (hidden + (f.end.line - f.start.line)) (f.end.line + 1)
    counted_fold at hidden below f there c is ordered =
        let fit = outline.fits at there in
        let order = line_of f.start f.end ordered in
        let from : below - 1 ≤ f.start.line = subst (λ (o : Option Ends). StartsFrom o (below - 1)) is (c.later at (omega arith) there) in
        let first = shown_stretch below (f.start.line + 1 - below)
        (λ n a h. shown at hidden below f.start.line c (later_start at f f.start.line is ordered (omega arith)) n a (omega arith)) in
        let second = hidden_stretch (f.start.line + 1) (f.end.line - f.start.line)
        (λ n a h. any_at (λ id. hides (get spans id) n) numbers at there
        (subst (λ (o : Option Ends). hides o n ≡ true) (sym is) (hidden_by f n (omega arith) (omega arith)))) in
        let e : below + (f.start.line + 1 - below) ≡ f.start.line + 1 = omega arith in
        let d : f.start.line + 1 + (f.end.line - f.start.line) ≡ f.end.line + 1 = omega arith in
        let ve = ap (visible_before spans numbers) e in
        let vd = ap (visible_before spans numbers) d in
        let counted = c.counted in
        record {
          counted = omega arith;
          past = λ k h. elim (either k at) [
            | inl b ↦ weaken (span_at spans numbers k) below (f.end.line + 1) (omega arith) (c.past k b)
            | inr a ↦ elim (either at k) [
              | inl b ↦
                  ends_inside (span_at spans numbers k) f
                  (subst (λ (o : Option Ends). LiesIn (span_at spans numbers k) o) is (kept.nested at k (omega arith) (b, omega arith)))
              | inr x ↦
                  let same : at ≡ k = omega arith in
                  subst (λ (n : ℕ). EndsBefore (span_at spans numbers n) (f.end.line + 1)) same
                  (subst (λ (o : Option Ends). EndsBefore o (f.end.line + 1)) (sym is) (omega arith))
            ]
          ];
          later = λ k a h.
              earlier (span_at spans numbers k) f.end.line (f.end.line + 1 - 1) (omega arith)
              (starts_after (span_at spans numbers k) f
              (subst (λ (o : Option Ends). Precedes o (span_at spans numbers k)) is (kept.apart at k h (omega arith))));
        }

    -- a line inside a valid fold
    pub line_hidden : (at : ℕ) (f : Ends) (line : ℕ) → at < length numbers → span_at spans numbers at ≡ Some f
        → f.start.line < line → line ≤ f.end.line → is_hidden spans numbers line ≡ true
    line_hidden at f line there is a b =
        any_at (λ id. hides (get spans id) line) numbers at there
        (subst (λ (o : Option Ends). hides o line ≡ true) (sym is) (hidden_by f line a b))

-- the number of a line that is not hidden
pub visible_is : (spans : Spans) (numbers : List ℕ) (line hidden : ℕ) → is_hidden spans numbers line ≡ false
    → visible_before spans numbers line + hidden ≡ line → Some (line - hidden) ≡ visible_of spans numbers line
visible_is spans numbers line hidden e h = rw e (ap (λ (n : ℕ). Some n) (back (visible_before spans numbers line) h)) where
  back : (v : ℕ) → v + hidden ≡ line → line - hidden ≡ v
  back v h = omega arith

pub in_order : (f : Ends) (inside : Ends) → inside ≡ f → IsTrue (is_at_or_before inside.start inside.end) → IsTrue (is_at_or_before f.start f.end)
in_order f inside e h = subst (λ (s : Ends). IsTrue (is_at_or_before s.start s.end)) e h
