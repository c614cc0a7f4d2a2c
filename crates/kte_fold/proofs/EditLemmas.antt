-- The lists of the folds as a fold goes, and as one comes.
use Rattle.std.proofs.Common.{◌≡◌, ◌≢◌, ℕ, ◌+◌, ◌-◌, ◌<◌, ◌≤◌, ◌⊎◌, ◌↔◌, true, false, List, length, slice_index, Some, IsTrue, inl, inr, refl, sym, ap, ◌∙◌, arith}
use Rattle.std.specs.List.{insert, remove}
use Rattle.std.proofs.lemmas.List.Edits.{length-insert, get_or-insert_below, get_or-insert_at, get_or-insert_above, length-remove, get_or-remove_below, get_or-remove_above}
use Rattle.std.specs.FinMap.{get}
use Rattle.kte_place.specs.Ends.{Ends}
use Rattle.kte_fold.specs.Folds.{Spans, is_fold}
use Rattle.kte_fold.specs.Tree.{KeepsTree, span_at}
use Rattle.kte_fold.specs.Inside.{IsOutline, Left, Descended, LieInside, Follow}
use Rattle.kte_fold.proofs.ListLemmas.{place_of, fold_at}
use Rattle.kte_fold.proofs.TreeLemmas.{Sound, Kept, gone_sound, gone_kept, come_sound, come_kept}

-- an outline by the places of its folds, and back
pub sound_of : (numbers inside : List ℕ) (len : ℕ) → IsOutline numbers inside → length numbers ≡ len → Sound len (slice_index inside)
sound_of numbers inside len o e = record {
  fits = λ i h. let f = o.fits i (omega arith) in omega arith;
  nests = λ i j h l u. o.nests i j (omega arith) (l, u);
}

pub kept_of : (spans : Spans) (numbers inside : List ℕ) (len : ℕ) → KeepsTree spans numbers inside → length numbers ≡ len
    → Kept len (slice_index inside) (span_at spans numbers)
kept_of spans numbers inside len k e = record {
  nested = λ i j h l u. k.nested i j (omega arith) (l, u);
  apart = λ i j h l. k.apart i j (omega arith) l;
}

kept_back : (spans : Spans) (numbers inside : List ℕ) (len : ℕ) → length numbers ≡ len
    → Kept len (slice_index inside) (span_at spans numbers) → KeepsTree spans numbers inside
kept_back spans numbers inside len e k = record {
  nested = λ i j h u. k.nested i j (omega arith) u.0 u.1;
  apart = λ i j h l. k.apart i j (omega arith) l;
}

either : (k at : ℕ) → (k < at) ⊎ (at ≤ k)
either k at = grind arith

-- a fold goes
module _ (numbers inside left : List ℕ) (at : ℕ) (outline : IsOutline numbers inside) (there : at < length numbers)
    (same_length : length left ≡ length inside)
    (before : (k : ℕ) → k < at → Left at k (slice_index inside k) (slice_index left k))
    (after : (k : ℕ) → at ≤ k → slice_index left k ≡ slice_index inside k) where
  len : ℕ
  len = length (remove numbers at)

  in_left : at < length left
  in_left = omega (arith, same_length, outline.same_length)

  one_less : length (remove numbers at) + 1 ≡ length numbers
  one_less = length-remove numbers at there

  left_before : (k : ℕ) → k < at → Left at k (slice_index inside k) (slice_index (remove left at) k)
  left_before k h =
      let e = get_or-remove_below left at 0 k h in_left in
      let b = before k h in
      record { holding = λ x. let y = b.holding x in omega arith; before = λ x. let y = b.before x in omega arith }

  left_after : (k : ℕ) → at ≤ k → slice_index (remove left at) k ≡ slice_index inside (k + 1)
  left_after k h = get_or-remove_above left at 0 k h in_left ∙ after (k + 1) (omega arith)

  below : (k : ℕ) → k < at → slice_index (remove numbers at) k ≡ slice_index numbers k
  below k h = get_or-remove_below numbers at 0 k h there

  above : (k : ℕ) → at ≤ k → slice_index (remove numbers at) k ≡ slice_index numbers (k + 1)
  above k h = get_or-remove_above numbers at 0 k h there

  distinct_gone : (i j : ℕ) → i < j → j < length (remove numbers at) → slice_index (remove numbers at) i ≢ slice_index (remove numbers at) j
  distinct_gone i j l h same = elim (either i at) [
    | inl b ↦ elim (either j at) [
      | inl c ↦ outline.distinct i j l (omega (arith, one_less)) (sym (below i b) ∙ same ∙ below j c)
      | inr c ↦ outline.distinct i (j + 1) (omega arith) (omega (arith, one_less)) (sym (below i b) ∙ same ∙ above j c)
    ]
    | inr b ↦
        outline.distinct (i + 1) (j + 1) (omega arith) (omega (arith, one_less))
        (sym (above i b) ∙ same ∙ above j (omega arith))
  ]

  pub outline_gone : IsOutline (remove numbers at) (remove left at)
  outline_gone =
      let sound : Sound (length (remove numbers at)) (slice_index (remove left at)) =
      gone_sound (length (remove numbers at)) at (slice_index inside) (slice_index (remove left at))
      (sound_of numbers inside (length (remove numbers at) + 1) outline (sym one_less)) (omega (arith, one_less)) left_before left_after in
      record {
        same_length = omega (arith, length-remove left at in_left, one_less, same_length, outline.same_length);
        distinct = distinct_gone;
        fits = sound.fits;
        nests = λ i j h u. sound.nests i j h u.0 u.1;
      }

  pub tree_gone : (spans : Spans) → KeepsTree spans numbers inside → KeepsTree spans (remove numbers at) (remove left at)
  tree_gone spans kept =
      kept_back spans (remove numbers at) (remove left at) (length (remove numbers at)) refl
      (gone_kept (length (remove numbers at)) at (slice_index inside) (slice_index (remove left at))
      (sound_of numbers inside (length (remove numbers at) + 1) outline (sym one_less)) (omega (arith, one_less)) left_before left_after
      (span_at spans numbers) (span_at spans (remove numbers at))
      (kept_of spans numbers inside (length (remove numbers at) + 1) kept (sym one_less))
      (λ k h. ap (λ n. get spans n) (below k h)) (λ k h. ap (λ n. get spans n) (above k h)))

  pub folds_gone : (id n : ℕ) → slice_index numbers at ≡ id → IsTrue (is_fold (remove numbers at) n) ↔ ((n ≢ id) × IsTrue (is_fold numbers n))
  folds_gone id n is = (λ h. was h, λ h. stays h) where
    was : IsTrue (is_fold (remove numbers at) n) → (n ≢ id) × IsTrue (is_fold numbers n)
    was h =
        let p = place_of (remove numbers at) n h in
        let b = p.bounded in
        elim (either p.place at) [
          | inl l ↦
              let here = sym (below p.place l) ∙ p.is_number in (
                (λ same. outline.distinct p.place at l there (here ∙ same ∙ sym is)),
                fold_at numbers n p.place (omega (arith, one_less)) here,
              )
          | inr g ↦
              let here = sym (above p.place g) ∙ p.is_number in (
                (λ same. outline.distinct at (p.place + 1) (omega arith) (omega (arith, one_less)) (is ∙ sym same ∙ sym here)),
                fold_at numbers n (p.place + 1) (omega (arith, one_less)) here,
              )
        ]

    stays : (n ≢ id) × IsTrue (is_fold numbers n) → IsTrue (is_fold (remove numbers at) n)
    stays h =
        let p = place_of numbers n h.1 in
        let b = p.bounded in
        elim (either p.place at) [
          | inl l ↦ fold_at (remove numbers at) n p.place (omega (arith, one_less)) (below p.place l ∙ p.is_number)
          | inr g ↦ elim (either at p.place) [
            | inl l ↦
                let back : (p.place - 1) + 1 ≡ p.place = omega arith in
                fold_at (remove numbers at) n (p.place - 1) (omega (arith, one_less))
                (above (p.place - 1) (omega arith) ∙ ap (slice_index numbers) back ∙ p.is_number)
            | inr e ↦
                let same : p.place ≡ at = omega arith in
                absurd (h.0 (sym p.is_number ∙ ap (slice_index numbers) same ∙ is))
          ]
        ]

-- a fold comes
module _ (spans : Spans) (numbers before after : List ℕ) (s : Ends) (id at end next : ℕ)
    (outline : IsOutline numbers before) (kept : KeepsTree spans numbers before)
    (found : Descended spans numbers before after s at end)
    (start : at ≤ next) (bounded : next ≤ end)
    (inner : LieInside spans numbers after s at next)
    (outer : Follow spans numbers s next end)
    (is : get spans id ≡ Some s)
    (new : is_fold numbers id ≡ false) where
  in_numbers : at ≤ length numbers
  in_numbers = omega (arith, found.ordered, found.bounded)

  in_inside : at ≤ length after
  in_inside = omega (arith, found.ordered, found.bounded, found.same_length, outline.same_length)

  sound : Sound (length numbers) (slice_index before)
  sound = sound_of numbers before (length numbers) outline refl

  inner_old : LieInside spans numbers before s at (at + (next - at))
  inner_old k a h =
      let x = inner k a (omega arith) in
      let y = x.0 in
      let e = found.kept k a in
      (omega arith, x.1)

  outer_old : Follow spans numbers s (at + (next - at)) end
  outer_old k a h = outer k (omega arith) h

  count_below : (k : ℕ) → k < at → slice_index (insert after at (next - at)) k ≡ slice_index after k
  count_below k h = get_or-insert_below after at (next - at) 0 k h in_inside

  count_here : slice_index (insert after at (next - at)) at ≡ next - at
  count_here = get_or-insert_at after at (next - at) 0 in_inside

  count_above : (k : ℕ) → at < k → slice_index (insert after at (next - at)) k ≡ slice_index before (k - 1)
  count_above k h =
      let back : (k - 1) + 1 ≡ k = omega arith in
      ap (slice_index (insert after at (next - at))) (sym back)
      ∙ get_or-insert_above after at (next - at) 0 (k - 1) (omega arith) in_inside
      ∙ found.kept (k - 1) (omega arith)

  number_below : (k : ℕ) → k < at → slice_index (insert numbers at id) k ≡ slice_index numbers k
  number_below k h = get_or-insert_below numbers at id 0 k h in_numbers

  number_here : slice_index (insert numbers at id) at ≡ id
  number_here = get_or-insert_at numbers at id 0 in_numbers

  number_above : (k : ℕ) → at < k → slice_index (insert numbers at id) k ≡ slice_index numbers (k - 1)
  number_above k h =
      let back : (k - 1) + 1 ≡ k = omega arith in
      ap (slice_index (insert numbers at id)) (sym back)
      ∙ get_or-insert_above numbers at id 0 (k - 1) (omega arith) in_numbers

  one_more : length (insert numbers at id) ≡ length numbers + 1
  one_more = length-insert numbers at id in_numbers

  not_there : (k : ℕ) → k < length numbers → slice_index numbers k ≢ id
  not_there k h same = absurd (clash (fold_at numbers id k h same) new) where
    clash : is_fold numbers id ≡ true → is_fold numbers id ≡ false → ⊥
    clash a b = cc

  distinct_come : (i j : ℕ) → i < j → j < length (insert numbers at id) → slice_index (insert numbers at id) i ≢ slice_index (insert numbers at id) j
  distinct_come i j l h same = elim (either i at) [
    | inl b ↦ elim (either j at) [
      | inl c ↦ outline.distinct i j l (omega (arith, in_numbers)) (sym (number_below i b) ∙ same ∙ number_below j c)
      | inr c ↦ elim (either at j) [
        | inl d ↦
            outline.distinct i (j - 1) (omega arith) (omega (arith, one_more))
            (sym (number_below i b) ∙ same ∙ number_above j d)
        | inr d ↦
            let e : j ≡ at = omega arith in
            not_there i (omega (arith, in_numbers))
            (sym (number_below i b) ∙ same ∙ ap (slice_index (insert numbers at id)) e ∙ number_here)
      ]
    ]
    | inr b ↦ elim (either at i) [
      | inl c ↦
          outline.distinct (i - 1) (j - 1) (omega arith) (omega (arith, one_more))
          (sym (number_above i c) ∙ same ∙ number_above j (omega arith))
      | inr c ↦
          let e : i ≡ at = omega arith in
          not_there (j - 1) (omega (arith, one_more))
          (sym (number_above j (omega arith)) ∙ sym same ∙ ap (slice_index (insert numbers at id)) e ∙ number_here)
    ]
  ]

  pub outline_come : IsOutline (insert numbers at id) (insert after at (next - at))
  outline_come =
      let whole : Sound (length numbers + 1) (slice_index (insert after at (next - at))) =
      come_sound spans numbers before after s at end (next - at) sound found (omega arith) inner_old
      (slice_index (insert after at (next - at))) count_below count_here count_above in
      record {
        same_length = omega (arith, length-insert after at (next - at) in_inside, one_more, found.same_length, outline.same_length);
        distinct = distinct_come;
        fits = λ i h. let f = whole.fits i (omega (arith, one_more)) in omega (arith, one_more);
        nests = λ i j h u. whole.nests i j (omega (arith, one_more)) u.0 u.1;
      }

  pub tree_come : KeepsTree spans (insert numbers at id) (insert after at (next - at))
  tree_come =
      kept_back spans (insert numbers at id) (insert after at (next - at)) (length numbers + 1) one_more
      (come_kept spans numbers before after s at end (next - at) sound found (omega arith) inner_old
      (slice_index (insert after at (next - at))) count_below count_here count_above
      (span_at spans (insert numbers at id)) (kept_of spans numbers before (length numbers) kept refl) outer_old
      (λ k h. ap (λ n. get spans n) (number_below k h)) (ap (λ n. get spans n) number_here ∙ is)
      (λ k h. ap (λ n. get spans n) (number_above k h)))

  pub folds_come : (n : ℕ) → IsTrue (is_fold (insert numbers at id) n) ↔ ((n ≡ id) ⊎ IsTrue (is_fold numbers n))
  folds_come n = (λ h. was h, λ h. is_there h) where
    was : IsTrue (is_fold (insert numbers at id) n) → (n ≡ id) ⊎ IsTrue (is_fold numbers n)
    was h =
        let p = place_of (insert numbers at id) n h in
        let b = p.bounded in
        elim (either p.place at) [
          | inl l ↦ inr (fold_at numbers n p.place (omega (arith, in_numbers)) (sym (number_below p.place l) ∙ p.is_number))
          | inr g ↦ elim (either at p.place) [
            | inl l ↦ inr (fold_at numbers n (p.place - 1) (omega (arith, one_more)) (sym (number_above p.place l) ∙ p.is_number))
            | inr e ↦
                let same : p.place ≡ at = omega arith in
                inl (sym p.is_number ∙ ap (slice_index (insert numbers at id)) same ∙ number_here)
          ]
        ]

    is_there : (n ≡ id) ⊎ IsTrue (is_fold numbers n) → IsTrue (is_fold (insert numbers at id) n)
    is_there (inl e) = fold_at (insert numbers at id) n at (omega (arith, one_more, in_numbers)) (number_here ∙ sym e)
    is_there (inr h) =
        let p = place_of numbers n h in
        let b = p.bounded in
        elim (either p.place at) [
          | inl l ↦ fold_at (insert numbers at id) n p.place (omega (arith, one_more)) (number_below p.place l ∙ p.is_number)
          | inr g ↦
              let back : (p.place + 1) - 1 ≡ p.place = omega arith in
              fold_at (insert numbers at id) n (p.place + 1) (omega (arith, one_more))
              (number_above (p.place + 1) (omega arith) ∙ ap (slice_index numbers) back ∙ p.is_number)
        ]
