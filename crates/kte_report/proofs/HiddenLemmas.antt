-- The lines that folds hide: as runs, and as a document and its folds have them.
use Rattle.std.proofs.Common.{◌≡◌, ℕ, zero, suc, ◌+◌, Bool, true, false, ◌||◌, cond, List, [], ◌∷◌, ◌++◌, length, get_or, set, Option, None, Some, inl, inr, refl, sym, ap, subst, ◌∙◌, add-one, append-nil, length-append, arith}
use Rattle.std.specs.Prelude.{◌==◌, ◌-◌, ◌<◌, ◌↔◌, filter, slice_get, IsSomeAnd}
use Rattle.std.specs.Bool.{Decides}
use Rattle.std.specs.Option.{option_eq}
use Rattle.std.specs.List.{range_with_len, list_any}
use Rattle.std.proofs.lemmas.Bool.Decides.{nat_tests}
use Rattle.std.proofs.lemmas.Bool.{cases_eq}
use Rattle.std.proofs.lemmas.List.{map-id}
use Rattle.std.proofs.lemmas.List.FromFn.{filter_of_map_range_with_len_more}
use Rattle.std.specs.FinMap.{get}
use Rattle.kte_doc.specs.Documents.{Document}
use Rattle.kte_doc.specs.Standings.{spans_of}
use Rattle.kte_fold.specs.Folds.{Spans, is_fold, hides, is_hidden, visible_before, visible_of}
use Rattle.kte_fold.specs.Tree.{Outline}
use Rattle.kte_core.specs.Editing.{text_of}
use Rattle.kte_core.specs.State.{State}
use Rattle.kte_core.specs.Folds.{folds_of, spans_now, is_line_hidden}
use Rattle.kte_core.specs.Shown.{IsOf}
use Rattle.kte_report.specs.Report.{joined_to, runs_of, hidden_lines}
use Rattle.kte_core.proofs.FoldMapLemmas.{spans_alike}

-- ---- runs, from the front

-- a line after runs of earlier lines: it extends the last run if no line is between them
abbrev pub extended_by : ℕ → List (ℕ × ℕ) → List (ℕ × ℕ)
extended_by line [] = (line, line) ∷ []
extended_by line (run ∷ []) = cond (run.1 + 1 == line) ((run.0, line) ∷ []) (run ∷ (line, line) ∷ [])
extended_by line (run ∷ next ∷ runs) = run ∷ extended_by line (next ∷ runs)

joined_extended : (first line : ℕ) (runs : List (ℕ × ℕ)) → joined_to first (extended_by line runs) ≡ extended_by line (joined_to first runs)
joined_extended first line [] = refl
joined_extended first line (run ∷ []) = grind (arith, nat_tests)
joined_extended first line (run ∷ next ∷ runs) = grind (arith, nat_tests)

pub runs_of_push : (lines : List ℕ) (line : ℕ) → runs_of (lines ++ line ∷ []) ≡ extended_by line (runs_of lines)
runs_of_push [] line = refl
runs_of_push (first ∷ lines) line = ap (joined_to first) (runs_of_push lines line) ∙ joined_extended first line (runs_of lines)

-- run n is there, and ends on the line before this one
abbrev EndsBefore : List (ℕ × ℕ) → ℕ → ℕ → Type 0
EndsBefore runs n line = IsSomeAnd (slice_get runs n) (λ run. run.1 + 1 ≡ line)

set_last : (runs : List (ℕ × ℕ)) (n line : ℕ) (run : ℕ × ℕ) → n ≡ length runs - 1 → EndsBefore runs n line → run ≡ get_or runs n run
    → set runs n (run.0, line) ≡ extended_by line runs
set_last [] n line run last ends is = absurd ends
set_last (only ∷ []) zero line run last ends is = grind (arith, nat_tests)
set_last (only ∷ []) (suc n) line run last ends is = absurd (omega arith)
set_last (first ∷ second ∷ runs) zero line run last ends is = absurd (omega arith)
set_last (first ∷ second ∷ runs) (suc n) line run last ends is =
    ap (λ (rest : List (ℕ × ℕ)). first ∷ rest) (set_last (second ∷ runs) n line run (omega arith) ends is)

push_apart : (runs : List (ℕ × ℕ)) (n line : ℕ) → n ≡ length runs - 1 → (EndsBefore runs n line → ⊥) → runs ++ (line, line) ∷ [] ≡ extended_by line runs
push_apart [] n line last apart = refl
push_apart (only ∷ []) zero line last apart = grind (arith, nat_tests)
push_apart (only ∷ []) (suc n) line last apart = absurd (omega arith)
push_apart (first ∷ second ∷ runs) zero line last apart = absurd (omega arith)
push_apart (first ∷ second ∷ runs) (suc n) line last apart =
    ap (λ (rest : List (ℕ × ℕ)). first ∷ rest) (push_apart (second ∷ runs) n line (omega arith) apart)

-- the last run is extended
pub extended : (runs : List (ℕ × ℕ)) (n line : ℕ) (run : ℕ × ℕ) (lines : List ℕ) → n ≡ length runs - 1
    → EndsBefore runs (length runs - 1) line → run ≡ get_or runs n run → runs ≡ runs_of lines
    → set runs n (run.0, line) ≡ runs_of (lines ++ line ∷ [])
extended runs n line run lines last ends is was =
    set_last runs n line run last (subst (λ (n : ℕ). EndsBefore runs n line) (sym last) ends) is
    ∙ ap (extended_by line) was ∙ sym (runs_of_push lines line)

-- .. or a run is added
pub added : (runs : List (ℕ × ℕ)) (line : ℕ) (lines : List ℕ) → (EndsBefore runs (length runs - 1) line → ⊥) → runs ≡ runs_of lines
    → runs ++ (line, line) ∷ [] ≡ runs_of (lines ++ line ∷ [])
added runs line lines apart was =
    push_apart runs (length runs - 1) line refl apart ∙ ap (extended_by line) was ∙ sym (runs_of_push lines line)

-- ---- the hidden lines, counted

module _ (p : ℕ → Bool) where
  -- one line more
  pub passing_more : (n : ℕ) → filter p (range_with_len 0 (n + 1)) ≡ filter p (range_with_len 0 n) ++ cond (p n) (n ∷ []) []
  passing_more n = simp map-id at (filter_of_map_range_with_len_more p (λ x. x) 0 n n (omega arith))

  pub count_more : (n : ℕ) → length (filter p (range_with_len 0 (n + 1))) ≡ length (filter p (range_with_len 0 n)) + cond (p n) 1 0
  count_more n =
      ap length (passing_more n) ∙ length-append (filter p (range_with_len 0 n)) (cond (p n) (n ∷ []) [])
      ∙ ap (λ (k : ℕ). length (filter p (range_with_len 0 n)) + k) (alone (p n)) where
        alone : (b : Bool) → length (cond b (n ∷ []) []) ≡ cond b 1 0
        alone true = refl
        alone false = refl

  pub passing_here : (n : ℕ) → p n ≡ true → filter p (range_with_len 0 (n + 1)) ≡ filter p (range_with_len 0 n) ++ n ∷ []
  passing_here n is = passing_more n ∙ ap (λ (b : Bool). filter p (range_with_len 0 n) ++ cond b (n ∷ []) []) is

  pub not_passing_here : (n : ℕ) → p n ≡ false → filter p (range_with_len 0 (n + 1)) ≡ filter p (range_with_len 0 n)
  not_passing_here n is =
      passing_more n ∙ ap (λ (b : Bool). filter p (range_with_len 0 n) ++ cond b (n ∷ []) []) is ∙ append-nil (filter p (range_with_len 0 n))

-- each line is visible or hidden
pub visible_or_hidden : (spans : Spans) (numbers : List ℕ) (p : ℕ → Bool) → ((line : ℕ) → is_hidden spans numbers line ≡ p line)
    → (n : ℕ) → visible_before spans numbers n + length (filter p (range_with_len 0 n)) ≡ n
visible_or_hidden spans numbers p same zero = refl
visible_or_hidden spans numbers p same (suc n) =
    let count : length (filter p (range_with_len 0 (suc n))) ≡ length (filter p (range_with_len 0 n)) + cond (p n) 1 0 =
    subst (λ (m : ℕ). length (filter p (range_with_len 0 m)) ≡ length (filter p (range_with_len 0 n)) + cond (p n) 1 0) (add-one n) (count_more p n) in
    let visible : visible_before spans numbers (suc n) ≡ cond (p n) (visible_before spans numbers n) (visible_before spans numbers n + 1) =
    ap (λ (b : Bool). cond b (visible_before spans numbers n) (visible_before spans numbers n + 1)) (same n) in
    one_more (p n) (visible_before spans numbers n) (length (filter p (range_with_len 0 n))) n (visible_before spans numbers (suc n))
    (length (filter p (range_with_len 0 (suc n)))) visible count (visible_or_hidden spans numbers p same n) where
      one_more : (b : Bool) (v h n v_next h_next : ℕ) → v_next ≡ cond b v (v + 1) → h_next ≡ h + cond b 1 0 → v + h ≡ n → v_next + h_next ≡ suc n
      one_more true v h n v_next h_next visible count before = omega arith
      one_more false v h n v_next h_next visible count before = omega arith

no_length : (xs : List ℕ) → length xs ≡ 0 → xs ≡ []
no_length [] none = refl
no_length (x ∷ xs) none = absurd (omega arith)

-- no line is hidden if the last one is visible, with as many visible lines before it as there are lines
pub none_hidden : (spans : Spans) (numbers : List ℕ) (p : ℕ → Bool) → ((line : ℕ) → is_hidden spans numbers line ≡ p line)
    → (last : ℕ) → visible_of spans numbers last ≡ Some last → filter p (range_with_len 0 (last + 1)) ≡ []
none_hidden spans numbers p same last visible =
    no_length (filter p (range_with_len 0 (last + 1)))
    (count_more p last ∙ by_test (p last) (visible_before spans numbers last) (length (filter p (range_with_len 0 last)))
    (sym (ap (λ (b : Bool). cond b None (Some (visible_before spans numbers last))) (same last)) ∙ visible)
    (visible_or_hidden spans numbers p same last)) where
      by_test : (b : Bool) (v h : ℕ) → cond b None (Some v) ≡ Some last → v + h ≡ last → h + cond b 1 0 ≡ 0
      by_test true v h visible all = absurd (cc)
      by_test false v h visible all = let before : v ≡ last = cc in omega arith

-- .. and only if
pub all_visible : (spans : Spans) (numbers : List ℕ) (p : ℕ → Bool) → ((line : ℕ) → is_hidden spans numbers line ≡ p line)
    → (last : ℕ) → filter p (range_with_len 0 (last + 1)) ≡ [] → visible_of spans numbers last ≡ Some last
all_visible spans numbers p same last none =
    ap (λ (b : Bool). cond b None (Some (visible_before spans numbers last))) (same last)
    ∙ by_test (p last) (visible_before spans numbers last) (length (filter p (range_with_len 0 last)))
    (sym (count_more p last) ∙ ap length none) (visible_or_hidden spans numbers p same last) where
      by_test : (b : Bool) (v h : ℕ) → h + cond b 1 0 ≡ 0 → v + h ≡ last → cond b None (Some v) ≡ Some last
      by_test true v h none all = absurd (omega arith)
      by_test false v h none all = let before : v ≡ last = omega arith in ap (λ (n : ℕ). Some n) before

-- ---- a state, its document and its folds

pub same_number : (o : Option ℕ) (n : ℕ) → Decides (option_eq (λ x y. x == y) o (Some n)) (o ≡ Some n)
same_number None n = (λ is. absurd (cc), λ is. absurd (cc))
same_number (Some m) n = grind (arith, nat_tests)

-- a number in the list that passes
any_at : (test : ℕ → Bool) (xs : List ℕ) (id : ℕ) → is_fold xs id ≡ true → test id ≡ true → list_any test xs ≡ true
any_at test [] id found passes = absurd (cc)
any_at test (x ∷ xs) id found passes =
    elim (cases_eq x id) [
      | inl here ↦ rw (here, passes) refl
      | inr other ↦ let rest = any_at test xs id (grind (arith, nat_tests)) passes in grind arith
    ]

any_kept : (test : ℕ → Bool) (xs ys : List ℕ) → ((id : ℕ) → is_fold xs id ≡ true → is_fold ys id ≡ true)
    → list_any test xs ≡ true → list_any test ys ≡ true
any_kept test [] ys within any = absurd (cc)
any_kept test (x ∷ xs) ys within any =
    by_first (test x) refl any (any_kept test xs ys (λ id found. within id (grind arith))) where
      by_first : (b : Bool) → test x ≡ b → (b || list_any test xs) ≡ true → (list_any test xs ≡ true → list_any test ys ≡ true)
          → list_any test ys ≡ true
      by_first true passes any later = any_at test ys x (within x (grind (arith, nat_tests))) passes
      by_first false fails any later = later any

both_or_none : (a b : Bool) → (a ≡ true → b ≡ true) → (b ≡ true → a ≡ true) → a ≡ b
both_or_none true b there back = sym (there refl)
both_or_none false true there back = back refl
both_or_none false false there back = refl

-- a test of the numbers asks only which ones they are
any_same : (test : ℕ → Bool) (xs ys : List ℕ) → ((id : ℕ) → is_fold xs id ≡ is_fold ys id) → list_any test xs ≡ list_any test ys
any_same test xs ys same =
    both_or_none (list_any test xs) (list_any test ys)
    (any_kept test xs ys (λ id found. sym (same id) ∙ found)) (any_kept test ys xs (λ id found. same id ∙ found))

pub hidden_alike : (state : State) (document : Document) (folds : Outline) → IsOf state document
    → ((id : ℕ) → is_fold folds.numbers id ≡ is_fold (folds_of state.ranges) id)
    → (line : ℕ) → is_hidden (spans_of document.ranges) folds.numbers line ≡ is_line_hidden state line
hidden_alike state document folds shown numbers line =
    ap (λ (spans : Spans). is_hidden spans folds.numbers line) (spans_alike state document shown)
    ∙ any_same (λ id. hides (get (spans_now state) id) line) folds.numbers (folds_of state.ranges) numbers

pub none_shown : (state : State) (document : Document) (folds : Outline) (lines : ℕ) → IsOf state document
    → ((id : ℕ) → is_fold folds.numbers id ≡ is_fold (folds_of state.ranges) id) → lines ≡ length document.text → 0 < length document.text
    → (visible_of (spans_of document.ranges) folds.numbers (lines - 1) ≡ Some (lines - 1)) ↔ (hidden_lines state ≡ [])
none_shown state document folds lines shown numbers count some =
    let last : lines - 1 + 1 ≡ length (text_of state.editing) = omega (arith, ap length shown.came.text) in
    let same = hidden_alike state document folds shown numbers in
    subst (λ (n : ℕ). (visible_of (spans_of document.ranges) folds.numbers (lines - 1) ≡ Some (lines - 1)) ↔ (filter (is_line_hidden state) (range_with_len 0 n) ≡ []))
    last (
      none_hidden (spans_of document.ranges) folds.numbers (is_line_hidden state) same (lines - 1),
      all_visible (spans_of document.ranges) folds.numbers (is_line_hidden state) same (lines - 1),
    )
