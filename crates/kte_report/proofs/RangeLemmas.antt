-- The ranges of a state and those of its document, entry by entry.
use Rattle.std.proofs.Common.{◌≡◌, ℕ, ◌+◌, ◌<◌, zero, suc, true, map, List, [], ◌∷◌, ◌++◌, length, take, get_or, codes, Option, Some, None, refl, sym, ap, subst, ◌∙◌, append_assoc, append-nil, arith}
use Rattle.std.specs.Prelude.{option_and_then}
use Rattle.std.specs.Option.{option_map}
use Rattle.std.specs.List.{flat_map, slice_get}
use Rattle.std.specs.Ordering.{nat_cmp}
use Rattle.std.specs.FinMap.{FinMap, get, keys, entries, entries_sorted, find, is_sorted, get-entries}
use Rattle.std.specs.FinMap.Entries.{below_all}
use Rattle.std.proofs.lemmas.Bool.Decides.{nat_tests}
use Rattle.std.proofs.lemmas.Grind.{flat_map-append}
use Rattle.std.proofs.lemmas.List.{take_more, length-map}
use Rattle.std.proofs.lemmas.Option.{get_or_from_slice_get}
use Rattle.kte_place.specs.Ends.{Ends}
use Rattle.kte_doc.specs.Standings.{Standing, Standings}
use Rattle.kte_doc.specs.Documents.{Document}
use Rattle.kte_core.specs.State.{State, Range}
use Rattle.kte_core.specs.Shown.{range_of, IsOf}
use Rattle.kte_core.proofs.FoldMapLemmas.{from_T, changed_by, entries-changed_by}
use Rattle.kte_report.specs.Report.{number_line, range_line, standing_line, range_lines}
use Rattle.kte_report.specs.Shown.{shown_line, shown_lines}

-- ---- entries

module _ {X : Type 0} where
  -- a key below all others is below each of them
  above : (x : ℕ) (es : List (ℕ × X)) (n : ℕ) (e : ℕ × X) → below_all nat_cmp x es ≡ true → slice_get es n ≡ Some e → x < e.0
  above x [] n e below at = absurd (cc)
  above x (first ∷ es) zero e below at =
      let same : first ≡ e = cc in
      subst (λ (e : ℕ × X). x < e.0) same (grind (arith, nat_tests))
  above x (first ∷ es) (suc n) e below at = above x es n e (grind (arith, nat_tests)) at

  -- each entry is found under its key
  find-at : (es : List (ℕ × X)) (n : ℕ) (e : ℕ × X) → is_sorted nat_cmp es ≡ true → slice_get es n ≡ Some e → find nat_cmp e.0 es ≡ Some e.1
  find-at [] n e rising at = absurd (cc)
  find-at (first ∷ es) zero e rising at =
      let same : first ≡ e = cc in
      subst (λ (e : ℕ × X). find nat_cmp e.0 (first ∷ es) ≡ Some e.1) same (grind (arith, nat_tests))
  find-at (first ∷ es) (suc n) e rising at =
      let later : first.0 < e.0 = above first.0 es n e (grind (arith, nat_tests)) at in
      let rest = find-at es n e (grind (arith, nat_tests)) at in
      grind (arith, nat_tests)

  pub get-at : (ranges : FinMap nat_cmp X) (n : ℕ) (e : ℕ × X) → slice_get (entries ranges) n ≡ Some e → get ranges e.0 ≡ Some e.1
  get-at ranges n e at =
      get-entries ranges e.0 ∙ find-at (entries ranges) n e (from_T _ (entries_sorted ranges)) at

  there : (es : List (ℕ × X)) (n : ℕ) → n < length es → (e : ℕ × X) × (slice_get es n ≡ Some e)
  there [] n within = absurd (omega arith)
  there (e ∷ es) zero within = (e, refl)
  there (e ∷ es) (suc n) within = there es n (omega arith)

  key-at : (es : List (ℕ × X)) (n : ℕ) (e : ℕ × X) → slice_get es n ≡ Some e → get_or (map (λ e. e.0) es) n 0 ≡ e.0
  key-at [] n e at = absurd (cc)
  key-at (first ∷ es) zero e at = cc
  key-at (first ∷ es) (suc n) e at = key-at es n e at

-- ---- the loop

-- the lines of these entries
abbrev pub shown_all : List (ℕ × Standing) → List ℕ
shown_all es = flat_map (λ e. shown_line e.0 e.1) es

-- one range more
pub shown-push : (ranges : Standings) (n id : ℕ) (start before after : List ℕ) → n < length (keys ranges) → id ≡ get_or (keys ranges) n 0
    → before ≡ start ++ shown_all (take n (entries ranges))
    → ((range : Standing) → get ranges id ≡ Some range → after ≡ before ++ shown_line id range)
    → after ≡ start ++ shown_all (take (n + 1) (entries ranges))
shown-push ranges n id start before after within is was pushed =
    let es = entries ranges in
    let inside : n < length es = omega (arith, within, length-map es (λ (e : ℕ × Standing). e.0)) in
    let found = there es n inside in
    let e : ℕ × Standing = found.0 in
    let key : id ≡ e.0 = is ∙ key-at es n e found.1 in
    let here : get ranges id ≡ Some e.1 = ap (get ranges) key ∙ get-at ranges n e found.1 in
    let next : take (n + 1) es ≡ take n es ++ e ∷ [] =
    take_more es n e inside ∙ ap (λ (last : ℕ × Standing). take n es ++ last ∷ []) (get_or_from_slice_get es n e e found.1) in
    let line : after ≡ before ++ shown_line e.0 e.1 = pushed e.1 here ∙ ap (λ (id : ℕ). before ++ shown_line id e.1) key in
    let lines : shown_all (take (n + 1) es) ≡ shown_all (take n es) ++ shown_line e.0 e.1 =
    ap shown_all next ∙ flat_map-append (λ (e : ℕ × Standing). shown_line e.0 e.1) (take n es) (e ∷ [])
    ∙ ap (λ (last : List ℕ). shown_all (take n es) ++ last) (append-nil (shown_line e.0 e.1)) in
    line ∙ ap (λ (bytes : List ℕ). bytes ++ shown_line e.0 e.1) was
    ∙ append_assoc start (shown_all (take n es)) (shown_line e.0 e.1)
    ∙ ap (λ (lines : List ℕ). start ++ lines) (sym lines)

-- ---- the ranges of a state

-- entries of a document as those of its state: without where the ranges stand
abbrev of_state : List (ℕ × Standing) → List (ℕ × Range)
of_state es = changed_by (λ standing. Some (range_of standing)) es

mapped : (o : Option Standing) → option_map range_of o ≡ option_and_then (λ standing. Some (range_of standing)) o
mapped None = refl
mapped (Some standing) = refl

entries_are : (state : State) (document : Document) → IsOf state document → entries state.ranges ≡ of_state (entries document.ranges)
entries_are state document is =
    entries-changed_by (λ standing. Some (range_of standing)) document.ranges state.ranges
    (λ id. sym (is.ranges id) ∙ mapped (get document.ranges id))

-- there are as many
length-of_state : (es : List (ℕ × Standing)) → length (of_state es) ≡ length es
length-of_state [] = refl
length-of_state (e ∷ es) = omega (arith, length-of_state es)

pub count_alike : (state : State) (document : Document) → IsOf state document → length (entries document.ranges) ≡ length (entries state.ranges)
count_alike state document is = sym (ap length (entries_are state document is) ∙ length-of_state (entries document.ranges))

-- what is shown of each is shown of all
lines-of_state : (line : ℕ × Range → List ℕ) (es : List (ℕ × Standing))
    → ((n : ℕ) (e : ℕ × Standing) → slice_get es n ≡ Some e → line (e.0, range_of e.1) ≡ shown_line e.0 e.1)
    → flat_map line (of_state es) ≡ shown_all es
lines-of_state line [] same = refl
lines-of_state line (e ∷ es) same =
    ap (λ (first : List ℕ). first ++ flat_map line (of_state es)) (same 0 e refl)
    ∙ ap (λ (rest : List ℕ). shown_line e.0 e.1 ++ rest) (lines-of_state line es (λ n x at. same (suc n) x at))

-- what a document shows is what the report has of its state
pub shown : (state : State) (document : Document) → IsOf state document → shown_lines document.ranges ≡ range_lines state
shown state document is =
    let es = entries document.ranges in
    let line : (n : ℕ) (e : ℕ × Standing) → slice_get es n ≡ Some e → standing_line state.editing (e.0, range_of e.1) ≡ shown_line e.0 e.1 =
    λ n e at. ap (λ (span : Option Ends). range_line e.0 e.1.kind e.1.expand e.1.empty span) (sym (is.came.ranges e.0 e.1 (get-at document.ranges n e at)).span) in
    let lines : flat_map (standing_line state.editing) (entries state.ranges) ≡ shown_all es =
    ap (flat_map (standing_line state.editing)) (entries_are state document is)
    ∙ lines-of_state (standing_line state.editing) es line in
    ap (λ (n : ℕ). number_line (codes "ranges") n ++ shown_all es) (count_alike state document is)
    ∙ ap (λ (rest : List ℕ). number_line (codes "ranges") (length (entries state.ranges)) ++ rest) (sym lines)
