-- What a document and its state say alike of the folds: where each range stands, and which are folds.
use Rattle.std.proofs.Common.{◌≡◌, ℕ, Bool, true, false, cond, List, [], ◌∷◌, T, nat_lt, Option, None, Some, inl, inr, sym, ap, subst, ◌∙◌, refl, arith}
use Rattle.std.specs.Prelude.{option_and_then}
use Rattle.std.specs.Option.{option_map}
use Rattle.std.specs.List.{filter_map, cons_option}
use Rattle.std.specs.Ordering.{nat_cmp, eq_by_cmp, is_lt}
use Rattle.std.specs.Cmp.{nat_cmp_total}
use Rattle.std.specs.FinMap.{FinMap, get, same_map, nat_cmp-IsAntisymmetric, entries, entries_sorted, find, from_sorted, is_sorted, entries-from_sorted, get-from_sorted, get-from_entries, get-entries}
use Rattle.std.specs.FinMap.Entries.{below_all}
use Rattle.std.proofs.lemmas.Bool.{cases_eq}
use Rattle.std.proofs.lemmas.Bool.Decides.{nat_tests}
use Rattle.kte_doc.specs.Documents.{Document}
use Rattle.kte_doc.specs.Standings.{Standing, spans_of}
use Rattle.kte_doc.proofs.Maps.{get-spans_of}
use Rattle.kte_fold.specs.Folds.{Spans, is_fold}
use Rattle.kte_fold.specs.Tree.{Outline, KeepsTree}
use Rattle.kte_core.specs.State.{Range, State, stands}
use Rattle.kte_core.specs.Folds.{is_fold_kind, only_fold, folds_of, spans_now}
use Rattle.kte_core.specs.Shown.{IsOf, AreFoldsOf, range_of, is_standing_fold}

pub from_T : (b : Bool) → T b → b ≡ true
from_T true h = refl
from_T false h = absurd h

module _ {X : Type 0} where
  -- a key below all others stands at none of them
  find_below : (q x : ℕ) (es : List (ℕ × X)) → q ≡ x → below_all nat_cmp x es ≡ true → find nat_cmp q es ≡ None
  find_below q x [] same below = refl
  find_below q x (e ∷ es) same below =
      let first : nat_lt x e.0 ≡ true = grind (arith, nat_tests) in
      let rest = find_below q x es same (grind (arith, nat_tests)) in
      grind (arith, nat_tests)

  module _ {Y : Type 0} (f : X → Option Y) where
    -- entries of which some are left out, and the values of the others changed
    abbrev pub changed_by : List (ℕ × X) → List (ℕ × Y)
    changed_by es = filter_map (λ e. option_map (λ y. (e.0, y)) (f e.1)) es

    -- the value of a key then
    find-changed_by : (q : ℕ) (es : List (ℕ × X)) → is_sorted nat_cmp es ≡ true
        → find nat_cmp q (changed_by es) ≡ option_and_then f (find nat_cmp q es)
    find-changed_by q [] rising = refl
    find-changed_by q (e ∷ es) rising =
        by_value q e es (f e.1) refl (grind arith) (find-changed_by q es (grind arith)) where
          by_value : (q : ℕ) (e : ℕ × X) (es : List (ℕ × X)) (o : Option Y) → f e.1 ≡ o → below_all nat_cmp e.0 es ≡ true
              → find nat_cmp q (changed_by es) ≡ option_and_then f (find nat_cmp q es)
              → find nat_cmp q (cons_option (option_map (λ y. (e.0, y)) o) (changed_by es))
              ≡ option_and_then f (cond (eq_by_cmp nat_cmp q e.0) (Some e.1) (find nat_cmp q es))
          by_value q e es None is below rest =
              elim (cases_eq q e.0) [
                | inl here ↦ let none = find_below q e.0 es here below in grind (arith, nat_tests)
                | inr other ↦ grind (arith, nat_tests)
              ]
          by_value q e es (Some y) is below rest =
              elim (cases_eq q e.0) [
                | inl here ↦ grind (arith, nat_tests)
                | inr other ↦ grind (arith, nat_tests)
              ]

    -- their keys rise still
    below_all-changed_by : (x : ℕ) (es : List (ℕ × X)) → below_all nat_cmp x es ≡ true → below_all nat_cmp x (changed_by es) ≡ true
    below_all-changed_by x [] below = refl
    below_all-changed_by x (e ∷ es) below =
        by_value (f e.1) (grind arith) (below_all-changed_by x es (grind arith)) where
          by_value : (o : Option Y) → is_lt (nat_cmp x e.0) ≡ true → below_all nat_cmp x (changed_by es) ≡ true
              → below_all nat_cmp x (cons_option (option_map (λ y. (e.0, y)) o) (changed_by es)) ≡ true
          by_value None first rest = rest
          by_value (Some y) first rest = grind arith

    is_sorted-changed_by : (es : List (ℕ × X)) → is_sorted nat_cmp es ≡ true → is_sorted nat_cmp (changed_by es) ≡ true
    is_sorted-changed_by [] rising = refl
    is_sorted-changed_by (e ∷ es) rising =
        by_value (f e.1) (below_all-changed_by e.0 es (grind arith)) (is_sorted-changed_by es (grind arith)) where
          by_value : (o : Option Y) → below_all nat_cmp e.0 (changed_by es) ≡ true → is_sorted nat_cmp (changed_by es) ≡ true
              → is_sorted nat_cmp (cons_option (option_map (λ y. (e.0, y)) o) (changed_by es)) ≡ true
          by_value None first rest = rest
          by_value (Some y) first rest = grind arith

    -- a map that has the values of another so changed has its entries so changed
    pub entries-changed_by : (old : FinMap nat_cmp X) (new : FinMap nat_cmp Y) → ((id : ℕ) → get new id ≡ option_and_then f (get old id))
        → entries new ≡ changed_by (entries old)
    entries-changed_by old new changed =
        let es = changed_by (entries old) in
        let old_rising = from_T _ (entries_sorted old) in
        let rising : T (is_sorted nat_cmp es) = subst T (sym (is_sorted-changed_by (entries old) old_rising)) tt in
        let same : new ≡ from_sorted es =
        same_map nat_cmp_total nat_cmp-IsAntisymmetric new (from_sorted es)
        (λ q. changed q ∙ ap (option_and_then f) (get-entries old q) ∙ sym (find-changed_by q (entries old) old_rising)
        ∙ sym (get-from_sorted nat_cmp es q rising)) in
        ap entries same ∙ entries-from_sorted nat_cmp es rising

-- where the range of a number stands now
pub get-spans_now : (state : State) (id : ℕ) → get (spans_now state) id ≡ option_and_then (stands state.editing) (get state.ranges id)
get-spans_now state id =
    get-from_entries nat_cmp_total _ id
    ∙ find-changed_by (stands state.editing) id (entries state.ranges) (from_T _ (entries_sorted state.ranges))
    ∙ ap (option_and_then (stands state.editing)) (sym (get-entries state.ranges id))

-- the range of a number is a fold, if there is one
abbrev pub is_range_fold : Option Range → Bool
is_range_fold None = false
is_range_fold (Some range) = is_fold_kind range.kind

is_fold-entries : (q : ℕ) (es : List (ℕ × Range)) → is_sorted nat_cmp es ≡ true
    → is_fold (filter_map (λ e. option_map (λ range. e.0) (only_fold (Some e.1))) es) q ≡ is_range_fold (find nat_cmp q es)
is_fold-entries q [] rising = refl
is_fold-entries q (e ∷ es) rising =
    by_kind q e es (is_fold_kind e.1.kind) refl (grind arith) (is_fold-entries q es (grind arith)) where
      by_kind : (q : ℕ) (e : ℕ × Range) (es : List (ℕ × Range)) (b : Bool) → is_fold_kind e.1.kind ≡ b → below_all nat_cmp e.0 es ≡ true
          → is_fold (filter_map (λ e. option_map (λ range. e.0) (only_fold (Some e.1))) es) q ≡ is_range_fold (find nat_cmp q es)
          → is_fold (cons_option (option_map (λ (range : Range). e.0) (cond b (Some e.1) None)) (filter_map (λ e. option_map (λ range. e.0) (only_fold (Some e.1))) es)) q
          ≡ is_range_fold (cond (eq_by_cmp nat_cmp q e.0) (Some e.1) (find nat_cmp q es))
      by_kind q e es false is below rest =
          elim (cases_eq q e.0) [
            | inl here ↦ let none = find_below q e.0 es here below in grind (arith, nat_tests)
            | inr other ↦ grind (arith, nat_tests)
          ]
      by_kind q e es true is below rest =
          elim (cases_eq q e.0) [
            | inl here ↦ grind (arith, nat_tests)
            | inr other ↦ grind (arith, nat_tests)
          ]

-- a number is a fold's if its range is a fold
pub is_fold-folds_of : (ranges : FinMap nat_cmp Range) (id : ℕ) → is_fold (folds_of ranges) id ≡ is_range_fold (get ranges id)
is_fold-folds_of ranges id =
    is_fold-entries id (entries ranges) (from_T _ (entries_sorted ranges))
    ∙ ap is_range_fold (sym (get-entries ranges id))

-- the ranges stand in the document where they do in the state
pub spans_alike : (state : State) (document : Document) → IsOf state document → spans_of document.ranges ≡ spans_now state
spans_alike state document shown =
    same_map nat_cmp_total nat_cmp-IsAntisymmetric _ _
    (λ id. get-spans_of document.ranges id
    ∙ at id (get document.ranges id) refl
    ∙ ap (option_and_then (stands state.editing)) (shown.ranges id)
    ∙ sym (get-spans_now state id)) where
      at : (id : ℕ) (o : Option Standing) → get document.ranges id ≡ o
          → option_and_then (λ (standing : Standing). standing.span) o ≡ option_and_then (stands state.editing) (option_map range_of o)
      at id None is = refl
      at id (Some standing) is = (shown.came.ranges id standing is).span

same_kind : (o : Option Standing) → is_standing_fold o ≡ is_range_fold (option_map range_of o)
same_kind None = refl
same_kind (Some standing) = refl

-- the folds of the document are those of the state
pub folds_alike : (state : State) (document : Document) (folds : Outline) → IsOf state document → AreFoldsOf document folds
    → (id : ℕ) → is_fold folds.numbers id ≡ is_fold (folds_of state.ranges) id
folds_alike state document folds shown are id =
    are.numbers id
    ∙ same_kind (get document.ranges id)
    ∙ ap is_range_fold (shown.ranges id)
    ∙ sym (is_fold-folds_of state.ranges id)

-- .. and where they stand in the state keeps their tree
pub tree_now : (state : State) (document : Document) (folds : Outline) → IsOf state document → AreFoldsOf document folds
    → KeepsTree (spans_now state) folds.numbers folds.inside
tree_now state document folds shown are =
    subst (λ (spans : Spans). KeepsTree spans folds.numbers folds.inside) (spans_alike state document shown) are.tree

-- .. as it does in the document, for callers that have both
pub tree_shown : (state : State) (document : Document) (folds : Outline) → IsOf state document
    → KeepsTree (spans_now state) folds.numbers folds.inside → KeepsTree (spans_of document.ranges) folds.numbers folds.inside
tree_shown state document folds shown tree =
    subst (λ (spans : Spans). KeepsTree spans folds.numbers folds.inside) (sym (spans_alike state document shown)) tree
