-- The ranges as their cursors hang, and the spans of those that are not invalid, under each number.
use Rattle.std.proofs.Common.{◌≡◌, ℕ, Bool, true, false, ◌&&◌, cond, List, [], ◌∷◌, map, T, nat_lt, Option, None, Some, inl, inr, sym, ap, ◌∙◌, subst, refl, arith}
use Rattle.std.proofs.lemmas.Bool.Decides.{nat_tests}
use Rattle.std.specs.Prelude.{option_and_then}
use Rattle.std.specs.Option.{option_map}
use Rattle.std.specs.List.{filter_map, cons_option}
use Rattle.std.proofs.lemmas.Bool.{cases_eq}
use Rattle.std.specs.Ordering.{nat_cmp, eq_by_cmp, is_lt}
use Rattle.std.specs.Cmp.{nat_cmp_total}
use Rattle.std.specs.FinMap.{get, keys, empty, get-empty, same_map, nat_cmp-IsAntisymmetric, entries, entries_sorted, find, is_sorted, entries-from_sorted, get-from_sorted, get-from_entries, get-entries}
use Rattle.std.specs.FinMap.Entries.{below_all}
use Rattle.kte_place.specs.Ends.{Ends}
use Rattle.kte_ranges.specs.Table.{Ranges}
use Rattle.kte_ranges.specs.Cursors.{Hung}
use Rattle.kte_doc.specs.Standings.{Standing, Standings, spans_of}
use Rattle.kte_doc.specs.Inside.{standing_of, standings_of}

module _ {X Y : Type 0} (f : X → Y) where
  -- each value changed
  abbrev with_values : List (ℕ × X) → List (ℕ × Y)
  with_values es = map (λ e. (e.0, f e.1)) es

  find-with_values : (q : ℕ) (es : List (ℕ × X)) → find nat_cmp q (with_values es) ≡ option_map f (find nat_cmp q es)
  find-with_values q [] = refl
  find-with_values q (e ∷ es) =
      elim (eq_by_cmp nat_cmp q e.0) as (λ b. cond b (Some (f e.1)) (find nat_cmp q (with_values es)) ≡ option_map f (cond b (Some e.1) (find nat_cmp q es))) [
        | true ↦ refl
        | false ↦ find-with_values q es
      ]

  below_all-with_values : (x : ℕ) (es : List (ℕ × X)) → below_all nat_cmp x (with_values es) ≡ below_all nat_cmp x es
  below_all-with_values x [] = refl
  below_all-with_values x (e ∷ es) = ap (λ b. is_lt (nat_cmp x e.0) && b) (below_all-with_values x es)

  is_sorted-with_values : (es : List (ℕ × X)) → is_sorted nat_cmp (with_values es) ≡ is_sorted nat_cmp es
  is_sorted-with_values [] = refl
  is_sorted-with_values (e ∷ es) =
      ap (λ b. b && is_sorted nat_cmp (with_values es)) (below_all-with_values e.0 es)
      ∙ ap (λ b. below_all nat_cmp e.0 es && b) (is_sorted-with_values es)

  keys-with_values : (es : List (ℕ × X)) → map (λ e. e.0) (with_values es) ≡ map (λ e. e.0) es
  keys-with_values [] = refl
  keys-with_values (e ∷ es) = ap (λ xs. e.0 ∷ xs) (keys-with_values es)

sorted : (hung : Hung) (ranges : Ranges) → T (is_sorted nat_cmp (with_values (standing_of hung) (entries ranges)))
sorted hung ranges = subst (λ b. T b) (sym (is_sorted-with_values (standing_of hung) (entries ranges))) (entries_sorted ranges)

-- the range of a number, as its cursors hang
pub get-standings_of : (hung : Hung) (ranges : Ranges) (id : ℕ) → get (standings_of hung ranges) id ≡ option_map (standing_of hung) (get ranges id)
get-standings_of hung ranges id =
    get-from_sorted nat_cmp (with_values (standing_of hung) (entries ranges)) id (sorted hung ranges)
    ∙ find-with_values (standing_of hung) id (entries ranges)
    ∙ ap (option_map (standing_of hung)) (sym (get-entries ranges id))

-- the numbers are those of the table
pub keys-standings_of : (hung : Hung) (ranges : Ranges) → keys (standings_of hung ranges) ≡ keys ranges
keys-standings_of hung ranges =
    ap (map (λ e. e.0)) (entries-from_sorted nat_cmp (with_values (standing_of hung) (entries ranges)) (sorted hung ranges))
    ∙ keys-with_values (standing_of hung) (entries ranges)

-- where no range is, none stands
pub standings_of-empty : (hung : Hung) → standings_of hung empty ≡ empty
standings_of-empty hung =
    same_map nat_cmp_total nat_cmp-IsAntisymmetric _ _
    (λ q. get-standings_of hung empty q ∙ ap (option_map (standing_of hung)) (get-empty nat_cmp q) ∙ sym (get-empty nat_cmp q))

-- the span of an entry, if it has one
abbrev span_of_entry : (ℕ × Standing) → Option (ℕ × Ends)
span_of_entry e = option_map (λ span. (e.0, span)) e.1.span

-- a key below all others stands at none of them
find_below : (q : ℕ) (x : ℕ) (es : List (ℕ × Standing)) → q ≡ x → below_all nat_cmp x es ≡ true → find nat_cmp q es ≡ None
find_below q x [] same below = refl
find_below q x (e ∷ es) same below =
    let first : nat_lt x e.0 ≡ true = grind (arith, nat_tests) in
    let rest = find_below q x es same (grind (arith, nat_tests)) in
    grind (arith, nat_tests)

find-spans : (q : ℕ) (es : List (ℕ × Standing)) → is_sorted nat_cmp es ≡ true
    → find nat_cmp q (filter_map span_of_entry es) ≡ option_and_then (λ range. range.span) (find nat_cmp q es)
find-spans q [] rising = refl
find-spans q (e ∷ es) rising =
    by_span q e es e.1.span refl (grind arith) (find-spans q es (grind arith)) where
      by_span : (q : ℕ) (e : ℕ × Standing) (es : List (ℕ × Standing)) (o : Option Ends) → e.1.span ≡ o → below_all nat_cmp e.0 es ≡ true
          → find nat_cmp q (filter_map span_of_entry es) ≡ option_and_then (λ range. range.span) (find nat_cmp q es)
          → find nat_cmp q (cons_option (option_map (λ span. (e.0, span)) o) (filter_map span_of_entry es))
          ≡ option_and_then (λ range. range.span) (cond (eq_by_cmp nat_cmp q e.0) (Some e.1) (find nat_cmp q es))
      by_span q e es None is below rest =
          elim (cases_eq q e.0) [
            | inl here ↦ let none = find_below q e.0 es here below in grind (arith, nat_tests)
            | inr other ↦ grind (arith, nat_tests)
          ]
      by_span q e es (Some span) is below rest =
          elim (cases_eq q e.0) [
            | inl here ↦ grind (arith, nat_tests)
            | inr other ↦ grind (arith, nat_tests)
          ]

from_T : (b : Bool) → T b → b ≡ true
from_T true h = refl
from_T false h = absurd h

-- the span of a number
pub get-spans_of : (ranges : Standings) (id : ℕ) → get (spans_of ranges) id ≡ option_and_then (λ range. range.span) (get ranges id)
get-spans_of ranges id =
    get-from_entries nat_cmp_total (filter_map span_of_entry (entries ranges)) id
    ∙ find-spans id (entries ranges) (from_T _ (entries_sorted ranges))
    ∙ ap (option_and_then (λ range. range.span)) (sym (get-entries ranges id))
