-- Lemmas for callers: when spans keep a tree, and what a span that may be folded is.
use Rattle.std.proofs.Common.{◌≡◌, ℕ, ◌<◌, Bool, true, false, not, List, [], length, slice_index, Option, None, Some, IsTrue, if◌then◌else◌, refl, sym, subst, arith}
use Rattle.std.specs.Option.{option_map}
use Rattle.std.specs.FinMap.{get}
use Rattle.kte_place.specs.Ends.{Ends}
use Rattle.kte_place.specs.Place.{is_at_or_before}
use Rattle.kte_fold.specs.declared.refused.FoldRefused.TheVariants.{OutOfText, EmptySpan, Crosses}
use Rattle.kte_fold.specs.Folds.{Spans, is_fold, has_span, least_crossed, refusal}
use Rattle.kte_fold.specs.Tree.{KeepsTree, LiesIn, Precedes, span_at}
use Rattle.kte_fold.proofs.ListLemmas.{fold_at}

-- without folds any spans keep the tree
pub no_folds_kept : (spans : Spans) (inside : List ℕ) → KeepsTree spans [] inside
no_folds_kept spans inside = record {
  nested = λ i j h u. absurd (omega arith);
  apart = λ i j h l. absurd (omega arith);
}

-- spans keep the tree where all folds are invalid
pub invalid_kept : (spans : Spans) (numbers inside : List ℕ)
    → ((id : ℕ) → IsTrue (is_fold numbers id) → get spans id ≡ None) → KeepsTree spans numbers inside
invalid_kept spans numbers inside none = record {
  nested = λ i j h u. subst (λ (o : Option Ends). LiesIn o (span_at spans numbers i)) (sym (at j h)) tt;
  apart = λ i j h l. subst (λ (o : Option Ends). Precedes o (span_at spans numbers j)) (sym (at i (omega arith))) tt;
} where
  at : (k : ℕ) → k < length numbers → span_at spans numbers k ≡ None
  at k h = none (slice_index numbers k) (fold_at numbers (slice_index numbers k) k h refl)

-- other spans keep the tree where each fold has the same one
pub same_kept : (old new : Spans) (numbers inside : List ℕ)
    → ((id : ℕ) → IsTrue (is_fold numbers id) → get new id ≡ get old id)
    → KeepsTree old numbers inside → KeepsTree new numbers inside
same_kept old new numbers inside same kept = record {
  nested = λ i j h u.
      subst (λ (o : Option Ends). LiesIn o (span_at new numbers i)) (sym (at j h))
      (subst (λ (o : Option Ends). LiesIn (span_at old numbers j) o) (sym (at i (let l = u.0 in omega arith))) (kept.nested i j h u));
  apart = λ i j h l.
      subst (λ (o : Option Ends). Precedes o (span_at new numbers j)) (sym (at i (omega arith)))
      (subst (λ (o : Option Ends). Precedes (span_at old numbers i) o) (sym (at j h)) (kept.apart i j h l));
} where
  at : (k : ℕ) → k < length numbers → span_at new numbers k ≡ span_at old numbers k
  at k h = same (slice_index numbers k) (fold_at numbers (slice_index numbers k) k h refl)

-- a span that is not refused is crossed by no fold
pub allowed_free : (text : List (List ℕ)) (spans : Spans) (numbers : List ℕ) (s : Ends) → refusal text spans numbers s ≡ None
    → least_crossed spans s numbers ≡ None
allowed_free text spans numbers s h =
    by_tests (not (has_span text s)) (is_at_or_before s.end s.start) (least_crossed spans s numbers) h where
      by_tests : (x y : Bool) (o : Option ℕ)
          → (if x then Some OutOfText else if y then Some EmptySpan else option_map (λ id. Crosses id) o) ≡ None → o ≡ None
      by_tests true y o h = absurd (cc)
      by_tests false true o h = absurd (cc)
      by_tests false false None h = refl
      by_tests false false (Some id) h = absurd (cc)
