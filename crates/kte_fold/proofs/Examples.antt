-- Worked examples of the definitions, each proved by computation.
use Rattle.std.proofs.Common.{◌≡◌, ℕ, true, false, List, [], ◌∷◌, None, Some, refl}
use Rattle.std.specs.Prelude.{codes}
use Rattle.std.specs.FinMap.{get}
use Rattle.kte_place.specs.Examples.{span}
use Rattle.kte_fold.specs.declared.refused.FoldRefused.TheVariants.{OutOfText, EmptySpan, Crosses}
use Rattle.kte_fold.specs.Folds.{Spans, hides, is_hidden, visible_before, visible_of, crosses, is_crossed, least_crossed, refusal}
use Rattle.kte_fold.specs.Examples.{three_spans}
use Rattle.kte_fold.proofs.SpanLemmas.{three_are}

-- four lines of one letter each
four_lines : List (List ℕ)
four_lines = codes "a" ∷ codes "b" ∷ codes "c" ∷ codes "d" ∷ []

-- fold 1 goes from the end of line 0 to the start of line 2
one_fold : Spans
one_fold = three_spans (Some (span 0 1 2 0)) None None

fold_1 : get one_fold 1 ≡ Some (span 0 1 2 0)
unfolding one_fold
fold_1 = three_are (Some (span 0 1 2 0)) None None 1

fold_2 : get one_fold 2 ≡ None
unfolding one_fold
fold_2 = three_are (Some (span 0 1 2 0)) None None 2

-- it hides the lines after its first, up to its last
first_is_shown : is_hidden one_fold (1 ∷ []) 0 ≡ false
first_is_shown = rw fold_1 refl

next_is_hidden : is_hidden one_fold (1 ∷ []) 1 ≡ true
next_is_hidden = rw fold_1 refl

last_is_hidden : is_hidden one_fold (1 ∷ []) 2 ≡ true
last_is_hidden = rw fold_1 refl

after_is_shown : is_hidden one_fold (1 ∷ []) 3 ≡ false
after_is_shown = rw fold_1 refl

two_are_shown : visible_before one_fold (1 ∷ []) 4 ≡ 2
two_are_shown = rw fold_1 refl

second_shown : visible_of one_fold (1 ∷ []) 3 ≡ Some 1
second_shown = rw fold_1 refl

hidden_has_none : visible_of one_fold (1 ∷ []) 2 ≡ None
hidden_has_none = rw fold_1 refl

unfolded : visible_before one_fold [] 4 ≡ 4
unfolded = refl

-- a range that is not folded, and a fold that is invalid, hide nothing
not_folded : is_hidden one_fold (2 ∷ []) 1 ≡ false
not_folded = rw fold_2 refl

-- a fold within one line hides nothing
within_a_line : hides (Some (span 1 0 1 1)) 1 ≡ false
within_a_line = refl

-- a span from line 1 to line 3 crosses it
refused : refusal four_lines one_fold (1 ∷ []) (span 1 0 3 1) ≡ Some (Crosses 1)
unfolding four_lines
refused = rw fold_1 refl

-- .. and may be folded where it is no fold
allowed : refusal four_lines one_fold [] (span 1 0 3 1) ≡ None
unfolding four_lines
allowed = refl

-- spans that touch, nest, share an end or are equal do not cross
touching : crosses (span 0 1 2 0) (span 2 0 3 0) ≡ false
touching = refl

nested : crosses (span 0 1 3 0) (span 1 0 2 0) ≡ false
nested = refl

same_start : crosses (span 0 1 2 0) (span 0 1 3 0) ≡ false
same_start = refl

same_end : crosses (span 0 1 3 0) (span 1 0 3 0) ≡ false
same_end = refl

equal : crosses (span 0 1 3 0) (span 0 1 3 0) ≡ false
equal = refl

crossing_before : crosses (span 0 1 2 0) (span 1 0 3 0) ≡ true
crossing_before = refl

crossing_after : crosses (span 1 0 3 0) (span 0 1 2 0) ≡ true
crossing_after = refl

invalid_crosses_nothing : is_crossed None (span 1 0 3 0) ≡ false
invalid_crosses_nothing = refl

abbrev three : Spans
three = three_spans (Some (span 0 0 0 1)) (Some (span 0 0 2 0)) (Some (span 0 1 2 0))

-- of two folds that cross a span the least number counts
least_of_two : least_crossed three (span 1 0 3 0) (3 ∷ 1 ∷ 2 ∷ []) ≡ Some 2
least_of_two =
    rw (
      three_are (Some (span 0 0 0 1)) (Some (span 0 0 2 0)) (Some (span 0 1 2 0)) 3,
      three_are (Some (span 0 0 0 1)) (Some (span 0 0 2 0)) (Some (span 0 1 2 0)) 1,
      three_are (Some (span 0 0 0 1)) (Some (span 0 0 2 0)) (Some (span 0 1 2 0)) 2,
    ) refl

-- spans outside the text, and an empty one
no_line : refusal four_lines one_fold [] (span 3 0 4 0) ≡ Some OutOfText
unfolding four_lines
no_line = refl

no_column : refusal four_lines one_fold [] (span 0 2 1 0) ≡ Some OutOfText
unfolding four_lines
no_column = refl

out_before_empty : refusal four_lines one_fold [] (span 4 0 4 0) ≡ Some OutOfText
unfolding four_lines
out_before_empty = refl

empty_span : refusal four_lines one_fold (1 ∷ []) (span 1 1 1 1) ≡ Some EmptySpan
unfolding four_lines
empty_span = refl
