-- What folds do to the lines of a text, by the set of their numbers and the spans of these: as in
-- Kate, a fold hides lines after the one on which it starts. That it hides the line of its end too,
-- and when spans cross, is this project's own rule.
use Rattle.std.specs.Prelude.{◌≡◌, ℕ, zero, suc, ◌+◌, ◌<◌, ◌≤◌, min, Bool, false, not, ◌&&◌, ◌||◌, ◌==◌, List, [], ◌∷◌, length, nat_lt, nat_le, Option, None, Some, if◌then◌else◌}
use Rattle.std.specs.List.{list_any}
use Rattle.std.specs.Option.{option_map}
use Rattle.std.specs.Ordering.{nat_cmp}
use Rattle.std.specs.FinMap.{FinMap, get}
use Rattle.kte_text.specs.Texts.{line_at}
use Rattle.kte_place.specs.declared.place.Place.{Place}
use Rattle.kte_place.specs.Ends.{Ends}
use Rattle.kte_place.specs.Place.{is_at_or_before, is_before}
use Rattle.kte_fold.specs.declared.refused.FoldRefused.{FoldRefused}
use Rattle.kte_fold.specs.declared.refused.FoldRefused.TheVariants.{OutOfText, EmptySpan, Crosses}

-- the spans of the valid ranges, by their numbers
abbrev pub Spans : Type 0
Spans = FinMap nat_cmp Ends

-- a fold has this number
abbrev pub is_fold : List ℕ → ℕ → Bool
is_fold numbers id = list_any (λ n. n == id) numbers

-- a valid fold hides the lines after the one of its start, up to the one of its end
abbrev pub hides : Option Ends → ℕ → Bool
hides None line = false
hides (Some s) line = nat_lt s.start.line line && nat_le line s.end.line

-- a line is hidden: some fold hides it
abbrev pub is_hidden : Spans → List ℕ → ℕ → Bool
is_hidden spans numbers line = list_any (λ id. hides (get spans id) line) numbers

-- how many of the first lines are not hidden
abbrev pub visible_before : Spans → List ℕ → ℕ → ℕ
visible_before spans numbers zero = 0
visible_before spans numbers (suc n) =
    if is_hidden spans numbers n then visible_before spans numbers n
    else visible_before spans numbers n + 1

-- the number of a line among those that are not hidden, if it is not hidden
abbrev pub visible_of : Spans → List ℕ → ℕ → Option ℕ
visible_of spans numbers line =
    if is_hidden spans numbers line then None else Some (visible_before spans numbers line)

-- a place is strictly inside a span
abbrev pub is_within : Place → Ends → Bool
is_within p s = is_before s.start p && is_before p s.end

-- a starts strictly inside b, and b ends strictly inside a
abbrev pub overlaps : Ends → Ends → Bool
overlaps a b = is_within a.start b && is_within b.end a

-- two spans cross: each has a part of the other, and neither is inside the other
abbrev pub crosses : Ends → Ends → Bool
crosses a b = overlaps a b || overlaps b a

-- a fold crosses a span; an invalid one crosses nothing
abbrev pub is_crossed : Option Ends → Ends → Bool
is_crossed None s = false
is_crossed (Some a) s = crosses a s

-- the lesser of a number and another, if there is another
abbrev pub lesser : ℕ → Option ℕ → ℕ
lesser n None = n
lesser n (Some m) = min n m

-- the least number of the folds that cross a span
abbrev pub least_crossed : Spans → Ends → List ℕ → Option ℕ
least_crossed spans s [] = None
least_crossed spans s (id ∷ rest) =
    if is_crossed (get spans id) s then Some (lesser id (least_crossed spans s rest))
    else least_crossed spans s rest

-- a place is in a text: its line is there and has its column
abbrev pub is_in_text : List (List ℕ) → Place → Bool
is_in_text text p = nat_lt p.line (length text) && nat_le p.column (length (line_at text p.line))

-- a span is in a text
abbrev pub has_span : List (List ℕ) → Ends → Bool
has_span text s = is_in_text text s.start && is_in_text text s.end

-- Why a span may not be folded, the first cause in this order: it is not in the text; it is empty;
-- folds cross it, of which the least number is named. `None` where it may
abbrev pub refusal : List (List ℕ) → Spans → List ℕ → Ends → Option FoldRefused
refusal text spans numbers s =
    if not (has_span text s) then Some OutOfText
    else if is_at_or_before s.end s.start then Some EmptySpan
    else option_map (λ id. Crosses id) (least_crossed spans s numbers)

-- The line that has a number among those that are not hidden, of so many lines; there is none where
-- not so many of them are visible
abbrev pub IsLineOf : Spans → List ℕ → ℕ → ℕ → Option ℕ → Type 0
IsLineOf spans numbers lines visible None = visible_before spans numbers lines ≤ visible
IsLineOf spans numbers lines visible (Some line) =
    (line < lines) × (visible_of spans numbers line ≡ Some visible)
