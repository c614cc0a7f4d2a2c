-- Worked examples of the definitions, each proved by computation.
use Rattle.std.proofs.Common.{◌≡◌, [], ◌∷◌, Some, None, codes, refl}
use Rattle.kte_text.specs.Primitives.{after_all}
use Rattle.kte_text.specs.declared.primitive.Primitive.TheVariants.{Wrap, Unwrap, Insert, Remove}
use Rattle.kte_text.specs.declared.primitive.Misfit.TheVariants.{NoLine, NoColumn, SplitsPair, FirstLine}
use Rattle.kte_place.specs.Place.{at}
use Rattle.kte_place.specs.Examples.{span}
use Rattle.kte_edit.specs.Steps.{change_misfit, steps_of}
use Rattle.kte_edit.specs.Parts.{replaced}
use Rattle.kte_edit.specs.declared.change.Change.TheVariants as Change

-- a text of two lines, and what it leaves of the one line that it is inserted into
two_lines : steps_of (Change.Insert (at 0 1) (codes "a" ∷ codes "b" ∷ [])) (codes "xy" ∷ [])
    ≡ Insert 0 1 (codes "a") ∷ Wrap 0 2 ∷ Insert 1 0 (codes "b") ∷ []
two_lines = refl

two_lines_left : after_all (steps_of (Change.Insert (at 0 1) (codes "a" ∷ codes "b" ∷ [])) (codes "xy" ∷ [])) (codes "xy" ∷ [])
    ≡ codes "xa" ∷ codes "by" ∷ []
two_lines_left = refl

-- a line end alone, and nothing at all
line_end : steps_of (Change.Insert (at 0 1) ([] ∷ [] ∷ [])) (codes "xy" ∷ []) ≡ Wrap 0 1 ∷ []
line_end = refl

nothing : steps_of (Change.Insert (at 0 1) ([] ∷ [])) (codes "xy" ∷ []) ≡ []
nothing = refl

-- a replacement over three lines
three_lines : steps_of (Change.Replace (span 0 0 2 0) (codes "z" ∷ [])) (codes "a" ∷ codes "b" ∷ codes "c" ∷ [])
    ≡ Remove 1 0 1 ∷ Unwrap 2 ∷ Remove 0 0 1 ∷ Unwrap 1 ∷ Insert 0 0 (codes "z") ∷ []
three_lines = refl

three_lines_left : after_all (steps_of (Change.Replace (span 0 0 2 0) (codes "z" ∷ [])) (codes "a" ∷ codes "b" ∷ codes "c" ∷ []))
    (codes "a" ∷ codes "b" ∷ codes "c" ∷ []) ≡ codes "zc" ∷ []
three_lines_left = refl

three_lines_replaced : replaced (codes "a" ∷ codes "b" ∷ codes "c" ∷ []) (span 0 0 2 0) (codes "z") ≡ codes "zc"
three_lines_replaced = refl

-- a removal within a line, and one to the next line
one_line : steps_of (Change.Remove (span 0 1 0 2)) (codes "abc" ∷ []) ≡ Remove 0 1 1 ∷ []
one_line = refl

next_line : steps_of (Change.Remove (span 0 1 1 2)) (codes "abc" ∷ codes "def" ∷ [])
    ≡ Remove 1 0 2 ∷ Remove 0 1 2 ∷ Unwrap 1 ∷ []
next_line = refl

-- the start is judged whole before the end
start_first : change_misfit (Change.Remove (span 0 1 5 0)) ((0xD83D ∷ 0xDE00 ∷ []) ∷ []) ≡ Some (SplitsPair 0 1)
start_first = refl

end_next : change_misfit (Change.Remove (span 0 0 5 0)) (codes "ab" ∷ []) ≡ Some (NoLine 5)
end_next = refl

end_column : change_misfit (Change.Replace (span 0 0 0 3) (codes "z" ∷ [])) (codes "ab" ∷ []) ≡ Some (NoColumn 0 3)
end_column = refl

-- a line that is not there, and the first one, are not joined
no_line : change_misfit (Change.Unwrap 1) (codes "ab" ∷ []) ≡ Some (NoLine 1)
no_line = refl

first_line : change_misfit (Change.Unwrap 0) (codes "ab" ∷ []) ≡ Some FirstLine
first_line = refl

fits : change_misfit (Change.Unwrap 1) (codes "ab" ∷ [] ∷ []) ≡ None
fits = refl

-- four lines inserted, one of them empty
four_lines : steps_of (Change.Insert (at 1 1) (codes "a" ∷ [] ∷ codes "bc" ∷ codes "d" ∷ [])) (codes "x" ∷ codes "yz" ∷ [])
    ≡ Insert 1 1 (codes "a") ∷ Wrap 1 2 ∷ Wrap 2 0 ∷ Insert 3 0 (codes "bc") ∷ Wrap 3 2 ∷ Insert 4 0 (codes "d") ∷ []
four_lines = refl

-- a removal over five lines: those between go from the last to the first, and one of them is empty
five_lines : steps_of (Change.Remove (span 0 1 4 1)) (codes "ab" ∷ [] ∷ codes "cde" ∷ codes "f" ∷ codes "gh" ∷ [])
    ≡ Remove 4 0 1 ∷ Remove 3 0 1 ∷ Unwrap 4 ∷ Remove 2 0 3 ∷ Unwrap 3 ∷ Unwrap 2 ∷ Remove 0 1 1 ∷ Unwrap 1 ∷ []
five_lines = refl

five_lines_left : after_all (steps_of (Change.Remove (span 0 1 4 1)) (codes "ab" ∷ [] ∷ codes "cde" ∷ codes "f" ∷ codes "gh" ∷ []))
    (codes "ab" ∷ [] ∷ codes "cde" ∷ codes "f" ∷ codes "gh" ∷ []) ≡ codes "ah" ∷ []
five_lines_left = refl

-- a line end alone is removed, and replaced by another
border : steps_of (Change.Remove (span 0 2 1 0)) (codes "ab" ∷ codes "cd" ∷ []) ≡ Unwrap 1 ∷ []
border = refl

border_again : steps_of (Change.Replace (span 0 2 1 0) ([] ∷ [] ∷ [])) (codes "ab" ∷ codes "cd" ∷ []) ≡ Unwrap 1 ∷ Wrap 0 2 ∷ []
border_again = refl

-- nothing replaced by nothing is judged too
nothing_again : steps_of (Change.Replace (span 0 1 0 1) ([] ∷ [])) (codes "ab" ∷ []) ≡ []
nothing_again = refl

nothing_misplaced : change_misfit (Change.Replace (span 0 3 0 3) ([] ∷ [])) (codes "ab" ∷ []) ≡ Some (NoColumn 0 3)
nothing_misplaced = refl

-- a pair is split at the end of a span, on its line and on a later one
end_splits : change_misfit (Change.Remove (span 0 0 0 1)) ((0xD83D ∷ 0xDE00 ∷ []) ∷ []) ≡ Some (SplitsPair 0 1)
end_splits = refl

later_end_splits : change_misfit (Change.Replace (span 0 0 1 1) (codes "z" ∷ [])) (codes "a" ∷ (0xD83D ∷ 0xDE00 ∷ []) ∷ []) ≡ Some (SplitsPair 1 1)
later_end_splits = refl
