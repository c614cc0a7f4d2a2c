-- Worked examples of the definitions, each proved by computation.
use Rattle.std.proofs.Common.{◌≡◌, true, false, Option, None, Some, refl}
use Rattle.kte_place.specs.declared.place.TheConstants.{MAX_COLUMN, MAX_REACH}
use Rattle.kte_place.specs.declared.entry.TheConstants.{MAX_LENGTH}
use Rattle.kte_place.specs.declared.place.OnInsert.TheVariants.{Stay, Move}
use Rattle.kte_place.specs.declared.span.Expand.{Expand}
use Rattle.kte_place.specs.declared.span.Empty.TheVariants.{Allow, Void}
use Rattle.kte_place.specs.Ends.{Ends}
use Rattle.kte_place.specs.Place.{at, is_at_or_before}
use Rattle.kte_place.specs.Entry.{carry, wrap, unwrap, insertion, removal}
use Rattle.kte_place.specs.Span.{carry_span, made}
use Rattle.kte_place.specs.Examples.{span, expand}

-- the limits
greatest_column : MAX_COLUMN ≡ 4611686018427387904
greatest_column = refl

greatest_reach : MAX_REACH ≡ 1073741824
greatest_reach = refl

greatest_length : MAX_LENGTH ≡ 67108864
greatest_length = refl

-- places are ordered by line first
line_before_column : is_at_or_before (at 0 9) (at 1 0) ≡ true
line_before_column = refl

-- cursors at a cut
stays_at_a_cut : carry (wrap 1 3) (at 1 3) Stay ≡ at 1 3
stays_at_a_cut = refl

moves_at_a_cut : carry (wrap 1 3) (at 1 3) Move ≡ at 2 0
moves_at_a_cut = refl

-- a cursor on a line that is joined to one of three units
joined : carry (unwrap 1 3) (at 1 2) Stay ≡ at 0 5
joined = refl

-- a cursor inside what is removed
inside_a_removal : carry (removal 0 2 5) (at 0 6) Move ≡ at 0 2
inside_a_removal = refl

-- a cursor beyond the end of a line of three units, which grows to seven and to twelve
beyond_the_end : carry (insertion 0 3 4 3) (at 0 10) Move ≡ at 0 10
beyond_the_end = refl

grown_past : carry (insertion 0 3 9 3) (at 0 10) Move ≡ at 0 12
grown_past = refl

-- the range of the two letters inside `xabx` after one unit is inserted at its end, and then one at
-- its start
abbrev after_both : Expand → Option Ends
after_both x =
    let at_end = carry_span (insertion 0 3 1 4) (Some (span 0 1 0 3)) x Allow in
    carry_span (insertion 0 1 1 5) at_end x Allow

grows_at_neither_end : after_both (expand false false) ≡ Some (span 0 2 0 4)
grows_at_neither_end = refl

grows_at_both_ends : after_both (expand true true) ≡ Some (span 0 1 0 5)
grows_at_both_ends = refl

-- a range that starts beyond the end of a line, after the line of its end is joined to that line
emptied : carry_span (unwrap 1 3) (Some (span 0 10 1 2)) (expand false false) Allow ≡ Some (span 0 10 0 10)
emptied = refl

made_invalid : carry_span (unwrap 1 3) (Some (span 0 10 1 2)) (expand false false) Void ≡ None
made_invalid = refl

-- a range made at the start of line 2, in texts without and with that line
outside_the_text : made 2 (span 0 0 2 0) Allow ≡ None
outside_the_text = refl

inside_the_text : made 3 (span 0 0 2 0) Allow ≡ Some (span 0 0 2 0)
inside_the_text = refl
