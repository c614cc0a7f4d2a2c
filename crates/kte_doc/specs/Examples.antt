-- Texts and trails for the worked examples.
use Rattle.std.specs.Prelude.{ℕ, false, List, [], ◌∷◌, Option}
use Rattle.std.specs.Option.{option_map}
use Rattle.std.specs.FinMap.{empty}
use Rattle.kte_text.specs.declared.primitive.Primitive.{Primitive}
use Rattle.kte_text.specs.declared.primitive.Primitive.TheVariants.{Insert, Remove}
use Rattle.kte_place.specs.declared.span.Expand.{Expand}
use Rattle.kte_place.specs.declared.span.Empty.TheVariants.{Allow, Void}
use Rattle.kte_place.specs.Ends.{Ends}
use Rattle.kte_place.specs.Entry.{insertion}
use Rattle.kte_place.specs.Examples.{span, expand}
use Rattle.kte_history.specs.declared.lock.Owner.TheVariants.{Editor}
use Rattle.kte_ranges.specs.declared.info.RangeKind.TheVariants.{User}
use Rattle.kte_ranges.specs.declared.info.Origin.{Origin}
use Rattle.kte_doc.specs.Trail.{stand}
use Rattle.kte_doc.specs.Documents.{Document, made_of}

-- the line `xabx`
abbrev pub xabx : List (List ℕ)
xabx = (120 ∷ 97 ∷ 98 ∷ 120 ∷ []) ∷ []

-- `R` comes right behind `ab`, and then `L` right before it
abbrev pub both_sides : List Primitive
both_sides = Insert 0 3 (82 ∷ []) ∷ Insert 0 1 (76 ∷ []) ∷ []

-- `ab` goes, and then `y` comes where it was
abbrev pub gone_and_back : List Primitive
gone_and_back = Remove 0 1 2 ∷ Insert 0 1 (121 ∷ []) ∷ []

-- a range that was made or last set at a revision
abbrev pub origin : ℕ → Ends → Origin
origin revision span = record { revision = revision; span = span }

-- where a range round the `ab` of `xabx`, made at a revision, stands after something came at both
-- sides
abbrev pub round_ab : Expand → ℕ → Option Ends
round_ab expand revision = stand xabx both_sides expand Allow (origin revision (span 0 1 0 3))

-- revision 0 of `xabx` is locked, and then `L` comes right before `ab`; the next range gets number 3
abbrev pub locked_xabx : Document
locked_xabx = record {
  text = (120 ∷ 76 ∷ 97 ∷ 98 ∷ 120 ∷ []) ∷ [];
  revision = 1;
  limit = 8;
  ranges = empty;
  next = 3;
  locks = record { owner = Editor; revision = 0 } ∷ [];
  kept = insertion 0 1 1 4 ∷ [];
}

-- where the range of a number is after ranges were made of `ab` and of the empty span before it, as
-- they were at a revision
abbrev pub made_of_ab : ℕ → ℕ → Option (Option Ends)
made_of_ab revision id =
    option_map (λ range. range.span)
    (made_of locked_xabx revision (expand false false) Void User (span 0 1 0 3 ∷ span 0 1 0 1 ∷ []) id)
