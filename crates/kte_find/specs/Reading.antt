-- How far the brackets of a text have been read.
use Rattle.std.specs.Prelude.{◌≡◌, ◌-◌, Bool, true, false, List, [], ◌∷◌, ◌++◌, length, slice_get, take, Option, Some, None, if◌then◌else◌}
use Rattle.std.specs.Option.{option_map_or}
use Rattle.kte_place.specs.Ends.{Ends}
use Rattle.kte_find.specs.declared.found.TheConstants.{MAX_FINDINGS}
use Rattle.kte_find.specs.Brackets.{Placed, is_opening, is_closing, closes, Balanced, IsLone}
use Rattle.kte_find.specs.Findings.{span_of}

-- a closing bracket takes the last opening one off a stack, if that is of its kind
abbrev pub taken_off : List Placed → Placed → Option (List Placed)
taken_off [] unit = None
taken_off (opening ∷ stack) unit = if closes opening.unit unit.unit then Some stack else None

-- the stack after a unit, the last opening bracket first; `None` where a closing bracket has none
abbrev pub stacked : List Placed → Placed → Option (List Placed)
stacked stack unit =
    if is_opening unit.unit then Some (unit ∷ stack)
    else if is_closing unit.unit then taken_off stack unit
    else Some stack

-- the stack after these units
abbrev pub stack_after : Option (List Placed) → List Placed → Option (List Placed)
stack_after None units = None
stack_after (Some stack) [] = Some stack
stack_after (Some stack) (unit ∷ units) = stack_after (stacked stack unit) units

-- these opening brackets, the first one first, each followed by a balanced text
abbrev pub IsOpen : List Placed → List Placed → Type 0
IsOpen [] units = Balanced units
IsOpen (opening ∷ opened) units =
    (before : List Placed) × (after : List Placed) × (units ≡ before ++ opening ∷ after)
    × Balanced before × (is_opening opening.unit ≡ true) × IsOpen opened after

-- the last of these opening brackets is one that the unit closes
abbrev pub closes_last : List Placed → Placed → Bool
closes_last opened unit =
    option_map_or (λ opening. closes opening.unit unit.unit)
    (slice_get opened (length opened - 1)) false

-- the spans of those of the units that are brackets in no pair of the text
pub data Picks (text : List Placed) : List Placed → List Ends → Type 0 where
  none : Picks text [] []
  skip : (unit : Placed) (units : List Placed) (spans : List Ends)
      → ¬ (IsLone text unit) → Picks text units spans → Picks text (unit ∷ units) spans
  pick : (unit : Placed) (units : List Placed) (spans : List Ends)
      → IsLone text unit → Picks text units spans → Picks text (unit ∷ units) (span_of unit ∷ spans)

-- no unit stands twice in the list
abbrev pub IsSplitOnce : List Placed → Type 0
IsSplitOnce text =
    (before other_before : List Placed) (unit : Placed) (after other_after : List Placed)
    → text ≡ before ++ unit ∷ after → text ≡ other_before ++ unit ∷ other_after
    → (before ≡ other_before) × (after ≡ other_after)

-- No pair begins in these units and ends after them, so it is known which of their brackets are in
-- no pair, whatever follows
pub record IsSealed (units : List Placed) (spans : List Ends) : Type 0 where
  pub blocks : (before tail : List Placed) → units ≡ before ++ tail → ¬ (tail ≡ [])
      → stack_after (Some []) tail ≡ None
  pub picks : (text after : List Placed) → IsSplitOnce text → text ≡ units ++ after
      → Picks text units spans

-- after these units these opening brackets have no closing one yet, and these spans are found
pub record HasRead (units opened : List Placed) (found : List Ends) : Type 0 where
  pub sealed : List Placed
  pub rest : List Placed
  pub spans : List Ends
  pub whole : units ≡ sealed ++ rest
  pub seals : IsSealed sealed spans
  pub opens : IsOpen opened rest
  pub first : found ≡ take MAX_FINDINGS spans
