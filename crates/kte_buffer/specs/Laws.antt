-- What ties carrying to the text as one list: each place of a text to its offset, and each carrying
-- to a splice of the list.
use Rattle.std.specs.Prelude.{◌≡◌, ℕ, ◌-◌, ◌<◌, ◌≤◌, List, length, slice_get, IsTrue, ◌↔◌}
use Rattle.kte_text.specs.Primitives.{FitsText, after}
use Rattle.kte_text.specs.Flat.{flatten, splice_at, taken_by, given}
use Rattle.kte_text.specs.declared.primitive.Primitive.{Primitive}
use Rattle.kte_place.specs.Place.{is_at_or_before}
use Rattle.kte_place.specs.Entry.{carry}
use Rattle.kte_place.specs.declared.place.Place.{Place}
use Rattle.kte_place.specs.declared.place.OnInsert.{OnInsert}
use Rattle.kte_place.specs.declared.place.OnInsert.TheVariants.{Stay, Move}
use Rattle.kte_buffer.specs.Entries.{entry}
use Rattle.kte_buffer.specs.Offset.{IsInText, offset, shift, Takes}

-- the order of two places is that of their offsets
abbrev pub IsOrderOfOffsets : Type 0
IsOrderOfOffsets =
    (text : List (List ℕ)) (p q : Place) → IsInText text p → IsInText text q
    → IsTrue (is_at_or_before p q) ↔ (offset text p ≤ offset text q)

-- two places with one offset are one place
abbrev pub IsKnownByOffset : Type 0
IsKnownByOffset =
    (text : List (List ℕ)) (p q : Place) → IsInText text p → IsInText text q → offset text p ≡ offset text q → p ≡ q

-- every number up to the length of the list is the offset of a place
abbrev pub HasPlace : Type 0
HasPlace =
    (text : List (List ℕ)) (x : ℕ) → 0 < length text → x ≤ length (flatten text)
    → (p : Place) × IsInText text p × (offset text p ≡ x)

-- a place in the text is carried to one in the text after
abbrev pub StaysInside : Type 0
StaysInside =
    (p : Primitive) (text : List (List ℕ)) (place : Place) (on : OnInsert) → FitsText p text → IsInText text place
    → IsInText (after p text) (carry (entry p text) place on)

-- the offset of a place is shifted by the splice
abbrev pub CarriesOffsets : Type 0
CarriesOffsets =
    (p : Primitive) (text : List (List ℕ)) (place : Place) (on : OnInsert) → FitsText p text → IsInText text place
    → offset (after p text) (carry (entry p text) place on)
    ≡ shift (splice_at p text) (taken_by p) (length (given p)) on (offset text place)

-- a Move cursor stays before the same unit, or at the end of the text, unless that unit is taken
-- out
abbrev pub KeepsNext : Type 0
KeepsNext =
    (p : Primitive) (text : List (List ℕ)) (place : Place) → FitsText p text → IsInText text place
    → ¬ Takes p text (offset text place)
    → slice_get (flatten (after p text)) (offset (after p text) (carry (entry p text) place Move))
    ≡ slice_get (flatten text) (offset text place)

-- a Stay cursor that is not at the start of the text stays after the same unit, unless that unit is
-- taken out
abbrev pub KeepsLast : Type 0
KeepsLast =
    (p : Primitive) (text : List (List ℕ)) (place : Place) → FitsText p text → IsInText text place
    → 0 < offset text place → ¬ Takes p text (offset text place - 1)
    → slice_get (flatten (after p text)) (offset (after p text) (carry (entry p text) place Stay) - 1)
    ≡ slice_get (flatten text) (offset text place - 1)
