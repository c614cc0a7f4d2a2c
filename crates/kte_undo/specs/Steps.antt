-- Steps: primitives that were applied, each with what its inverse needs. That an edit is undone by the
-- inverses of its primitives in reverse order is KTextEditor's rule (undo manager).
use Rattle.std.specs.Prelude.{◌≡◌, ℕ, ◌+◌, ◌-◌, List, [], ◌∷◌, length, take, drop, map, reverse}
use Rattle.kte_text.specs.Texts.{IsText, line_at}
use Rattle.kte_text.specs.Primitives.{FitsText, after}
use Rattle.kte_text.specs.declared.primitive.Primitive.{Primitive}
use Rattle.kte_text.specs.declared.primitive.Primitive.TheVariants.{Wrap, Unwrap, Insert, Remove}
use Rattle.kte_undo.specs.declared.step.Step.{Step}

-- the inverse of a primitive in the text before it: it leads from the text after the primitive back to
-- this one
abbrev pub inverse : Primitive → List (List ℕ) → Primitive
inverse (Wrap line column) text = Unwrap (line + 1)
inverse (Unwrap line) text = Wrap (line - 1) (length (line_at text (line - 1)))
inverse (Insert line column units) text = Remove line column (length units)
inverse (Remove line column count) text =
    Insert line column (take count (drop column (line_at text line)))

-- the units that a removal takes from a text
abbrev pub cut_by : Primitive → List (List ℕ) → List ℕ
cut_by (Wrap line column) text = []
cut_by (Unwrap line) text = []
cut_by (Insert line column units) text = []
cut_by (Remove line column count) text = take count (drop column (line_at text line))

-- the length of the line to which an unwrap joins its own
abbrev pub old_of : Primitive → List (List ℕ) → ℕ
old_of (Wrap line column) text = 0
old_of (Unwrap line) text = length (line_at text (line - 1))
old_of (Insert line column units) text = 0
old_of (Remove line column count) text = 0

-- the step of a primitive, from the units that a removal takes and the length of the line to which an
-- unwrap joins
abbrev pub step : Primitive → List ℕ → ℕ → Step
step (Wrap line column) cut old = Step.Wrap (line + 1) column
step (Unwrap line) cut old = Step.Unwrap line old
step (Insert line column units) cut old = Step.Insert line column units
step (Remove line column count) cut old = Step.Remove line column cut

-- the primitive of a step
abbrev pub forth_of : Step → Primitive
forth_of (Step.Wrap next column) = Wrap (next - 1) column
forth_of (Step.Unwrap line old) = Unwrap line
forth_of (Step.Insert line column units) = Insert line column units
forth_of (Step.Remove line column units) = Remove line column (length units)

-- the inverse of a step
abbrev pub back_of : Step → Primitive
back_of (Step.Wrap next column) = Unwrap next
back_of (Step.Unwrap line old) = Wrap (line - 1) old
back_of (Step.Insert line column units) = Remove line column (length units)
back_of (Step.Remove line column units) = Insert line column units

-- the primitives that redo a group of steps, and those that undo it
abbrev pub redo_of : List Step → List Primitive
redo_of group = map forth_of group

abbrev pub undo_of : List Step → List Primitive
undo_of group = reverse (map back_of group)

-- the steps of primitives that are applied one after another, the first of them to this text
abbrev pub steps_along : List Primitive → List (List ℕ) → List Step
steps_along [] text = []
steps_along (primitive ∷ primitives) text =
    step primitive (cut_by primitive text) (old_of primitive text)
    ∷ steps_along primitives (after primitive text)

-- A primitive fits some text, of which these are the units that it takes and the length of the line to
-- which it joins. The units matter for a removal alone, the length for an unwrap
pub record IsOfText (primitive : Primitive) (cut : List ℕ) (old : ℕ) : Type 0 where
  pub text : List (List ℕ)
  pub whole : IsText text
  pub fits : FitsText primitive text
  pub same : step primitive cut old ≡ step primitive (cut_by primitive text) (old_of primitive text)

-- how many units the step of a primitive keeps
abbrev pub units_of : Primitive → List ℕ → ℕ
units_of (Wrap line column) cut = 0
units_of (Unwrap line) cut = 0
units_of (Insert line column units) cut = length units
units_of (Remove line column count) cut = length cut
