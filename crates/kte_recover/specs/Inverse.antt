-- What takes a primitive back. Source: KTextEditor's undo, which makes the opposite change
use Rattle.std.specs.Prelude.{◌≡◌, ℕ, ◌+◌, ◌-◌, false, List, [], ◌∷◌, length, take, drop, None}
use Rattle.kte_text.specs.Texts.{line_at}
use Rattle.kte_text.specs.Primitives.{after, is_empty, misfit}
use Rattle.kte_text.specs.declared.primitive.Primitive.{Primitive}
use Rattle.kte_text.specs.declared.primitive.Primitive.TheVariants.{Wrap, Unwrap, Insert, Remove}

-- the primitive that takes back one that was applied to this text
abbrev pub inverse : Primitive → List (List ℕ) → Primitive
inverse (Wrap line column) text = Unwrap (line + 1)
inverse (Unwrap line) text = Wrap (line - 1) (length (line_at text (line - 1)))
inverse (Insert line column units) text = Remove line column (length units)
inverse (Remove line column count) text =
    Insert line column (take count (drop column (line_at text line)))

-- the text after these primitives, the last one first
abbrev pub undone : List Primitive → List (List ℕ) → List (List ℕ)
undone [] text = text
undone (primitive ∷ primitives) text = after primitive (undone primitives text)

-- each of these primitives, the last one first, fits where it is applied, and changes the text
abbrev pub CanUndo : List Primitive → List (List ℕ) → Type 0
CanUndo [] text = Unit {0}
CanUndo (primitive ∷ primitives) text =
    CanUndo primitives text × (misfit primitive (undone primitives text) ≡ None)
    × (is_empty primitive ≡ false)
