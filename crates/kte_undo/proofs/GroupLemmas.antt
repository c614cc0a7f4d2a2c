-- The primitives of a group, one by one.
use Rattle.std.proofs.Common.{map, reverse, ◌≡◌, ℕ, ◌+◌, ◌<◌, List, [], ◌∷◌, ◌++◌, length, take, get_or, ap, ◌∙◌}
use Rattle.std.proofs.lemmas.List.{take_more, map-append, reverse-append}
use Rattle.kte_text.specs.Texts.{line_at}
use Rattle.kte_text.specs.Units.{IsLine}
use Rattle.kte_text.specs.declared.primitive.Primitive.TheVariants.{Remove}
use Rattle.kte_text.proofs.LineLemmas.{IsLine-between}
use Rattle.std.proofs.lemmas.List.Elements.{All-get_or}
use Rattle.kte_undo.specs.Steps.{IsOfText, back_of, forth_of, redo_of, undo_of, cut_by}
use Rattle.kte_undo.specs.declared.step.Step.{Step}

-- the inverse of one step more comes first
pub undo_of-more : (group : List Step) (n : ℕ) (d : Step) → n < length group
    → undo_of (take (n + 1) group) ≡ back_of (get_or group n d) ∷ undo_of (take n group)
undo_of-more group n d inside =
    ap undo_of (take_more group n d inside)
    ∙ ap reverse (map-append back_of (take n group) (get_or group n d ∷ []))
    ∙ reverse-append (map back_of (take n group)) (back_of (get_or group n d) ∷ [])

-- the primitive of one step more comes last
pub redo_of-more : (group : List Step) (n : ℕ) (d : Step) → n < length group
    → redo_of (take (n + 1) group) ≡ redo_of (take n group) ++ forth_of (get_or group n d) ∷ []
redo_of-more group n d inside =
    ap redo_of (take_more group n d inside) ∙ map-append forth_of (take n group) (get_or group n d ∷ [])

-- the units that a removal takes from a text are a line
pub cut_is_line : (line column count : ℕ) (cut : List ℕ) (old : ℕ) → IsOfText (Remove line column count) cut old → IsLine cut
cut_is_line line column count cut old told =
    let fits = told.fits in
    let e : cut ≡ cut_by (Remove line column count) told.text = let s = told.same in cc in
    rw e
    (IsLine-between (line_at told.text line) column count (All-get_or IsLine told.text line [] fits.0 told.whole.whole) fits.1 fits.2)
