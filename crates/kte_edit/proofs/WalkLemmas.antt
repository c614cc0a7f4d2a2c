-- Counting what is between the two ends of a span, line by line.
use Rattle.std.proofs.Common.{◌≡◌, ℕ, ◌+◌, ◌-◌, ◌^◌, ◌<◌, ◌≤◌, IsTrue, List, [], ◌∷◌, length, arith, None, subst}
use Rattle.kte_text.specs.Texts.{IsText, line_at}
use Rattle.kte_text.specs.Flat.{start_of}
use Rattle.kte_text.proofs.FlatLemmas.{end_within, length-flatten}
use Rattle.kte_place.specs.Ends.{Ends}
use Rattle.kte_place.specs.Place.{is_at_or_before}
use Rattle.kte_edit.specs.Steps.{misplaced_among}
use Rattle.kte_edit.specs.Parts.{offset}
use Rattle.kte_edit.proofs.FlatLemmas.{start_of-next}
use Rattle.kte_edit.proofs.ChangeLemmas.{placed_two, in_order, offsets_in_order}

-- a size counted up to a line
abbrev Counted : List (List ℕ) → Ends → ℕ → ℕ → Type 0
Counted text span line size = start_of text span.start.line + size ≡ start_of text line + span.end.column

pub counted_is_small : (text : List (List ℕ)) (span : Ends) (line size long : ℕ) → IsText text
    → misplaced_among (span.start ∷ span.end ∷ []) text ≡ None → line < span.end.line → Counted text span line size
    → long ≡ length (line_at text line) → size + (long + 1) < 2 ^ 64
counted_is_small text span line size long whole none before is len =
    let places = placed_two text span none in
    let inside = places.end.inside in
    let within = places.end.cut.within in
    let small = whole.small in
    omega (
      arith,
      end_within text line (omega arith),
      end_within text span.end.line inside,
      length-flatten text whole.some,
    )

pub counted_next : (text : List (List ℕ)) (span : Ends) (line size long : ℕ)
    → misplaced_among (span.start ∷ span.end ∷ []) text ≡ None → line < span.end.line → Counted text span line size
    → long ≡ length (line_at text line) → Counted text span (line + 1) (size + (long + 1))
counted_next text span line size long none before is len =
    let places = placed_two text span none in
    let inside = places.end.inside in
    omega (arith, start_of-next text line (omega arith))

-- the whole size, without what is before the start in its line
pub record IsCounted (text : List (List ℕ)) (span : Ends) (size : ℕ) : Type 0 where
  pub enough : span.start.column ≤ size
  pub whole : offset text span.start + (size - span.start.column) ≡ offset text span.end

pub counted_whole : (text : List (List ℕ)) (span : Ends) (line size : ℕ) → IsTrue (is_at_or_before span.start span.end)
    → misplaced_among (span.start ∷ span.end ∷ []) text ≡ None → line ≡ span.end.line → Counted text span line size
    → IsCounted text span size
counted_whole text span line size order none last is =
    let e = subst (λ n. Counted text span n size) last is in
    let offsets = offsets_in_order text span (in_order span order) (placed_two text span none) in
    record { enough = omega arith; whole = omega arith }
