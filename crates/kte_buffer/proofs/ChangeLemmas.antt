-- What a primitive that fits does to the size of a text.
use Rattle.std.proofs.Common.{◌≡◌, ℕ, ◌+◌, ◌≤◌, List, length, arith}
use Rattle.kte_text.specs.Texts.{IsText, size_of}
use Rattle.kte_text.specs.Primitives.{FitsText, after}
use Rattle.kte_text.proofs.PrimitiveLemmas.{size_of-after_wrap, size_of-after_unwrap, size_of-after_insert, size_of-after_remove}
use Rattle.kte_text.specs.declared.TheConstants.{MAX_SIZE}
use Rattle.kte_text.specs.declared.primitive.Primitive.{Primitive}
use Rattle.kte_text.specs.declared.primitive.Primitive.TheVariants.{Wrap, Unwrap, Insert, Remove}
use Rattle.kte_text.specs.Flat.{given, taken_by}
use Rattle.kte_buffer.proofs.CallerLemmas.{length-line_at}

-- a primitive that fits takes no more than there is, and leaves no more than may be
pub given-fits : (p : Primitive) (text : List (List ℕ)) → IsText text → FitsText p text → size_of text + length (given p) ≤ MAX_SIZE
given-fits (Wrap line column) text whole (inside, at, small) = small
given-fits (Unwrap line) text whole (joined, inside) = omega (arith, whole.small)
given-fits (Insert line column units) text whole (inside, at, small) = small
given-fits (Remove line column units) text whole (inside, at, end) = omega (arith, whole.small)

pub taken_by-fits : (p : Primitive) (text : List (List ℕ)) → FitsText p text → taken_by p ≤ size_of text
taken_by-fits (Wrap line column) text (inside, at, small) = omega arith
taken_by-fits (Unwrap line) text (joined, inside) = omega (arith, size_of-after_unwrap line text joined inside)
taken_by-fits (Insert line column units) text (inside, at, small) = omega arith
taken_by-fits (Remove line column units) text (inside, at, end) = omega (arith, end.within, length-line_at text line inside)

-- the size after a primitive that fits
pub size_of-after : (p : Primitive) (text : List (List ℕ)) → FitsText p text
    → size_of (after p text) + taken_by p ≡ size_of text + length (given p)
size_of-after (Wrap line column) text (inside, at, small) = omega (arith, size_of-after_wrap line column text inside at.within)
size_of-after (Unwrap line) text (joined, inside) = omega (arith, size_of-after_unwrap line text joined inside)
size_of-after (Insert line column units) text (inside, at, small) = omega (arith, size_of-after_insert line column units text inside)
size_of-after (Remove line column units) text (inside, at, end) =
    omega (arith, size_of-after_remove line column units text inside end.within)
