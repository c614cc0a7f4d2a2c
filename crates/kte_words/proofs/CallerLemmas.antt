-- What callers know of a command that was read.
use Rattle.std.proofs.Common.{◌≡◌, ℕ, ◌≤◌, List, Some, slice_get, refl, arith}
use Rattle.kte_words.specs.Forms.{Part, ANumber, Are, number_at}
use Rattle.kte_words.specs.Words.{Spells, check_form, gen_form}
use Rattle.kte_words.specs.declared.TheConstants.{MAX_COUNT, MAX_WORKERS}
use Rattle.kte_words.specs.declared.words.Words.TheVariants.{Check, Gen}
use Rattle.kte_words.proofs.FormLemmas.{part-at}

number-within : (parts : List Part) (words : List (List ℕ)) (at least most number : ℕ)
    → slice_get parts at ≡ Some (ANumber least most) → Are parts words
    → number ≡ number_at words at → (least ≤ number) × (number ≤ most)
number-within parts words at least most number part are is =
    let within = (part-at parts words at (ANumber least most) part are).1 in
    (omega (arith, within.at_least, is), omega (arith, within.at_most, is))

-- there is a checker, and no more than there may be
pub workers-within : (words : List (List ℕ)) (workers file : ℕ)
    → Spells words (Check workers file) → (1 ≤ workers) × (workers ≤ MAX_WORKERS)
workers-within words workers file spelled =
    number-within check_form words 1 1 MAX_WORKERS workers refl spelled.0 spelled.1

-- a script has a command, and no more than it may have
pub count-within : (words : List (List ℕ)) (number count : ℕ) → Spells words (Gen number count)
    → (1 ≤ count) × (count ≤ MAX_COUNT)
count-within words number count spelled =
    number-within gen_form words 2 1 MAX_COUNT count refl spelled.0 spelled.2
