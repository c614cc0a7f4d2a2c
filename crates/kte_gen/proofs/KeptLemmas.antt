-- The lines are never none, and a command adds at most 8 letters to them.
use Rattle.std.proofs.Common.{◌≡◌, ℕ, Bool, true, false, ◌+◌, ◌-◌, ◌<◌, ◌≤◌, ◌==◌, nat_lt, if◌then◌else◌, List, length, set, remove, get_or, refl, ap, add-one, arith}
use Rattle.std.specs.List.{sum_by}
use Rattle.std.proofs.lemmas.Bool.Decides.{nat_tests}
use Rattle.std.proofs.lemmas.List.{length-set}
use Rattle.std.proofs.lemmas.List.Edits.{length-insert, length-remove, get_or-remove_below}
use Rattle.std.proofs.lemmas.List.Sums.{sum_by-set, sum_by-insert, sum_by-remove}
use Rattle.kte_gen.specs.Draws.{next, drawn}
use Rattle.kte_gen.specs.Commands.{Generator, line_of, room_of, column_of, count_of, wrapped, unwrapped, insertion, wrap, unwrap, removal, range, command_of, one_more, after_commands}
use Rattle.kte_gen.proofs.DrawLemmas.{drawn_less}

-- there is a line, and the lines have at most so many letters
abbrev pub Kept : ℕ → List ℕ → Type 0
Kept most lengths = (0 < length lengths) × (sum_by (λ n. n) lengths ≤ most)

abbrev KeptBy : ℕ → Generator → Type 0
KeptBy most g = Kept (most + 8) g.lengths

either : (most : ℕ) (test : Bool) (g h : Generator) → (test ≡ true → KeptBy most g)
    → (test ≡ false → KeptBy most h) → KeptBy most (if test then g else h)
either most true g h p q = p refl
either most false g h p q = q refl

kept_more : (most : ℕ) (lengths : List ℕ) → Kept most lengths → Kept (most + 8) lengths
kept_more most lengths kept = (kept.0, omega (arith, kept.1))

kept_set : (most : ℕ) (lengths : List ℕ) (l y : ℕ) → Kept most lengths → l < length lengths
    → y ≤ get_or lengths l 0 + 8 → Kept (most + 8) (set lengths l y)
kept_set most lengths l y kept inside small = (
  omega (arith, length-set lengths l y, kept.0),
  omega (arith, sum_by-set (λ n. n) lengths l y 0 inside, kept.1, small),
)

kept_wrapped : (most : ℕ) (lengths : List ℕ) (l c : ℕ) → Kept most lengths → l < length lengths
    → c ≤ get_or lengths l 0 → Kept (most + 8) (wrapped lengths l c)
kept_wrapped most lengths l c kept inside small = (
  omega (
    arith,
    length-set lengths l c,
    length-insert (set lengths l c) (l + 1) (get_or lengths l 0 - c) (omega (arith, length-set lengths l c, inside)),
  ),
  omega (
    arith,
    sum_by-insert (λ n. n) (set lengths l c) (l + 1) (get_or lengths l 0 - c),
    sum_by-set (λ n. n) lengths l c 0 inside,
    kept.1,
    small,
  ),
)

before_removed : (lengths : List ℕ) (l : ℕ) → 0 < l → l < length lengths
    → get_or (remove lengths l) (l - 1) 0 ≡ get_or lengths (l - 1) 0
before_removed lengths l some inside = get_or-remove_below lengths l 0 (l - 1) (omega (arith, some)) inside

kept_unwrapped : (most : ℕ) (lengths : List ℕ) (l : ℕ) → Kept most lengths → 0 < l → l < length lengths
    → Kept (most + 8) (unwrapped lengths l)
kept_unwrapped most lengths l kept some inside =
    let joined : ℕ = get_or lengths (l - 1) 0 + get_or lengths l 0 in
    let fewer = length-remove lengths l inside in (
      omega (arith, fewer, length-set (remove lengths l) (l - 1) joined, some, inside),
      omega (
        arith,
        sum_by-set (λ n. n) (remove lengths l) (l - 1) joined 0 (omega (arith, fewer, some, inside)),
        sum_by-remove (λ n. n) lengths l 0 inside,
        before_removed lengths l some inside,
        kept.1,
      ),
    )

line_inside : (x : ℕ) (lengths : List ℕ) → 0 < length lengths → line_of x lengths < length lengths
line_inside x lengths some = drawn_less (length lengths) (next x) some

column_inside : (x : ℕ) (lengths : List ℕ) → column_of x lengths ≤ room_of x lengths
column_inside x lengths =
    omega (arith, drawn_less (room_of x lengths + 1) (next (next x)) (omega arith))

kept_insertion : (most x : ℕ) (lengths script : List ℕ) → Kept most lengths → KeptBy most (insertion x lengths script)
unfolding insertion
kept_insertion most x lengths script kept =
    let from : ℕ = next (next (next x)) in
    kept_set most lengths (line_of x lengths) (room_of x lengths + (1 + drawn 8 from)) kept (line_inside x lengths kept.0)
    (omega (arith, drawn_less 8 from (omega arith)))

kept_wrap : (most x : ℕ) (lengths script : List ℕ) → Kept most lengths → KeptBy most (wrap x lengths script)
unfolding wrap
kept_wrap most x lengths script kept =
    kept_wrapped most lengths (line_of x lengths) (column_of x lengths) kept (line_inside x lengths kept.0)
    (column_inside x lengths)

kept_unwrap : (most x : ℕ) (lengths script : List ℕ) → Kept most lengths → KeptBy most (unwrap x lengths script)
unfolding unwrap
kept_unwrap most x lengths script kept =
    either most (length lengths == 1) _ _
    (λ is. kept_wrapped most lengths 0 0 kept kept.0 (omega arith))
    (λ no.
    let more : 1 < length lengths = grind (arith, nat_tests) in
    kept_unwrapped most lengths (1 + drawn (length lengths - 1) (next x)) kept (omega arith)
    (omega (arith, drawn_less (length lengths - 1) (next x) (omega (arith, more)), more)))

kept_removal : (most x : ℕ) (lengths script : List ℕ) → Kept most lengths → KeptBy most (removal x lengths script)
unfolding removal
kept_removal most x lengths script kept =
    kept_set most lengths (line_of x lengths) (room_of x lengths - count_of x lengths) kept
    (line_inside x lengths kept.0) (omega arith)

kept_range : (most x : ℕ) (lengths script : List ℕ) → Kept most lengths → KeptBy most (range x lengths script)
unfolding range
kept_range most x lengths script kept = kept_more most lengths kept

-- whatever the kind is
kept_command : (most k x : ℕ) (lengths script : List ℕ) → Kept most lengths
    → KeptBy most (command_of k x lengths script)
kept_command most k x lengths script kept =
    either most (nat_lt k 8) _ _ (λ _. kept_insertion most x lengths script kept) λ _.
    either most (nat_lt k 10) _ _ (λ _. kept_wrap most x lengths script kept) λ _.
    either most (k == 10) _ _ (λ _. kept_unwrap most x lengths script kept) λ _.
    either most (nat_lt k 13) _ _ (λ _. kept_removal most x lengths script kept) λ _.
    either most (k == 13) _ _ (λ _. kept_range most x lengths script kept) λ _.
    either most (k == 14) _ _ (λ _. kept_more most lengths kept) λ _. kept_more most lengths kept

-- one more command
pub kept_one_more : (most : ℕ) (g : Generator) → Kept most g.lengths → KeptBy most (one_more g)
unfolding one_more
kept_one_more most g kept = kept_command most (drawn 16 (next g.x)) (next g.x) g.lengths g.script kept

-- the generator after one command more
pub after_one_more : (number count : ℕ)
    → after_commands number (count + 1) ≡ one_more (after_commands number count)
unfolding after_commands
after_one_more number count = ap (after_commands number) (add-one count)
