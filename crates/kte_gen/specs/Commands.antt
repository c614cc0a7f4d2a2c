-- The commands that a generator writes, each within the lines that the commands before it leave.
-- This project's own
use Rattle.std.specs.Prelude.{ℕ, zero, suc, ◌+◌, ◌-◌, ◌==◌, nat_lt, List, [], ◌∷◌, ◌++◌, length, codes, set, insert, remove, get_or, if◌then◌else◌}
use Rattle.std.specs.Fmt.{decimal}
use Rattle.std.specs.List.{flat_map}
use Rattle.kte_gen.specs.Draws.{next, drawn, skip, letters}

-- the state of the draws, the lengths of the lines, and the script so far
pub record Generator : Type 0 where
  pub x : ℕ
  pub lengths : List ℕ
  pub script : List ℕ

abbrev pub with_parts : ℕ → List ℕ → List ℕ → Generator
with_parts x lengths script = record { x = x; lengths = lengths; script = script }

-- a space before each number
abbrev pub spell_numbers : List ℕ → List ℕ
spell_numbers numbers = flat_map (λ n. 32 ∷ decimal n) numbers

-- the line and the column of a place, drawn one after the other
abbrev pub line_of : ℕ → List ℕ → ℕ
line_of x lengths = drawn (length lengths) (next x)

abbrev pub room_of : ℕ → List ℕ → ℕ
room_of x lengths = get_or lengths (line_of x lengths) 0

abbrev pub column_of : ℕ → List ℕ → ℕ
column_of x lengths = drawn (room_of x lengths + 1) (next (next x))

-- how many units from there on, up to the end of the line
abbrev pub count_of : ℕ → List ℕ → ℕ
count_of x lengths = drawn (room_of x lengths - column_of x lengths + 1) (next (next (next x)))

-- lengths after a wrap of a line at a column
abbrev pub wrapped : List ℕ → ℕ → ℕ → List ℕ
wrapped lengths l c = insert (set lengths l c) (l + 1) (get_or lengths l 0 - c)

-- .. and after a line is joined to the line before it
abbrev pub unwrapped : List ℕ → ℕ → List ℕ
unwrapped lengths l =
    set (remove lengths l) (l - 1) (get_or lengths (l - 1) 0 + get_or lengths l 0)

-- 1 to 8 letters are inserted
unfoldable pub insertion : ℕ → List ℕ → List ℕ → Generator
insertion x lengths script =
    let l = line_of x lengths in
    let c = column_of x lengths in
    let from = next (next (next x)) in
    let count = 1 + drawn 8 from in
    with_parts (skip count from) (set lengths l (get_or lengths l 0 + count))
    (script ++ codes "insert" ++ spell_numbers (l ∷ c ∷ []) ++ codes " \"" ++ letters count from
    ++ codes "\"\n")

-- a line is wrapped
unfoldable pub wrap : ℕ → List ℕ → List ℕ → Generator
wrap x lengths script =
    let l = line_of x lengths in
    let c = column_of x lengths in
    with_parts (next (next x)) (wrapped lengths l c)
    (script ++ codes "wrap" ++ spell_numbers (l ∷ c ∷ []) ++ codes "\n")

-- a line is joined to the one before it; one line alone is wrapped at its start
unfoldable pub unwrap : ℕ → List ℕ → List ℕ → Generator
unwrap x lengths script =
    if length lengths == 1 then
    with_parts x (wrapped lengths 0 0)
    (script ++ codes "wrap" ++ spell_numbers (0 ∷ 0 ∷ []) ++ codes "\n")
    else
    let l = 1 + drawn (length lengths - 1) (next x) in
    with_parts (next x) (unwrapped lengths l)
    (script ++ codes "unwrap" ++ spell_numbers (l ∷ []) ++ codes "\n")

-- a part of a line is removed
unfoldable pub removal : ℕ → List ℕ → List ℕ → Generator
removal x lengths script =
    let l = line_of x lengths in
    let c = column_of x lengths in
    let count = count_of x lengths in
    with_parts (next (next (next x))) (set lengths l (get_or lengths l 0 - count))
    (script ++ codes "remove" ++ spell_numbers (l ∷ c ∷ l ∷ (c + count) ∷ []) ++ codes "\n")

-- how a range expands, and whether it may be empty
abbrev pub expand_word : ℕ → List ℕ
expand_word n =
    if n == 0 then codes " none" else
    if n == 1 then codes " left" else
    if n == 2 then codes " right" else codes " both"

abbrev pub empty_word : ℕ → List ℕ
empty_word n = if n == 0 then codes " allow\n" else codes " void\n"

-- a part of a line becomes a range
unfoldable pub range : ℕ → List ℕ → List ℕ → Generator
range x lengths script =
    let l = line_of x lengths in
    let c = column_of x lengths in
    let after = next (next (next (next x))) in
    with_parts (next after) lengths
    (script ++ codes "range" ++ spell_numbers (l ∷ c ∷ l ∷ (c + count_of x lengths) ∷ [])
    ++ expand_word (drawn 4 after) ++ empty_word (drawn 2 (next after)))

-- a command of the kind k, which is below 16
abbrev pub command_of : ℕ → ℕ → List ℕ → List ℕ → Generator
command_of k x lengths script =
    if nat_lt k 8 then insertion x lengths script else
    if nat_lt k 10 then wrap x lengths script else
    if k == 10 then unwrap x lengths script else
    if nat_lt k 13 then removal x lengths script else
    if k == 13 then range x lengths script else
    if k == 14 then with_parts x lengths (script ++ codes "check repeat\n") else
    with_parts x lengths (script ++ codes "find 0 0 \"a\" case part\n")

-- one more command; its kind is drawn first
unfoldable pub one_more : Generator → Generator
one_more g = command_of (drawn 16 (next g.x)) (next g.x) g.lengths g.script

-- the generator after as many commands, at first with one empty line
unfoldable pub after_commands : ℕ → ℕ → Generator
after_commands number zero = with_parts number (0 ∷ []) []
after_commands number (suc count) = one_more (after_commands number count)

-- a command a line
abbrev pub script_of : ℕ → ℕ → List ℕ
script_of number count = (after_commands number count).script
