-- How many bytes a line takes in UTF-8.
use Rattle.std.specs.Prelude.{ℕ, Bool, nat_lt, nat_le, ◌&&◌, ◌||◌, if◌then◌else◌}

-- a half of a surrogate pair
abbrev pub is_surrogate : ℕ → Bool
is_surrogate unit = nat_le 0xD800 unit && nat_lt unit 0xE000

-- the bytes that a unit counts for, two for each half of a pair
abbrev pub width : ℕ → ℕ
width unit =
    if nat_lt unit 0x80 then 1
    else if nat_lt unit 0x800 || is_surrogate unit then 2
    else 3
