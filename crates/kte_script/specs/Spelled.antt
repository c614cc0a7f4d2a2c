-- Short words for the writers of spellings.
use Rattle.std.specs.Prelude.{◌≡◌, ◌==◌, ℕ, Bool, List, length, take, nat_le, ◌&&◌, not}

-- what was there is still in front
abbrev pub Keeps : List ℕ → List ℕ → Type 0
Keeps old new = take (length old) new ≡ old

-- a byte whose canonical spelling is itself
abbrev pub is_itself : ℕ → Bool
is_itself byte = nat_le 32 byte && not (byte == 34) && not (byte == 92)
