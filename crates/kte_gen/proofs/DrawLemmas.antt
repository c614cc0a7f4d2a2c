-- Draws: the state after one, and how large its number is.
use Rattle.std.proofs.Common.{◌≡◌, ℕ, ◌+◌, ◌*◌, ◌/◌, ◌%◌, ◌^◌, ◌<◌}
use Rattle.std.proofs.Math.Nat.{mod-add-mod, mod-lt}
use Rattle.kte_gen.specs.Draws.{next, drawn}

-- the sum may be taken of the product modulo 2^64
pub one_modulus : (x : ℕ)
    → (x * 6364136223846793005 % 18446744073709551616 + 1442695040888963407) % 18446744073709551616 ≡ next x
unfolding next
one_modulus x = mod-add-mod (x * 6364136223846793005) 18446744073709551616 1442695040888963407

-- a draw is below its bound
pub drawn_less : (m x : ℕ) → 0 < m → drawn m x < m
unfolding drawn
drawn_less m x some = mod-lt (x / 2 ^ 33) some
