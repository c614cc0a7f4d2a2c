-- Four bytes of a number, some of which may be missing.
use Rattle.std.proofs.Common.{◌≡◌, ℕ, zero, suc, ◌<◌, ◌≤◌, List, [], ◌∷◌, ◌++◌, length, get_or, take, drop, refl, sym, ap, arith}
use Rattle.std.specs.Int.{w32, from_be_bytes}
use Rattle.std.proofs.lemmas.Nat.{be_bytes_4}
use Rattle.kte_record.specs.Grammar.{number}
use Rattle.kte_record.specs.Reading.{IsNumberFront}

abbrev pub AreBytes : List ℕ → Type 0
AreBytes bytes = (i : ℕ) → get_or bytes i 0 < 256

four : (a b c d : ℕ) → a < 256 → b < 256 → c < 256 → d < 256 → AreBytes (a ∷ b ∷ c ∷ d ∷ [])
four a b c d p q r s zero = p
four a b c d p q r s (suc zero) = q
four a b c d p q r s (suc (suc zero)) = r
four a b c d p q r s (suc (suc (suc zero))) = s
four a b c d p q r s (suc (suc (suc (suc i)))) = omega arith

-- the four bytes of the number that they are
bytes_again : (a b c d n : ℕ) → a < 256 → b < 256 → c < 256 → d < 256
    → n ≡ from_be_bytes w32 (a ∷ b ∷ c ∷ d ∷ []) → number n ≡ a ∷ b ∷ c ∷ d ∷ []
bytes_again a b c d n p q r s e = be_bytes_4 (a ∷ b ∷ c ∷ d ∷ []) n refl (four a b c d p q r s) e

abbrev zeros : List ℕ
zeros = 0 ∷ 0 ∷ 0 ∷ 0 ∷ []

front : (most n : ℕ) (rest missing : List ℕ) → n ≤ most → 0 < length missing → number n ≡ rest ++ missing
    → IsNumberFront most rest
front most n rest missing small some e = record { n = n; small = small; missing = missing; some = some; spelled = e }

-- fewer than four bytes begin the number that they are with zeros in place of the missing ones
pub read_cut : (rest : List ℕ) (most n : ℕ) → AreBytes rest → length rest < 4 → n ≤ most
    → n ≡ from_be_bytes w32 (take (length rest) rest ++ drop (length rest) zeros) → IsNumberFront most rest
read_cut [] most n bytes short small e =
    front most n [] zeros small (omega arith) (bytes_again 0 0 0 0 n (omega arith) (omega arith) (omega arith) (omega arith) e)
read_cut (a ∷ []) most n bytes short small e =
    front most n (a ∷ []) (0 ∷ 0 ∷ 0 ∷ []) small (omega arith) (bytes_again a 0 0 0 n (bytes 0) (omega arith) (omega arith) (omega arith) e)
read_cut (a ∷ b ∷ []) most n bytes short small e =
    front most n (a ∷ b ∷ []) (0 ∷ 0 ∷ []) small (omega arith) (bytes_again a b 0 0 n (bytes 0) (bytes 1) (omega arith) (omega arith) e)
read_cut (a ∷ b ∷ c ∷ []) most n bytes short small e =
    front most n (a ∷ b ∷ c ∷ []) (0 ∷ []) small (omega arith) (bytes_again a b c 0 n (bytes 0) (bytes 1) (bytes 2) (omega arith) e)
read_cut (a ∷ b ∷ c ∷ d ∷ more) most n bytes short small e = absurd (omega (arith, short))

-- four bytes are the number that they are
pub read_whole : (rest : List ℕ) (n : ℕ) → AreBytes rest → 4 ≤ length rest
    → n ≡ from_be_bytes w32 (take 4 rest) → rest ≡ number n ++ drop 4 rest
read_whole [] n bytes long e = absurd (omega (arith, long))
read_whole (a ∷ []) n bytes long e = absurd (omega (arith, long))
read_whole (a ∷ b ∷ []) n bytes long e = absurd (omega (arith, long))
read_whole (a ∷ b ∷ c ∷ []) n bytes long e = absurd (omega (arith, long))
read_whole (a ∷ b ∷ c ∷ d ∷ more) n bytes long e =
    ap (λ (l : List ℕ). l ++ more) (sym (bytes_again a b c d n (bytes 0) (bytes 1) (bytes 2) (bytes 3) e))
