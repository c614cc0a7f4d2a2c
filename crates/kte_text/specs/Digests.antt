-- The digest of a file: the name that git gives to a blob of these bytes.
use Rattle.std.specs.Prelude.{ℕ, List, [], ◌∷◌, ◌++◌, length, codes, decimal}
use Rattle.sha1.specs.Sha1.{sha1}

-- the word "blob", the length in decimal, and a zero byte. Source: git
abbrev pub blob_head : ℕ → List ℕ
blob_head length = codes "blob " ++ decimal length ++ 0 ∷ []

-- what git hashes for a file of these bytes
abbrev pub blob : List ℕ → List ℕ
blob bytes = blob_head (length bytes) ++ bytes

-- SHA-1 of that. Source: FIPS 180-4
abbrev pub digest_of : List ℕ → List ℕ
digest_of bytes = sha1 (blob bytes)
