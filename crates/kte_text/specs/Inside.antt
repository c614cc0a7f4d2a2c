-- What a private writer of digests has taken.
use Rattle.std.specs.Prelude.{◌≡◌, ℕ, ◌≤◌, List, ◌++◌, take}
use Rattle.sha1.specs.Sha1.{Holds}
use Rattle.kte_text.specs.declared.hashing.Writer.{Writer}

-- the writer has taken this message: what is hashed, and the bytes that are not yet
pub record Gathers (writer : Writer) (message : List ℕ) : Type 0 where
  pub hashed : List ℕ
  pub holds : Holds writer.hasher hashed
  pub whole : message ≡ hashed ++ take writer.filled writer.piece
