-- What the words of a line make by a table, or where its first word that does not fit begins.
use Rattle.std.specs.Prelude.{◌≡◌, ◌==◌, ℕ, List, [], ◌∷◌, length, Option, Some, None, Result, Ok, Err, if◌then◌else◌}
use Rattle.kte_command.specs.declared.command.Command.{Command}
use Rattle.kte_script.specs.declared.fault.ReadError.{ReadError}
use Rattle.kte_script.specs.declared.fault.ReadError.TheVariants as errors
use Rattle.kte_script.specs.declared.limits.Limits.{Limits}
use Rattle.kte_script.specs.declared.limits.Limits.TheVariants.{Script}
use Rattle.kte_script.specs.Words.{skip}
use Rattle.kte_script.specs.Fields.{Kind, Reading, ◌>>=◌, word_at, read_field}
use Rattle.kte_script.specs.Table.{Values, Row, table, row_in}

-- the fields, one after another
abbrev pub read_fields : Limits → (kinds : List Kind) → List ℕ → Reading (Values kinds)
read_fields limits [] bytes = Ok (tt, bytes)
read_fields limits (kind ∷ kinds) bytes =
    read_field limits kind bytes >>= λ first. read_fields limits kinds first.1
    >>= λ others. Ok ((first.0, others.0), others.1)

-- what a row makes, after its word
unfoldable pub row_at : {A : Type 0} → Limits → Row A → List ℕ → Reading A
row_at limits row bytes =
    read_fields limits row.kinds bytes >>= λ values. Ok (row.make values.0, values.1)

-- what a table makes of the words in front, and the bytes after them
unfoldable pub front_at : {A : Type 0} → Limits → List (Row A) → List ℕ → Reading A
front_at limits rows bytes =
    word_at (row_in rows) bytes >>= λ row. row_at limits row.0 row.1

-- there is no further word
unfoldable pub end_at : List ℕ → Result (Unit {0}) ℕ
end_at bytes = if length (skip bytes) == 0 then Ok tt else Err (length (skip bytes))

-- the command that is all of a script's line
unfoldable pub command_at : List ℕ → Result Command ℕ
command_at line = front_at Script table line >>= λ found. end_at found.1 >>= λ _. Ok found.0

-- the row that a word was found to name, with so many bytes left from that word on
abbrev pub row_or_fault : {A : Type 0} → Limits → Option (Row A) → ℕ → List ℕ → Reading A
row_or_fault limits None left bytes = Err left
row_or_fault limits (Some row) left bytes = row_at limits row bytes

-- ---- what the program's readers give, unless memory runs out

abbrev pub Fails : {Y : Type 0} → ReadError → Result Y ℕ → Type 0
Fails errors.NoMemory read = Unit {0}
Fails (errors.Misfit left) read = read ≡ Err left

abbrev pub Gives : {X Y : Type 0} → (X → Y) → Result X ReadError → Result Y ℕ → Type 0
Gives view (Ok x) read = read ≡ Ok (view x)
Gives view (Err error) read = Fails error read

-- .. and move on
abbrev pub Moves : {X : Type 0} → Result X ReadError → List ℕ → Reading X → Type 0
Moves (Ok x) after read = read ≡ Ok (x, after)
Moves (Err error) after read = Fails error read
