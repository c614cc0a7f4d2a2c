-- Short words for worked examples.
use Rattle.std.specs.Prelude.{ℕ, List, [], ◌∷◌}
use Rattle.kte_place.specs.declared.entry.Entry.{Entry}
use Rattle.kte_place.specs.Entry.{unwrap, wrap, insertion, removal}
use Rattle.kte_history.specs.declared.lock.Lock.{Lock}
use Rattle.kte_history.specs.declared.lock.Owner.TheVariants.{Editor, Job}

-- a lock of the editor, and one of a job
abbrev pub by_editor : ℕ → Lock
by_editor revision = record { owner = Editor; revision = revision }

abbrev pub by_job : ℕ → ℕ → Lock
by_job job revision = record { owner = Job job; revision = revision }

-- three insertions of one unit at the start of a line of one unit
abbrev pub three : List Entry
three = insertion 0 0 1 1 ∷ insertion 0 0 1 2 ∷ insertion 0 0 1 3 ∷ []

-- the two units inside a line of four are removed, and then two others are inserted there
abbrev pub there_and_back : List Entry
there_and_back = removal 0 1 2 ∷ insertion 0 1 2 2 ∷ []

-- line 1 is joined to line 0, which has two units, and cut again there
abbrev pub joined_and_cut : List Entry
joined_and_cut = unwrap 1 2 ∷ wrap 0 2 ∷ []
