-- What a change of the text does to the tree of the folds.
use Rattle.std.specs.Prelude.{◌≡◌, ℕ, ◌-◌, List, length, false, IsTrue, IfSome}
use Rattle.std.specs.FinMap.{get}
use Rattle.kte_text.specs.Texts.{line_at}
use Rattle.kte_place.specs.declared.entry.Entry.{Entry}
use Rattle.kte_place.specs.declared.entry.EntryKind.TheVariants.{Unwrap}
use Rattle.kte_place.specs.declared.span.Expand.{Expand}
use Rattle.kte_place.specs.declared.span.Empty.TheVariants.{Void}
use Rattle.kte_place.specs.Laws.{IsWithin}
use Rattle.kte_place.specs.Span.{carry_span}
use Rattle.kte_fold.specs.Folds.{Spans, has_span, is_fold}
use Rattle.kte_fold.specs.Tree.{KeepsTree}

-- a fold does not grow by text that is inserted at its ends
abbrev pub grows_at_no_end : Expand
grows_at_no_end = record { left = false; right = false }

-- the entry is one of a text: its line is there, and an Unwrap has the length of the line that it
-- joins to
pub record IsEntryOf (text : List (List ℕ)) (e : Entry) : Type 0 where
  pub within : IsWithin (length text) e
  pub joined : e.kind ≡ Unwrap → e.old ≡ length (line_at text (e.line - 1))

-- the valid folds are in a text
abbrev pub FoldsAreIn : List (List ℕ) → Spans → List ℕ → Type 0
FoldsAreIn text spans numbers =
    (id : ℕ) → IsTrue (is_fold numbers id) → IfSome (get spans id) (λ s. IsTrue (has_span text s))

-- the spans after an entry: each fold is carried over it and settled
abbrev pub AreCarried : Entry → Spans → Spans → List ℕ → Type 0
AreCarried e old new numbers =
    (id : ℕ) → IsTrue (is_fold numbers id) → get new id ≡ carry_span e (get old id) grows_at_no_end Void

-- carrying and settling all folds over one entry keeps the tree
abbrev pub CarryingKeepsTree : Type 0
CarryingKeepsTree =
    (text : List (List ℕ)) (e : Entry) (old new : Spans) (numbers inside : List ℕ)
    → IsEntryOf text e → FoldsAreIn text old numbers → AreCarried e old new numbers
    → KeepsTree old numbers inside → KeepsTree new numbers inside
