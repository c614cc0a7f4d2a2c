-- Groups of steps: the open one, those to be undone and those to be redone. A group is all steps of an
-- outermost transaction (KTextEditor's editing transactions); how groups are kept is this project's
-- own.
use Rattle.std.specs.Prelude.{ℕ, ◌-◌, ◌+◌, ◌==◌, if◌then◌else◌, List, [], ◌∷◌, ◌++◌, length, take, drop, slice_index_or}
use Rattle.kte_undo.specs.declared.step.Step.{Step}

-- the depth of nested transactions, the steps of the open group, and the groups to be undone and to be
-- redone, the next one last
pub record Edits : Type 0 where
  pub depth : ℕ
  pub current : List Step
  pub undo : List (List Step)
  pub redo : List (List Step)

-- The room that calls without memory need: the steps that may be noted, and the units that the next of
-- them may have; the groups that may go to the redo list and to the undo list, and the steps that may
-- go with the next of them
pub record Room : Type 0 where
  pub notes : ℕ
  pub units : ℕ
  pub backs : ℕ
  pub forths : ℕ
  pub steps : ℕ

-- what contracts see
pub record Kept : Type 0 where
  pub edits : Edits
  pub room : Room

-- the last group of a list, and those before it
abbrev pub last_of : List (List Step) → List Step
last_of groups = slice_index_or groups (length groups - 1) []

abbrev pub before_last : List (List Step) → List (List Step)
before_last groups = take (length groups - 1) groups

-- a group, unless it is empty
abbrev pub if_any : List Step → List (List Step)
if_any [] = []
if_any (first ∷ steps) = (first ∷ steps) ∷ []

-- one level of transactions more
abbrev pub begun : Edits → Edits
begun edits = record edits { depth = edits.depth + 1 }

-- the open group is closed: it is added to the groups to be undone, and no group is left to be redone;
-- an empty group is not kept
abbrev pub closed : List Step → Edits → Edits
closed [] edits = edits
closed (first ∷ steps) edits =
    record edits { current = []; undo = edits.undo ++ (first ∷ steps) ∷ []; redo = [] }

-- one level of transactions less; the end of the outermost one closes its group
abbrev pub ended : Edits → Edits
ended edits =
    if edits.depth == 1 then closed edits.current (record edits { depth = 0 })
    else record edits { depth = edits.depth - 1 }

-- one step more in the open group
abbrev pub noted : Step → Edits → Edits
noted step edits = record edits { current = edits.current ++ step ∷ [] }

-- so many steps of the last group were undone, from its end on: they are a group to be redone, and the
-- rest of the group, if any, is left to be undone
abbrev pub gone_back : ℕ → Edits → Edits
gone_back done edits =
    let group = last_of edits.undo in
    record edits {
      undo = before_last edits.undo ++ if_any (take (length group - done) group);
      redo = edits.redo ++ drop (length group - done) group ∷ [];
    }

-- so many steps of the last group were redone, from its start on: they are a group to be undone, and
-- the rest of the group, if any, is left to be redone
abbrev pub gone_forth : ℕ → Edits → Edits
gone_forth done edits =
    let group = last_of edits.redo in
    record edits {
      undo = edits.undo ++ take done group ∷ [];
      redo = before_last edits.redo ++ if_any (drop done group);
    }
