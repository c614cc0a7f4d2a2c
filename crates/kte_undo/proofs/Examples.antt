-- Worked examples of the definitions, each proved by computation.
use Rattle.std.proofs.Common.{◌≡◌, [], ◌∷◌, codes, refl}
use Rattle.kte_text.specs.declared.primitive.Primitive.TheVariants.{Wrap, Unwrap, Insert, Remove}
use Rattle.kte_undo.specs.Steps.{inverse, redo_of, steps_along, undo_of}
use Rattle.kte_undo.specs.Groups.{ended, gone_back, gone_forth}
use Rattle.kte_undo.specs.declared.step.Step.TheVariants as Step

-- the inverse of each primitive
wrapped : inverse (Wrap 0 1) (codes "ab" ∷ []) ≡ Unwrap 1
wrapped = refl

unwrapped : inverse (Unwrap 1) (codes "abc" ∷ codes "de" ∷ []) ≡ Wrap 0 3
unwrapped = refl

inserted : inverse (Insert 0 1 (codes "xy")) (codes "ab" ∷ []) ≡ Remove 0 1 2
inserted = refl

removed : inverse (Remove 0 1 2) (codes "abcd" ∷ []) ≡ Insert 0 1 (codes "bc")
removed = refl

-- the primitives that undo and redo a group
undone : undo_of (steps_along (Insert 0 1 (codes "a") ∷ Wrap 0 2 ∷ Insert 1 0 (codes "b") ∷ []) (codes "xy" ∷ []))
    ≡ Remove 1 0 1 ∷ Unwrap 1 ∷ Remove 0 1 1 ∷ []
undone = refl

redone : redo_of (steps_along (Remove 0 0 1 ∷ Wrap 0 1 ∷ []) (codes "ab" ∷ [])) ≡ Remove 0 0 1 ∷ Wrap 0 1 ∷ []
redone = refl

-- an empty transaction keeps what may be redone, and one that is not empty does not
empty_end : ended (record { depth = 1; current = []; undo = []; redo = (Step.Unwrap 1 0 ∷ []) ∷ [] })
    ≡ record { depth = 0; current = []; undo = []; redo = (Step.Unwrap 1 0 ∷ []) ∷ [] }
empty_end = refl

outer_end : ended (record { depth = 1; current = Step.Wrap 1 0 ∷ []; undo = []; redo = (Step.Unwrap 1 0 ∷ []) ∷ [] })
    ≡ record { depth = 0; current = []; undo = (Step.Wrap 1 0 ∷ []) ∷ []; redo = [] }
outer_end = refl

inner_end : ended (record { depth = 2; current = Step.Wrap 1 0 ∷ []; undo = []; redo = [] })
    ≡ record { depth = 1; current = Step.Wrap 1 0 ∷ []; undo = []; redo = [] }
inner_end = refl

-- a whole group goes back, one is cut on the way back, and one on the way forth
whole_back : gone_back 2 (record { depth = 0; current = []; undo = (Step.Wrap 1 0 ∷ Step.Wrap 2 0 ∷ []) ∷ []; redo = [] })
    ≡ record { depth = 0; current = []; undo = []; redo = (Step.Wrap 1 0 ∷ Step.Wrap 2 0 ∷ []) ∷ [] }
whole_back = refl

cut_back : gone_back 1 (record { depth = 0; current = []; undo = (Step.Wrap 1 0 ∷ Step.Wrap 2 0 ∷ []) ∷ []; redo = [] })
    ≡ record { depth = 0; current = []; undo = (Step.Wrap 1 0 ∷ []) ∷ []; redo = (Step.Wrap 2 0 ∷ []) ∷ [] }
cut_back = refl

cut_forth : gone_forth 1 (record { depth = 0; current = []; undo = []; redo = (Step.Wrap 1 0 ∷ Step.Wrap 2 0 ∷ []) ∷ [] })
    ≡ record { depth = 0; current = []; undo = (Step.Wrap 1 0 ∷ []) ∷ []; redo = (Step.Wrap 2 0 ∷ []) ∷ [] }
cut_forth = refl

-- the groups before the last one stay
second_end : ended (record { depth = 1; current = Step.Wrap 2 0 ∷ []; undo = (Step.Wrap 1 0 ∷ []) ∷ []; redo = [] })
    ≡ record { depth = 0; current = []; undo = (Step.Wrap 1 0 ∷ []) ∷ (Step.Wrap 2 0 ∷ []) ∷ []; redo = [] }
second_end = refl

second_back : gone_back 1 (record { depth = 0; current = []; undo = (Step.Wrap 1 0 ∷ []) ∷ (Step.Wrap 2 0 ∷ []) ∷ []; redo = (Step.Wrap 3 0 ∷ []) ∷ [] })
    ≡ record { depth = 0; current = []; undo = (Step.Wrap 1 0 ∷ []) ∷ []; redo = (Step.Wrap 3 0 ∷ []) ∷ (Step.Wrap 2 0 ∷ []) ∷ [] }
second_back = refl

second_forth : gone_forth 1 (record { depth = 0; current = []; undo = (Step.Wrap 1 0 ∷ []) ∷ []; redo = (Step.Wrap 3 0 ∷ []) ∷ (Step.Wrap 2 0 ∷ []) ∷ [] })
    ≡ record { depth = 0; current = []; undo = (Step.Wrap 1 0 ∷ []) ∷ (Step.Wrap 2 0 ∷ []) ∷ []; redo = (Step.Wrap 3 0 ∷ []) ∷ [] }
second_forth = refl
