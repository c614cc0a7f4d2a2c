-- Worked rows of the definitions, by computation.
use Rattle.std.proofs.Common.{◌≡◌, ◌-◌, ◌^◌, [], ◌∷◌, Some, None, Result, Err, inl, inr, refl, arith}
use Rattle.std.specs.Io.KnownBytes.{Consumes}
use Rattle.kte_causes.specs.declared.causes.DiskCall.TheVariants.{SavedLen, Append}
use Rattle.kte_causes.specs.declared.causes.DiskFail.{DiskFail}
use Rattle.kte_causes.specs.declared.causes.DiskFail.TheVariants.{Failed}
use Rattle.kte_causes.specs.Faults.{Rose, raised}
use Rattle.kte_causes.specs.Contents.{AppendsPrefix}
use Rattle.kte_causes.specs.DiskFaults.{total}
use Rattle.kte_causes.specs.Moments.{Moment, IsImage, AddsMoments, AddedBy, Appending, Appended, Replacing}

-- a count rose, fell, stayed, and stayed at its last value
rose : Rose 3 4
rose = inl (omega arith)

stays : Rose 3 3 → ⊥
stays (inl h) = absurd (omega arith)
stays (inr h) = absurd (omega (arith, h.0))

at_the_last : Rose (2 ^ 64 - 1) (2 ^ 64 - 1)
at_the_last = inr (refl, refl)

raised_once : raised 3 ≡ 4
raised_once = refl

raised_last : raised (2 ^ 64 - 1) ≡ 2 ^ 64 - 1
raised_last = refl

-- bytes taken from what is left, and added to what was got
takes : Consumes (Some (7 ∷ 8 ∷ [])) (Some (8 ∷ [])) (7 ∷ [])
takes = refl

takes_untold : Consumes None (Some (9 ∷ [])) (7 ∷ [])
takes_untold = tt

tells_no_more : Consumes (Some []) None [] → ⊥
tells_no_more h = h

gains_prefix : AppendsPrefix (Some []) (Some (8 ∷ [])) (8 ∷ 9 ∷ [])
gains_prefix = (1, refl)

-- a disk with the saved file 65 66 and the swap 1 2, of which 1 is synced
first : Moment
first = record { saved = 65 ∷ 66 ∷ []; swap = 1 ∷ 2 ∷ []; synced = 1; faults = 0 }

-- both cuts are images, and one before what is synced is none
image : IsImage first (65 ∷ 66 ∷ []) (1 ∷ [])
unfolding first
image = record { whole = refl; cut = 1; synced = omega arith; within = omega arith; front = refl }

image_whole : IsImage first (65 ∷ 66 ∷ []) (1 ∷ 2 ∷ [])
unfolding first
image_whole = record { whole = refl; cut = 2; synced = omega arith; within = omega arith; front = refl }

-- an append that fails after one of two bytes
torn : Moment
torn = record { saved = 65 ∷ 66 ∷ []; swap = 1 ∷ 2 ∷ 3 ∷ []; synced = 1; faults = 1 }

failed : Result (Unit {0}) DiskFail
failed = Err Failed

failed_append : AddsMoments (AddedBy failed (Appending (3 ∷ 4 ∷ [])) (Appended (3 ∷ 4 ∷ []))) (Some (first ∷ [])) (Some (first ∷ torn ∷ []))
unfolding first torn failed
failed_append = (torn ∷ [], refl, (((refl, refl, (1, refl)), tt), (omega arith, tt), omega arith))

-- the new saved file beside the old swap, after the old one
whole : Moment
whole = record { saved = 67 ∷ 68 ∷ []; swap = 1 ∷ 2 ∷ []; synced = 1; faults = 0 }

replaces : Replacing (67 ∷ 68 ∷ []) first (first ∷ whole ∷ [])
unfolding first whole
replaces = (first ∷ [], whole ∷ [], refl, ((refl, refl, refl), tt), ((refl, refl, refl), tt))

-- of two calls that failed, one after another, the sum is the number of both
counts_both : total (λ call. elim call [ SavedLen ↦ 1 | Append ↦ 1 | _ ↦ 0 ]) ≡ 2
counts_both = refl
