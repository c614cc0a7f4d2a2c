-- What objects in memory are seen as.
use Rattle.std.specs.Prelude.{◌≡◌, ℕ, true, false, List, [], ◌∷◌, ◌++◌, take, slice_get, All, Option, Some, None, Result, Ok, Err}
use Rattle.kte_causes.specs.declared.causes.DiskCall.{DiskCall}
use Rattle.kte_causes.specs.declared.causes.DiskFail.{DiskFail}
use Rattle.kte_causes.specs.declared.causes.DiskFail.TheVariants.{Failed, NoMemory}
use Rattle.kte_causes.specs.declared.counts.DiskCounts.{DiskCounts}
use Rattle.kte_causes.specs.declared.disks.DiskPlan.{DiskPlan}
use Rattle.kte_causes.specs.DiskFaults.{count_of, OthersStay}
use Rattle.kte_causes.specs.Faults.{raised}
use Rattle.kte_causes.specs.Moments.{Moment, latest}
use Rattle.kte_causes.specs.Shelf.{counted}

-- a source: what is left, the numbers of the reads that fail, how many reads were made,
-- how many of them failed
pub record SourceState : Type 0 where
  pub left : List ℕ
  pub failing : List ℕ
  pub made : ℕ
  pub faults : ℕ

-- a sink: what it got, the numbers of the writes that fail, how many writes were made,
-- how many of them failed
pub record SinkState : Type 0 where
  pub got : List ℕ
  pub failing : List ℕ
  pub made : ℕ
  pub faults : ℕ

-- a disk: its moments, the calls that fail, how many calls of each kind were made,
-- how many of them failed
pub record DiskState : Type 0 where
  pub moments : List Moment
  pub failing : List DiskPlan
  pub made : DiskCounts
  pub faults : DiskCounts

-- how many calls of each kind were made
abbrev pub made_of : DiskState → DiskCall → ℕ
made_of disk = count_of disk.made

-- how many calls of each kind failed
abbrev pub faults_of : DiskState → DiskCall → ℕ
faults_of disk = count_of disk.faults

-- the plan is for the call of this kind and number
abbrev pub IsFor : DiskCall → ℕ → DiskPlan → Type 0
IsFor call nth plan = (plan.call ≡ call) × (plan.nth ≡ nth)

-- this is the first of the plans for a call, or there is none
abbrev pub IsFirstPlan : List DiskPlan → DiskCall → ℕ → Option DiskPlan → Type 0
IsFirstPlan plans call nth None = All (λ plan. ¬ IsFor call nth plan) plans
IsFirstPlan plans call nth (Some first) =
    (at : ℕ) × (slice_get plans at ≡ Some first) × IsFor call nth first
    × All (λ plan. ¬ IsFor call nth plan) (take at plans)

-- what the next call of a kind does to the moments: without a plan, the moment after it is added;
-- with one, the moment that it leaves, which counts a fault; without memory, nothing
abbrev pub Outcome : {T : Type 0} → Result T DiskFail → (Option DiskPlan → Type 0)
    → (Moment → Moment) → (ℕ → Moment → Moment) → List Moment → List Moment → Type 0
Outcome (Ok value) HasPlan after left old new =
    HasPlan None × (new ≡ old ++ counted false (after (latest old)) ∷ [])
Outcome (Err Failed) HasPlan after left old new =
    (plan : DiskPlan) × HasPlan (Some plan)
    × (new ≡ old ++ counted true (left plan.done (latest old)) ∷ [])
Outcome (Err NoMemory) HasPlan after left old new = new ≡ old

-- a call of a disk in memory: it is numbered, and fails exactly where it has a plan and memory
pub record Does {T : Type 0} (call : DiskCall) (result : Result T DiskFail)
    (after : Moment → Moment) (left : ℕ → Moment → Moment) (old new : DiskState) : Type 0 where
  pub outcome :
      Outcome result (IsFirstPlan old.failing call (made_of old call)) after left old.moments
      new.moments
  pub numbered : made_of new call ≡ raised (made_of old call)
  pub others_numbered : OthersStay call (made_of old) (made_of new)
  pub same_plans : new.failing ≡ old.failing
