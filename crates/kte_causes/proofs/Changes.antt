-- Lemmas on what one call does to a moment.
use Rattle.std.proofs.Common.{◌≡◌, ℕ, zero, suc, ◌+◌, ◌<◌, ◌≤◌, ◌^◌, true, List, [], ◌∷◌, ◌++◌, length, take, Option, Some, Result, Ok, Err, OnOk, OnErr, IsErrOf, refl, sym, ap, ◌∙◌, append-nil, arith}
use Rattle.std.proofs.lemmas.List.{take_all}
use Rattle.kte_causes.specs.declared.causes.DiskFail.{DiskFail}
use Rattle.kte_causes.specs.declared.causes.DiskFail.TheVariants.{Failed, NoMemory}
use Rattle.kte_causes.specs.declared.causes.DiskCall.{DiskCall}
use Rattle.kte_causes.specs.declared.disks.DiskPlan.{DiskPlan}
use Rattle.kte_causes.specs.declared.shelf.Change.{Change}
use Rattle.kte_causes.specs.declared.shelf.Change.TheVariants as change
use Rattle.kte_causes.specs.Moments.{Moment, latest, AddsMoments, AddedBy, Staying, Stayed, Appending, Appended, Syncing, Synced, Replacing, Replaced, Resetting, Reset}
use Rattle.kte_causes.specs.Shelf.{counted, changed, left_by, stayed, appended, synced, replaced, emptied, taken_place}
use Rattle.kte_causes.specs.Memory.{Outcome}
use Rattle.kte_causes.specs.Faults.{raised}
use Rattle.kte_causes.specs.DiskFaults.{OthersStay, total}
use Rattle.kte_causes.proofs.Added.{latest-push}
use Rattle.kte_causes.proofs.Counting.{total-count, total-raise}

-- no change counts a fault
pub changed-faults : (c : Change) (m : Moment) → (changed c m).faults ≡ m.faults
changed-faults change.Keep m = refl
changed-faults (change.Append bytes) m = refl
changed-faults change.Sync m = refl
changed-faults (change.Replace bytes) m = refl
changed-faults change.Empty m = refl

taken_place-faults : (n : ℕ) (after before : Moment) → after.faults ≡ before.faults → (taken_place n after before).faults ≡ before.faults
taken_place-faults zero after before e = refl
taken_place-faults (suc n) after before e = e

pub left_by-faults : (c : Change) (n : ℕ) (m : Moment) → (left_by c n m).faults ≡ m.faults
left_by-faults change.Keep n m = refl
left_by-faults (change.Append bytes) n m = refl
left_by-faults change.Sync n m = refl
left_by-faults (change.Replace bytes) n m = taken_place-faults n (replaced bytes.now m) m refl
left_by-faults change.Empty n m = taken_place-faults n (emptied m) m refl

-- What a call is said to add, and how it is said to end, holds of this one moment, which counts no
-- fault more
pub record Goes (Each : Moment → List Moment → Type 0) (Last : Moment → Moment → Type 0) (old after : Moment) : Type 0 where
  pub each : Each old (after ∷ [])
  pub last : Last old after
  pub faults : after.faults ≡ old.faults

-- the same of the moment that a call leaves where it fails, whatever its plan says
pub record Fails (Each : Moment → List Moment → Type 0) (left : ℕ → Moment → Moment) (old : Moment) : Type 0 where
  pub each : (n : ℕ) → Each old (counted true (left n old) ∷ [])
  pub faults : (n : ℕ) → (left n old).faults ≡ old.faults

-- a call of a disk in memory adds what its relations say
pub Outcome-adds : {T : Type 0} (r : Result T DiskFail) (HasPlan : Option DiskPlan → Type 0) (after : Moment → Moment) (left : ℕ → Moment → Moment) (Each : Moment → List Moment → Type 0) (Last : Moment → Moment → Type 0) (old new : List Moment) → Goes Each Last (latest old) (after (latest old)) → Fails Each left (latest old) → Outcome r HasPlan after left old new → AddsMoments (AddedBy r Each Last) (Some old) (Some new)
Outcome-adds (Ok v) HasPlan after left Each Last old new goes fails o =
    (after (latest old) ∷ [], o.1, (omega arith, goes.each, goes.last, (goes.faults, tt)))
Outcome-adds (Err Failed) HasPlan after left Each Last old new goes fails o =
    let done = o.0.done in (
      counted true (left done (latest old)) ∷ [],
      o.2,
      (fails.each done, (omega (arith, fails.faults done), tt), omega (arith, fails.faults done)),
    )
Outcome-adds (Err NoMemory) HasPlan after left Each Last old new goes fails o = ([], o ∙ sym (append-nil old), refl)

-- a call of a disk in memory that never fails adds what its relations say
pub calm-adds : {T : Type 0} (r : Result T DiskFail) (after : Moment → Moment) (Each : Moment → List Moment → Type 0) (Last : Moment → Moment → Type 0) (old new : List Moment) → Goes Each Last (latest old) (after (latest old)) → OnOk r (new ≡ old ++ after (latest old) ∷ []) → OnErr r (new ≡ old) → OnErr r (IsErrOf r NoMemory) → AddsMoments (AddedBy r Each Last) (Some old) (Some new)
calm-adds (Ok v) after Each Last old new goes ok err alone =
    (after (latest old) ∷ [], ok, (omega arith, goes.each, goes.last, (goes.faults, tt)))
calm-adds (Err Failed) after Each Last old new goes ok err alone = absurd cc
calm-adds (Err NoMemory) after Each Last old new goes ok err alone = ([], err ∙ sym (append-nil old), refl)

pub stay_goes : (m : Moment) → Goes Staying Stayed m (stayed m)
stay_goes m = record { each = ((refl, refl, refl), tt); last = (refl, refl, refl); faults = refl }

pub stay_fails : (m : Moment) → Fails Staying (λ _. stayed) m
stay_fails m = record { each = λ n. ((refl, refl, refl), tt); faults = λ n. refl }

pub append_goes : (bytes : List ℕ) (m : Moment) → Goes (Appending bytes) (Appended bytes) m (appended bytes m)
append_goes bytes m = record {
  each = ((refl, refl, (length bytes, ap (λ (l : List ℕ). m.swap ++ l) (sym (take_all (length bytes) bytes (omega arith))))), tt);
  last = refl;
  faults = refl;
}

pub append_fails : (bytes : List ℕ) (m : Moment) → Fails (Appending bytes) (λ done. appended (take done bytes)) m
append_fails bytes m = record { each = λ n. ((refl, refl, (n, refl)), tt); faults = λ n. refl }

pub sync_goes : (m : Moment) → m.synced ≤ length m.swap → Goes Syncing Synced m (synced m)
sync_goes m fits = record { each = ((refl, refl, fits, omega arith), tt); last = refl; faults = refl }

pub sync_fails : (m : Moment) → m.synced ≤ length m.swap → Fails Syncing (λ _. stayed) m
sync_fails m fits = record { each = λ n. ((refl, refl, omega arith, fits), tt); faults = λ n. refl }

pub replace_goes : (bytes : List ℕ) (m : Moment) → Goes (Replacing bytes) (Replaced bytes) m (replaced bytes m)
replace_goes bytes m = record {
  each = ([], replaced bytes m ∷ [], refl, tt, ((refl, refl, refl), tt));
  last = refl;
  faults = refl;
}

replace_left : (bytes : List ℕ) (n : ℕ) (m : Moment) → Replacing bytes m (counted true (taken_place n (replaced bytes m) m) ∷ [])
replace_left bytes zero m = (counted true m ∷ [], [], refl, ((refl, refl, refl), tt), tt)
replace_left bytes (suc n) m = ([], counted true (replaced bytes m) ∷ [], refl, tt, ((refl, refl, refl), tt))

pub replace_fails : (bytes : List ℕ) (m : Moment) → Fails (Replacing bytes) (λ done m. taken_place done (replaced bytes m) m) m
replace_fails bytes m = record {
  each = λ n. replace_left bytes n m;
  faults = λ n. taken_place-faults n (replaced bytes m) m refl;
}

pub reset_goes : (m : Moment) → Goes Resetting Reset m (emptied m)
reset_goes m = record {
  each = ([], emptied m ∷ [], refl, tt, ((refl, refl, refl), tt));
  last = (refl, refl);
  faults = refl;
}

reset_left : (n : ℕ) (m : Moment) → Resetting m (counted true (taken_place n (emptied m) m) ∷ [])
reset_left zero m = (counted true m ∷ [], [], refl, ((refl, refl, refl), tt), tt)
reset_left (suc n) m = ([], counted true (emptied m) ∷ [], refl, tt, ((refl, refl, refl), tt))

pub reset_fails : (m : Moment) → Fails Resetting (λ done m. taken_place done (emptied m) m) m
reset_fails m = record {
  each = λ n. reset_left n m;
  faults = λ n. taken_place-faults n (emptied m) m refl;
}

raised-below : (n : ℕ) → n + 1 < 2 ^ 64 → raised n ≡ n + 1
raised-below n h = grind arith

-- the sum of the counts is that of the last moment, after a call that failed too
pub failed-total : (c : Change) (call : DiskCall) (before after : DiskCall → ℕ) (old new : List Moment) → (latest old).faults ≡ total before → new ≡ old ++ counted true (changed c (latest old)) ∷ [] → (latest new).faults < 2 ^ 64 → after call ≡ raised (before call) → OthersStay call before after → (latest new).faults ≡ total after
failed-total c call before after old new sum is bound one others =
    let last : (latest new).faults ≡ (latest old).faults + 1 =
    ap (λ (l : List Moment). (latest l).faults) is
    ∙ ap (λ (m : Moment). m.faults) (latest-push old (counted true (changed c (latest old))))
    ∙ ap (λ n. n + 1) (changed-faults c (latest old)) in
    let room : before call + 1 < 2 ^ 64 = omega (arith, total-count before call, sum, last, bound) in
    let more : after call ≡ before call + 1 = one ∙ raised-below (before call) room in
    omega (arith, last, sum, total-raise call before after more others)

-- and after one that went well
pub calm-total : (c : Change) (n : ℕ) (old new : List Moment) → (latest old).faults ≡ n → new ≡ old ++ changed c (latest old) ∷ [] → (latest new).faults ≡ n
calm-total c n old new sum is =
    ap (λ (l : List Moment). (latest l).faults) is
    ∙ ap (λ (m : Moment). m.faults) (latest-push old (changed c (latest old)))
    ∙ changed-faults c (latest old) ∙ sum
