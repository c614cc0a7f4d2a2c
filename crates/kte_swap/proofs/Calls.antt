-- The calls of a save, and the runs of moments that they make.
use Rattle.std.proofs.Common.{◌≡◌, ℕ, ◌<◌, List, [], ◌∷◌, ◌++◌, length, subst, Option, Some, None, Result, Ok, Err, OnOk, IfSome, ◌≢◌, inl, inr, refl, sym, ap, ◌∙◌, append_assoc, append-nil, arith}
use Rattle.std.proofs.lemmas.List.{length-append}
use Rattle.std.specs.List.{AllByRecursion}
use Rattle.kte_causes.specs.Moments.{Moment, latest, latest_from, AddsMoments, AddedBy, Turns, IsSame, IsSyncedMore, IsReplaced, IsReset, Syncing, Synced, Replacing, Replaced, Resetting, Reset}
use Rattle.kte_causes.specs.declared.causes.DiskFail.{DiskFail}
use Rattle.kte_causes.specs.declared.causes.DiskFail.TheVariants as disk
use Rattle.kte_causes.proofs.Added.{latest_from-append, latest_from-all, All-weaker, All-append, AddsMoments-weaker, AddsMoments-then, AddedBy-each}
use Rattle.kte_swap.specs.declared.causes.SaveFault.{SaveFault}
use Rattle.kte_swap.specs.declared.causes.SaveFault.TheVariants as fault
use Rattle.kte_swap.specs.Saving.{Step, syncs, replaces, resets, Adds, Makes, Runs, IsBeside, IsAlone, KeepsSwap, Guarding, Emptying, Leaving}

-- a call of the disk that went well
abbrev pub done : Result (Unit {0}) DiskFail
done = Ok tt

-- a step that goes well, and then the others
pub Makes-then : (bytes : List ℕ) (step : Step) (steps : List Step) (result : Result (Unit {0}) SaveFault) (x y z : Option (List Moment))
    → AddsMoments (Adds bytes step (Ok tt)) x y → AddsMoments (Makes bytes steps result) y z → AddsMoments (Makes bytes (step ∷ steps) result) x z
Makes-then bytes step steps result x y z p q =
    AddsMoments-then (Adds bytes step (Ok tt)) (Makes bytes steps result) (Makes bytes (step ∷ steps) result) x y z p q
    (λ old xs ys first then. inr (inr (xs, ys, refl, first, then)))

-- one step alone that went well
pub Makes-one : (bytes : List ℕ) (step : Step) (x y : Option (List Moment)) → AddsMoments (Makes bytes (step ∷ []) (Ok tt)) x y
    → AddsMoments (Adds bytes step (Ok tt)) x y
Makes-one bytes step x y p =
    AddsMoments-weaker (Makes bytes (step ∷ []) (Ok tt)) (Adds bytes step (Ok tt)) x y p
    (λ old added made. elim made [
      | inl none ↦ let e = none.0 in absurd (cc)
      | inr more ↦ elim more [
        | inl none ↦ let e = none.0 in absurd (cc)
        | inr then ↦
            let at : added ≡ then.0 = then.2 ∙ ap (λ (l : List Moment). then.0 ++ l) then.4.1 ∙ append-nil then.0 in
            subst (λ (l : List Moment). Adds bytes step (Ok tt) old l) (sym at) then.3
      ]
    ])

Turns-weaker : (P Q R S : Moment → Type 0) → ((m : Moment) → P m → R m) → ((m : Moment) → Q m → S m) → (added : List Moment) → Turns P Q added → Turns R S added
Turns-weaker P Q R S f g added t = (t.0, t.1, t.2, All-weaker P R f t.0 t.3, All-weaker Q S g t.1 t.4)

Turns-all : (P Q R : Moment → Type 0) → ((m : Moment) → P m → R m) → ((m : Moment) → Q m → R m) → (added : List Moment) → Turns P Q added → AllByRecursion R added
Turns-all P Q R f g added t =
    subst (AllByRecursion R) (sym t.2) (All-append R t.0 t.1 (All-weaker P R f t.0 t.3) (All-weaker Q R g t.1 t.4))

-- a first run that goes on
Turns-front : (P Q : Moment → Type 0) (xs ys : List Moment) → AllByRecursion P xs → Turns P Q ys → Turns P Q (xs ++ ys)
Turns-front P Q xs ys all t =
    (xs ++ t.0, t.1, ap (λ (l : List Moment). xs ++ l) t.2 ∙ sym (append_assoc xs t.0 t.1), All-append P xs t.0 all t.3, t.4)

-- two runs, and then a third one
Runs-of : (P Q R : Moment → Type 0) (xs ys : List Moment) → Turns P Q xs → Turns Q R ys → Runs P Q R (xs ++ ys)
Runs-of P Q R xs ys s t = (
  s.0,
  s.1 ++ t.0,
  t.1,
  ap (λ (l : List Moment). l ++ ys) s.2 ∙ append_assoc s.0 s.1 ys
      ∙ ap (λ (l : List Moment). s.0 ++ (s.1 ++ l)) t.2 ∙ ap (λ (l : List Moment). s.0 ++ l) (sym (append_assoc s.1 t.0 t.1)),
  s.3,
  All-append Q s.1 t.0 s.4 t.3,
  t.4,
)

latest_from-some : (P : Moment → Type 0) (old : Moment) (xs : List Moment) → 0 < length xs → AllByRecursion P xs → P (latest_from old xs)
latest_from-some P old [] some all = absurd (omega (arith, some))
latest_from-some P old (m ∷ xs) some all = latest_from-all P m xs all.0 all.1

-- the last moment of a replacement and of a reset that went well
replaced : (bytes : List ℕ) (old : Moment) (added : List Moment) → AddedBy done (Replacing bytes) (Replaced bytes) old added → IsReplaced bytes old (latest_from old added)
replaced bytes old added by =
    let P : Moment → Type 0 = λ m. (m.swap ≡ old.swap) × (m.synced ≡ old.synced) in
    let kept = latest_from-all P old added (refl, refl) (Turns-all (IsSame old) (IsReplaced bytes old) P (λ m p. (p.1, p.2)) (λ m p. (p.1, p.2)) added by.1) in
    (by.2, kept.0, kept.1)

reset : (old : Moment) (added : List Moment) → AddedBy done Resetting Reset old added → IsReset old (latest_from old added)
reset old added by =
    let P : Moment → Type 0 = λ m. m.saved ≡ old.saved in
    (latest_from-all P old added refl (Turns-all (IsSame old) (IsReset old) P (λ m p. p.0) (λ m p. p.0) added by.1), by.2.0, by.2.1)

-- the saved file during a reset, and the swap during a replacement
saved_stays : (old : Moment) (added : List Moment) → Resetting old added → (latest_from old added).saved ≡ old.saved
saved_stays old added r =
    let P : Moment → Type 0 = λ m. m.saved ≡ old.saved in
    latest_from-all P old added refl (Turns-all (IsSame old) (IsReset old) P (λ m p. p.0) (λ m p. p.0) added r)

swap_stays : (bytes : List ℕ) (old : Moment) (added : List Moment) → Replacing bytes old added → (latest_from old added).swap ≡ old.swap
swap_stays bytes old added r =
    let P : Moment → Type 0 = λ m. m.swap ≡ old.swap in
    latest_from-all P old added refl (Turns-all (IsSame old) (IsReplaced bytes old) P (λ m p. p.1) (λ m p. p.1) added r)

-- what is known of all moments, by their parts
along : (P : Moment → Type 0) (old : Moment) (xs ys : List Moment) → P (latest_from (latest_from old xs) ys) → P (latest_from old (xs ++ ys))
along P old xs ys p = subst P (sym (latest_from-append old xs ys)) p

-- after some moments of the first run
Runs-front : (P Q R : Moment → Type 0) (xs ys : List Moment) → AllByRecursion P xs → Runs P Q R ys → Runs P Q R (xs ++ ys)
Runs-front P Q R xs ys all r =
    (xs ++ r.0, r.1, r.2, ap (λ (l : List Moment). xs ++ l) r.3 ∙ sym (append_assoc xs r.0 (r.1 ++ r.2)), All-append P xs r.0 all r.4, r.5, r.6)

pub leaving : (bytes : List ℕ) (result : Result (Unit {0}) SaveFault) (old : Moment) (added : List Moment)
    → Makes bytes (replaces ∷ resets ∷ []) result old added → Leaving bytes result old added
leaving bytes result old added (inl none) =
    subst (λ r. Leaving bytes r old added) (sym none.0) ([], [], none.1, tt, tt)
leaving bytes result old added (inr (inl failed)) =
    subst (λ r. Leaving bytes r old added) (sym failed.0) failed.1.0
leaving bytes result old added (inr (inr (xs, ys, at, first, inl none))) =
    let all : added ≡ xs = at ∙ ap (λ (l : List Moment). xs ++ l) none.1 ∙ append-nil xs in
    subst (λ r. Leaving bytes r old added) (sym none.0)
    (subst (λ (l : List Moment). Turns (IsSame old) (IsReplaced bytes old) l) (sym all) first.1)
leaving bytes result old added (inr (inr (xs, ys, at, first, inr (inl failed)))) =
    let mid = latest_from old xs in
    let there = replaced bytes old xs first in
    let then = Turns-weaker (IsSame mid) (IsReset mid) (IsReplaced bytes old) (IsAlone bytes)
    (λ m p. (p.0 ∙ there.0, p.1 ∙ there.1, p.2 ∙ there.2)) (λ m p. (p.0 ∙ there.0, p.1, p.2)) ys failed.1.0 in
    let saved : (latest_from old (xs ++ ys)).saved ≡ bytes =
    along (λ m. m.saved ≡ bytes) old xs ys (saved_stays mid ys failed.1.0 ∙ there.0) in
    subst (λ r. Leaving bytes r old added) (sym failed.0)
    (subst (λ (l : List Moment). Leaving bytes (Err fault.Reset) old l) (sym at)
    (Runs-of (IsSame old) (IsReplaced bytes old) (IsAlone bytes) xs ys first.1 then, saved))
leaving bytes result old added (inr (inr (xs, ys, at, first, inr (inr (us, vs, at2, second, end))))) =
    let all : ys ≡ us = at2 ∙ ap (λ (l : List Moment). us ++ l) end.1 ∙ append-nil us in
    let mid = latest_from old xs in
    let there = replaced bytes old xs first in
    let then = Turns-weaker (IsSame mid) (IsReset mid) (IsReplaced bytes old) (IsAlone bytes)
    (λ m p. (p.0 ∙ there.0, p.1 ∙ there.1, p.2 ∙ there.2)) (λ m p. (p.0 ∙ there.0, p.1, p.2)) us second.1 in
    let last = reset mid us second in
    let alone : IsAlone bytes (latest_from old (xs ++ us)) =
    along (IsAlone bytes) old xs us (last.0 ∙ there.0, last.1, last.2) in
    subst (λ r. Leaving bytes r old added) (sym end.0)
    (subst (λ (l : List Moment). Leaving bytes (Ok tt) old l) (sym (at ∙ ap (λ (l : List Moment). xs ++ l) all))
    (Runs-of (IsSame old) (IsReplaced bytes old) (IsAlone bytes) xs us first.1 then, alone))

pub emptying : (bytes : List ℕ) (result : Result (Unit {0}) SaveFault) (old : Moment) (added : List Moment)
    → Makes bytes (resets ∷ replaces ∷ []) result old added → Emptying bytes result old added
emptying bytes result old added (inl none) =
    subst (λ r. Emptying bytes r old added) (sym none.0) ([], [], none.1, tt, tt)
emptying bytes result old added (inr (inl failed)) =
    subst (λ r. Emptying bytes r old added) (sym failed.0) failed.1.0
emptying bytes result old added (inr (inr (xs, ys, at, first, inl none))) =
    let all : added ≡ xs = at ∙ ap (λ (l : List Moment). xs ++ l) none.1 ∙ append-nil xs in
    subst (λ r. Emptying bytes r old added) (sym none.0)
    (subst (λ (l : List Moment). Turns (IsSame old) (IsReset old) l) (sym all) first.1)
emptying bytes result old added (inr (inr (xs, ys, at, first, inr (inl failed)))) =
    let mid = latest_from old xs in
    let there = reset old xs first in
    let then = Turns-weaker (IsSame mid) (IsReplaced bytes mid) (IsReset old) (IsAlone bytes)
    (λ m p. (p.0 ∙ there.0, p.1 ∙ there.1, p.2 ∙ there.2)) (λ m p. (p.0, p.1 ∙ there.1, p.2 ∙ there.2)) ys failed.1.0 in
    let swap : (latest_from old (xs ++ ys)).swap ≡ [] =
    along (λ m. m.swap ≡ []) old xs ys (swap_stays bytes mid ys failed.1.0 ∙ there.1) in
    subst (λ r. Emptying bytes r old added) (sym failed.0)
    (subst (λ (l : List Moment). Emptying bytes (Err fault.Replace) old l) (sym at)
    (Runs-of (IsSame old) (IsReset old) (IsAlone bytes) xs ys first.1 then, swap))
emptying bytes result old added (inr (inr (xs, ys, at, first, inr (inr (us, vs, at2, second, end))))) =
    let all : ys ≡ us = at2 ∙ ap (λ (l : List Moment). us ++ l) end.1 ∙ append-nil us in
    let mid = latest_from old xs in
    let there = reset old xs first in
    let then = Turns-weaker (IsSame mid) (IsReplaced bytes mid) (IsReset old) (IsAlone bytes)
    (λ m p. (p.0 ∙ there.0, p.1 ∙ there.1, p.2 ∙ there.2)) (λ m p. (p.0, p.1 ∙ there.1, p.2 ∙ there.2)) us second.1 in
    let last = replaced bytes mid us second in
    let alone : IsAlone bytes (latest_from old (xs ++ us)) =
    along (IsAlone bytes) old xs us (last.0, last.1 ∙ there.1, last.2 ∙ there.2) in
    subst (λ r. Emptying bytes r old added) (sym end.0)
    (subst (λ (l : List Moment). Emptying bytes (Ok tt) old l) (sym (at ∙ ap (λ (l : List Moment). xs ++ l) all))
    (Runs-of (IsSame old) (IsReset old) (IsAlone bytes) xs us first.1 then, alone))

-- after a sync that went well, what the replacement and the reset add is that of a save while guarded
guarding_by : (bytes : List ℕ) (result : Result (Unit {0}) SaveFault) (old : Moment) (xs ys : List Moment)
    → AddedBy done Syncing Synced old xs → Makes bytes (replaces ∷ resets ∷ []) result (latest_from old xs) ys → Guarding bytes result old (xs ++ ys)
guarding_by bytes result old xs ys sync made =
    let mid = latest_from old xs in
    let there = latest_from-some (IsSyncedMore old) old xs sync.0 sync.1 in
    let whole : mid.synced ≡ length old.swap = sync.2 ∙ ap length there.1 in
    let P : (m : Moment) → IsSame mid m → IsSyncedMore old m =
    λ m p. (p.0 ∙ there.0, p.1 ∙ there.1, omega (arith, p.2, there.2), omega (arith, p.2, whole, ap length (p.1 ∙ there.1))) in
    let Q : (m : Moment) → IsReplaced bytes mid m → IsBeside bytes old m =
    λ m p. (p.0, p.1 ∙ there.1, p.2 ∙ whole) in
    let runs : Runs (IsSame mid) (IsReplaced bytes mid) (IsAlone bytes) ys → Runs (IsSyncedMore old) (IsBeside bytes old) (IsAlone bytes) (xs ++ ys) =
    λ r. Runs-front (IsSyncedMore old) (IsBeside bytes old) (IsAlone bytes) xs ys sync.1
    (r.0, r.1, r.2, r.3, All-weaker (IsSame mid) (IsSyncedMore old) P r.0 r.4, All-weaker (IsReplaced bytes mid) (IsBeside bytes old) Q r.1 r.5, r.6) in
    let turns : Turns (IsSame mid) (IsReplaced bytes mid) ys → Turns (IsSyncedMore old) (IsBeside bytes old) (xs ++ ys) =
    λ t. Turns-front (IsSyncedMore old) (IsBeside bytes old) xs ys sync.1
    (Turns-weaker (IsSame mid) (IsReplaced bytes mid) (IsSyncedMore old) (IsBeside bytes old) P Q ys t) in
    elim result as (λ r. Leaving bytes r mid ys → Guarding bytes r old (xs ++ ys)) [
      | Ok value ↦ λ l. (runs l.0, along (IsAlone bytes) old xs ys l.1)
      | Err fault.Sync ↦ λ l. absurd l
      | Err fault.Replace ↦ turns
      | Err fault.Reset ↦ λ l. (runs l.0, along (λ m. m.saved ≡ bytes) old xs ys l.1)
      | Err fault.NoMemory ↦ turns
    ] (leaving bytes result mid ys made)

pub guarding : (bytes : List ℕ) (result : Result (Unit {0}) SaveFault) (old : Moment) (added : List Moment)
    → Makes bytes (syncs ∷ replaces ∷ resets ∷ []) result old added → Guarding bytes result old added
guarding bytes result old added (inl none) =
    subst (λ r. Guarding bytes r old added) (sym none.0) ([], [], none.1, tt, tt)
guarding bytes result old added (inr (inl failed)) =
    subst (λ r. Guarding bytes r old added) (sym failed.0) failed.1.0
guarding bytes result old added (inr (inr (xs, ys, at, first, made))) =
    subst (λ (l : List Moment). Guarding bytes result old l) (sym at) (guarding_by bytes result old xs ys first made)

-- with the runs
pub with_guarding : (bytes : List ℕ) (r : Result (Unit {0}) SaveFault) (x y : Option (List Moment)) → AddsMoments (Makes bytes (syncs ∷ replaces ∷ resets ∷ []) r) x y
    → AddsMoments (λ old added. Makes bytes (syncs ∷ replaces ∷ resets ∷ []) r old added × Guarding bytes r old added) x y
with_guarding bytes r x y p =
    AddsMoments-weaker (Makes bytes (syncs ∷ replaces ∷ resets ∷ []) r)
    (λ old added. Makes bytes (syncs ∷ replaces ∷ resets ∷ []) r old added × Guarding bytes r old added) x y p
    (λ old added made. (made, guarding bytes r old added made))

pub with_emptying : (bytes : List ℕ) (r : Result (Unit {0}) SaveFault) (x y : Option (List Moment)) → AddsMoments (Makes bytes (resets ∷ replaces ∷ []) r) x y
    → AddsMoments (λ old added. Makes bytes (resets ∷ replaces ∷ []) r old added × Emptying bytes r old added) x y
with_emptying bytes r x y p =
    AddsMoments-weaker (Makes bytes (resets ∷ replaces ∷ []) r)
    (λ old added. Makes bytes (resets ∷ replaces ∷ []) r old added × Emptying bytes r old added) x y p
    (λ old added made. (made, emptying bytes r old added made))

pub with_leaving : (bytes : List ℕ) (r : Result (Unit {0}) SaveFault) (x y : Option (List Moment)) → AddsMoments (Makes bytes (replaces ∷ resets ∷ []) r) x y
    → AddsMoments (λ old added. Makes bytes (replaces ∷ resets ∷ []) r old added × Leaving bytes r old added) x y
with_leaving bytes r x y p =
    AddsMoments-weaker (Makes bytes (replaces ∷ resets ∷ []) r)
    (λ old added. Makes bytes (replaces ∷ resets ∷ []) r old added × Leaving bytes r old added) x y p
    (λ old added made. (made, leaving bytes r old added made))

-- the last moment of a save that went well
abbrev pub Alone : List ℕ → Option (List Moment) → Option (List Moment) → Type 0
Alone bytes x y = AddsMoments (λ old added. IsAlone bytes (latest_from old added)) x y

pub alone_guarding : (bytes : List ℕ) (r : Result (Unit {0}) SaveFault) (x y : Option (List Moment)) → AddsMoments (Makes bytes (syncs ∷ replaces ∷ resets ∷ []) r) x y
    → OnOk r (Alone bytes x y)
alone_guarding bytes (Ok v) x y p =
    AddsMoments-weaker (Makes bytes (syncs ∷ replaces ∷ resets ∷ []) (Ok v)) (λ old added. IsAlone bytes (latest_from old added)) x y p
    (λ old added made. (guarding bytes (Ok v) old added made).1)
alone_guarding bytes (Err e) x y p = tt

pub alone_emptying : (bytes : List ℕ) (r : Result (Unit {0}) SaveFault) (x y : Option (List Moment)) → AddsMoments (Makes bytes (resets ∷ replaces ∷ []) r) x y
    → OnOk r (Alone bytes x y)
alone_emptying bytes (Ok v) x y p =
    AddsMoments-weaker (Makes bytes (resets ∷ replaces ∷ []) (Ok v)) (λ old added. IsAlone bytes (latest_from old added)) x y p
    (λ old added made. (emptying bytes (Ok v) old added made).1)
alone_emptying bytes (Err e) x y p = tt

pub alone_leaving : (bytes : List ℕ) (r : Result (Unit {0}) SaveFault) (x y : Option (List Moment)) → AddsMoments (Makes bytes (replaces ∷ resets ∷ []) r) x y
    → OnOk r (Alone bytes x y)
alone_leaving bytes (Ok v) x y p =
    AddsMoments-weaker (Makes bytes (replaces ∷ resets ∷ []) (Ok v)) (λ old added. IsAlone bytes (latest_from old added)) x y p
    (λ old added made. (leaving bytes (Ok v) old added made).1)
alone_leaving bytes (Err e) x y p = tt

-- each step keeps the swap or empties it
step_keeps : (bytes : List ℕ) (step : Step) (r : Result (Unit {0}) DiskFail) (old : Moment) (added : List Moment) → Adds bytes step r old added → KeepsSwap old (latest_from old added)
step_keeps bytes syncs r old added by =
    inl (latest_from-all (λ m. m.swap ≡ old.swap) old added refl
    (All-weaker (IsSyncedMore old) (λ m. m.swap ≡ old.swap) (λ m p. p.1) added (AddedBy-each r Syncing Synced old added tt by)))
step_keeps bytes replaces r old added by =
    inl (swap_stays bytes old added (AddedBy-each r (Replacing bytes) (Replaced bytes) old added ([], [], refl, tt, tt) by))
step_keeps bytes resets r old added by =
    latest_from-all (KeepsSwap old) old added (inl refl)
    (Turns-all (IsSame old) (IsReset old) (KeepsSwap old) (λ m p. inl p.1) (λ m p. inr p.1) added
    (AddedBy-each r Resetting Reset old added ([], [], refl, tt, tt) by))

keeps-trans : (a b m : Moment) → KeepsSwap a b → KeepsSwap b m → KeepsSwap a m
keeps-trans a b m (inl p) (inl q) = inl (q ∙ p)
keeps-trans a b m (inr p) (inl q) = inr (q ∙ p)
keeps-trans a b m p (inr q) = inr q

makes_keeps : (bytes : List ℕ) (steps : List Step) (r : Result (Unit {0}) SaveFault) (old : Moment) (added : List Moment) → Makes bytes steps r old added
    → KeepsSwap old (latest_from old added)
makes_keeps bytes [] r old added made = inl (ap (λ (l : List Moment). (latest_from old l).swap) made.1)
makes_keeps bytes (step ∷ steps) r old added (inl none) = inl (ap (λ (l : List Moment). (latest_from old l).swap) none.1)
makes_keeps bytes (step ∷ steps) r old added (inr (inl failed)) = step_keeps bytes step (Err disk.Failed) old added failed.1
makes_keeps bytes (step ∷ steps) r old added (inr (inr (xs, ys, at, first, then))) =
    subst (λ (l : List Moment). KeepsSwap old (latest_from old l)) (sym at)
    (along (KeepsSwap old) old xs ys
    (keeps-trans old (latest_from old xs) (latest_from (latest_from old xs) ys)
    (step_keeps bytes step done old xs first) (makes_keeps bytes steps r (latest_from old xs) ys then)))

pub keeps : (bytes : List ℕ) (steps : List Step) (r : Result (Unit {0}) SaveFault) (x y : Option (List Moment)) → AddsMoments (Makes bytes steps r) x y
    → AddsMoments (λ old added. KeepsSwap old (latest_from old added)) x y
keeps bytes steps r x y p =
    AddsMoments-weaker (Makes bytes steps r) (λ old added. KeepsSwap old (latest_from old added)) x y p (makes_keeps bytes steps r)

-- ---- a call that went well or failed adds a moment

-- moments were added, or the disk does not tell
abbrev pub Moves : Option (List Moment) → Option (List Moment) → Type 0
Moves x y = IfSome x (λ _. y ≢ x)

longer : (b d xs : List Moment) → d ≡ b ++ xs → 0 < length xs → Some d ≢ Some b
longer b d xs at some e =
    let same : d ≡ b = cc in
    omega (arith, ap length at, length-append b xs, ap length same, some)

some-step : (step : Step) (bytes : List ℕ) (old : Moment) (added : List Moment) → Adds bytes step done old added → 0 < length added
some-step syncs bytes old added by = by.0
some-step replaces bytes old added by = by.0
some-step resets bytes old added by = by.0

some-failed : (old : Moment) (added : List Moment) → old.faults < (latest_from old added).faults → 0 < length added
some-failed old [] less = absurd (omega (arith, less))
some-failed old (m ∷ added) less = omega arith

some-fails : (step : Step) (bytes : List ℕ) (old : Moment) (added : List Moment) → Adds bytes step (Err disk.Failed) old added → 0 < length added
some-fails syncs bytes old added by = some-failed old added by.2
some-fails replaces bytes old added by = some-failed old added by.2
some-fails resets bytes old added by = some-failed old added by.2

-- where the first step was made
pub moves-then : (bytes : List ℕ) (step : Step) (steps : List Step) (r : Result (Unit {0}) SaveFault) (x y z : Option (List Moment))
    → AddsMoments (Adds bytes step done) x y → AddsMoments (Makes bytes steps r) y z → Moves x z
moves-then bytes step steps r None y z p q = tt
moves-then bytes step steps r (Some b) None z p q = absurd p
moves-then bytes step steps r (Some b) (Some c) None p q = absurd q
moves-then bytes step steps r (Some b) (Some c) (Some d) p q =
    longer b d (p.0 ++ q.0) (q.1 ∙ ap (λ (l : List Moment). l ++ q.0) p.1 ∙ append_assoc b p.0 q.0)
    (omega (arith, length-append p.0 q.0, some-step step bytes (latest b) p.0 p.2))

pub moves-failed : (step : Step) (bytes : List ℕ) (x y : Option (List Moment)) → AddsMoments (Adds bytes step (Err disk.Failed)) x y → Moves x y
moves-failed step bytes None y p = tt
moves-failed step bytes (Some b) None p = absurd p
moves-failed step bytes (Some b) (Some c) p = longer b c p.0 p.1 (some-fails step bytes (latest b) p.0 p.2)

some-makes : (bytes : List ℕ) (step : Step) (steps : List Step) (old : Moment) (added : List Moment) → Makes bytes (step ∷ steps) (Ok tt) old added → 0 < length added
some-makes bytes step steps old added (inl none) = let e = none.0 in absurd (cc)
some-makes bytes step steps old added (inr (inl failed)) = let e = failed.0 in absurd (cc)
some-makes bytes step steps old added (inr (inr (xs, ys, at, first, then))) =
    omega (arith, ap length at, length-append xs ys, some-step step bytes old xs first)

pub moves-ok : (bytes : List ℕ) (step : Step) (steps : List Step) (r : Result (Unit {0}) SaveFault) (x y : Option (List Moment))
    → AddsMoments (Makes bytes (step ∷ steps) r) x y → OnOk r (Moves x y)
moves-ok bytes step steps (Ok v) None y p = tt
moves-ok bytes step steps (Ok v) (Some b) None p = absurd p
moves-ok bytes step steps (Ok v) (Some b) (Some c) p = longer b c p.0 p.1 (some-makes bytes step steps (latest b) p.0 p.2)
moves-ok bytes step steps (Err e) x y p = tt

pub moves-to : (R : Type 0) (x y : Option (List Moment)) → Moves x y → IfSome x (λ _. y ≡ x → R)
moves-to R None y m = tt
moves-to R (Some b) y m = λ e. absurd (m e)

pub failed-keeps : (step : Step) (bytes : List ℕ) (x y : Option (List Moment)) → AddsMoments (Adds bytes step (Err disk.Failed)) x y
    → AddsMoments (λ old added. KeepsSwap old (latest_from old added)) x y
failed-keeps step bytes x y p =
    AddsMoments-weaker (Adds bytes step (Err disk.Failed)) (λ old added. KeepsSwap old (latest_from old added)) x y p
    (step_keeps bytes step (Err disk.Failed))

-- an error of a save, as its result
abbrev pub failing : SaveFault → Result (Unit {0}) SaveFault
failing f = Err f
