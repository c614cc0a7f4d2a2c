-- Lemmas for callers of a disk: what lengths and reads leave.
use Rattle.std.proofs.Common.{◌≡◌, List, ℕ, Option, Some, None, Result, IfSome, refl, ap, ◌∙◌}
use Rattle.kte_causes.specs.declared.causes.DiskFail.{DiskFail}
use Rattle.kte_causes.specs.Moments.{Moment, latest, latest_from, nowhere, saved_now, swap_now, AddsMoments, AddedBy, IsSame, Staying, Stayed}
use Rattle.kte_causes.proofs.Added.{latest_from-append, latest_from-all, All-weaker, All-append, AddsMoments-none, AddsMoments-weaker, AddsMoments-then, AddedBy-each}

IsSame-trans : (a b m : Moment) → IsSame a b → IsSame b m → IsSame a m
IsSame-trans a b m p q = (q.0 ∙ p.0, q.1 ∙ p.1, q.2 ∙ p.2)

-- nothing was asked of the disk
pub Staying-none : (x : Option (List Moment)) → AddsMoments Staying x x
Staying-none x = AddsMoments-none Staying x (λ old. tt)

-- a length or a read leaves both files, whatever it returns
pub Staying-after : {T : Type 0} (r : Result T DiskFail) (x y : Option (List Moment)) → AddsMoments (AddedBy r Staying Stayed) x y → AddsMoments Staying x y
Staying-after r x y call =
    AddsMoments-weaker (AddedBy r Staying Stayed) Staying x y call (λ old added by. AddedBy-each r Staying Stayed old added tt by)

-- and so do several, one after another
pub Staying-then : (x y z : Option (List Moment)) → AddsMoments Staying x y → AddsMoments Staying y z → AddsMoments Staying x z
Staying-then x y z p q =
    AddsMoments-then Staying Staying Staying x y z p q
    (λ old xs ys first second.
    let same : IsSame old (latest_from old xs) =
    latest_from-all (IsSame old) old xs (refl, refl, refl) first in
    All-append (IsSame old) xs ys first
    (All-weaker (IsSame (latest_from old xs)) (IsSame old) (λ m q. IsSame-trans old (latest_from old xs) m same q) ys second))

-- the saved bytes then are those before
pub saved_now-stays : (x y : Option (List Moment)) → AddsMoments Staying x y → IfSome (saved_now x) (λ saved. saved_now y ≡ Some saved)
saved_now-stays None y p = tt
saved_now-stays (Some b) None p = absurd p
saved_now-stays (Some b) (Some c) p =
    let at : latest c ≡ latest_from (latest b) p.0 = ap latest p.1 ∙ latest_from-append nowhere b p.0 in
    let same : IsSame (latest b) (latest_from (latest b) p.0) =
    latest_from-all (IsSame (latest b)) (latest b) p.0 (refl, refl, refl) p.2 in
    ap Some (ap (λ (m : Moment). m.saved) at ∙ same.0)

-- and so are the swap bytes
pub swap_now-stays : (x y : Option (List Moment)) → AddsMoments Staying x y → IfSome (swap_now x) (λ swap. swap_now y ≡ Some swap)
swap_now-stays None y p = tt
swap_now-stays (Some b) None p = absurd p
swap_now-stays (Some b) (Some c) p =
    let at : latest c ≡ latest_from (latest b) p.0 = ap latest p.1 ∙ latest_from-append nowhere b p.0 in
    let same : IsSame (latest b) (latest_from (latest b) p.0) =
    latest_from-all (IsSame (latest b)) (latest b) p.0 (refl, refl, refl) p.2 in
    ap Some (ap (λ (m : Moment). m.swap) at ∙ same.1)

-- what holds of the saved bytes of the last moment, in the words of a disk's clauses
pub saved_now-holds : (P : List ℕ → Type 0) (x : Option (List Moment)) → IfSome x (λ ms. P (latest ms).saved) → IfSome (saved_now x) P
saved_now-holds P None h = tt
saved_now-holds P (Some ms) h = h
