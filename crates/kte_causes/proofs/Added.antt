-- Lemmas on moments that are added by one call after another.
use Rattle.std.proofs.Common.{◌≡◌, List, [], ◌∷◌, ◌++◌, subst, Option, Some, None, Result, Ok, Err, refl, sym, ap, ◌∙◌, append_assoc, append-nil}
use Rattle.std.specs.List.{AllByRecursion}
use Rattle.kte_causes.specs.declared.causes.DiskFail.{DiskFail}
use Rattle.kte_causes.specs.declared.causes.DiskFail.TheVariants.{Failed, NoMemory}
use Rattle.kte_causes.specs.Moments.{Moment, latest, latest_from, nowhere, AddsMoments, AddedBy}

pub latest_from-append : (old : Moment) (xs ys : List Moment) → latest_from old (xs ++ ys) ≡ latest_from (latest_from old xs) ys
latest_from-append old [] ys = refl
latest_from-append old (m ∷ xs) ys = latest_from-append m xs ys

pub latest-push : (ms : List Moment) (m : Moment) → latest (ms ++ m ∷ []) ≡ m
latest-push ms m = latest_from-append nowhere ms (m ∷ [])

-- what holds of the last moment before and of each added one holds of the last one after
pub latest_from-all : (P : Moment → Type 0) (old : Moment) (xs : List Moment) → P old → AllByRecursion P xs → P (latest_from old xs)
latest_from-all P old [] p all = p
latest_from-all P old (m ∷ xs) p all = latest_from-all P m xs all.0 all.1

pub All-weaker : (P Q : Moment → Type 0) → ((m : Moment) → P m → Q m) → (xs : List Moment) → AllByRecursion P xs → AllByRecursion Q xs
All-weaker P Q f [] all = tt
All-weaker P Q f (m ∷ xs) all = (f m all.0, All-weaker P Q f xs all.1)

pub All-append : (P : Moment → Type 0) (xs ys : List Moment) → AllByRecursion P xs → AllByRecursion P ys → AllByRecursion P (xs ++ ys)
All-append P [] ys p q = q
All-append P (m ∷ xs) ys p q = (p.0, All-append P xs ys p.1 q)

-- no moment is added
pub AddsMoments-none : (P : Moment → List Moment → Type 0) (x : Option (List Moment)) → ((old : Moment) → P old []) → AddsMoments P x x
AddsMoments-none P None p = tt
AddsMoments-none P (Some ms) p = ([], sym (append-nil ms), p (latest ms))

pub AddsMoments-weaker : (P Q : Moment → List Moment → Type 0) (x y : Option (List Moment)) → AddsMoments P x y → ((old : Moment) (xs : List Moment) → P old xs → Q old xs) → AddsMoments Q x y
AddsMoments-weaker P Q None y p f = tt
AddsMoments-weaker P Q (Some b) None p f = absurd p
AddsMoments-weaker P Q (Some b) (Some c) p f = (p.0, p.1, f (latest b) p.0 p.2)

-- one call after another
pub AddsMoments-then : (P Q R : Moment → List Moment → Type 0) (x y z : Option (List Moment)) → AddsMoments P x y → AddsMoments Q y z → ((old : Moment) (xs ys : List Moment) → P old xs → Q (latest_from old xs) ys → R old (xs ++ ys)) → AddsMoments R x z
AddsMoments-then P Q R None y z p q f = tt
AddsMoments-then P Q R (Some b) None z p q f = absurd p
AddsMoments-then P Q R (Some b) (Some c) None p q f = absurd q
AddsMoments-then P Q R (Some b) (Some c) (Some d) p q f =
    let at : latest c ≡ latest_from (latest b) p.0 = ap latest p.1 ∙ latest_from-append nowhere b p.0 in (
      p.0 ++ q.0,
      q.1 ∙ ap (λ (l : List Moment). l ++ q.0) p.1 ∙ append_assoc b p.0 q.0,
      f (latest b) p.0 q.0 p.2 (subst (λ m. Q m q.0) at q.2),
    )

-- whatever a call returned, what it added is as the call says
pub AddedBy-each : {T : Type 0} (r : Result T DiskFail) (Each : Moment → List Moment → Type 0) (Last : Moment → Moment → Type 0) (old : Moment) (added : List Moment) → Each old [] → AddedBy r Each Last old added → Each old added
AddedBy-each (Ok v) Each Last old added none call = call.1
AddedBy-each (Err Failed) Each Last old added none call = call.0
AddedBy-each (Err NoMemory) Each Last old added none call = subst (Each old) (sym call) none
