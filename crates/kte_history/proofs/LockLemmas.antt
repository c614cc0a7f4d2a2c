-- The oldest lock, and the locks after one was removed.
use Rattle.std.proofs.Common.{◌≡◌, suc, not, ◌||◌, ◌==◌, ⊎_elim, ℕ, ◌+◌, ◌≤◌, ◌<◌, Bool, true, false, if◌then◌else◌, List, [], ◌∷◌, ◌++◌, length, Option, None, Some, IfSome, IsTrue, min, unwrap_or, All, Any, AllPairs, Contains, subst, sym, ap, refl, ◌∙◌, arith, count_by}
use Rattle.std.proofs.lemmas.Bool.{cases_lt, false≢true}
use Rattle.std.proofs.Common.{one-add}
use Rattle.std.proofs.lemmas.Bool.Decides.{nat_tests}
use Rattle.std.proofs.lemmas.List.Elements.{All-nil, All-cons, All-head, All-tail, All-weaker, All-contains_itself}
use Rattle.std.proofs.lemmas.List.Sums.{sum_by-cons}
use Rattle.std.specs.List.{list_any, position_or_len, remove}
use Rattle.kte_history.specs.declared.lock.Lock.{Lock}
use Rattle.kte_history.specs.declared.lock.Owner.{Owner}
use Rattle.kte_history.specs.Locks.{oldest, is_locked, has_lock, is_lock_of, unlocked}
use Rattle.kte_history.specs.Laws.{OldestIsLeast, NoOldest, UnlocksOne, UnlocksNoOther}

at_min : (P : ℕ → Type 0) (a b : ℕ) → P a → P b → P (min a b)
at_min P a b at_a at_b =
    ⊎_elim (λ lt. subst P (let first : a ≡ min a b = omega (arith, lt) in first) at_a)
    (λ ge. subst P (let second : b ≡ min a b = omega (arith, ge) in second) at_b) (cases_lt a b)

-- what is so of every locked revision is so of the oldest
pub at_oldest : (P : ℕ → Type 0) (locks : List Lock) → All (λ lock. P lock.revision) locks → IfSome (oldest locks) P
at_oldest P [] all = tt
at_oldest P (lock ∷ []) all =
    let first = All-head (λ lock. P lock.revision) lock [] all in at_min P lock.revision lock.revision first first
at_oldest P (lock ∷ next ∷ locks) all =
    at_min P lock.revision _ (All-head (λ lock. P lock.revision) lock (next ∷ locks) all)
    (at_oldest P (next ∷ locks) (All-tail (λ lock. P lock.revision) lock (next ∷ locks) all))

-- .. and of each of them
pub at_locked : (P : ℕ → Type 0) (locks : List Lock) (revision : ℕ) → All (λ lock. P lock.revision) locks
    → IsTrue (is_locked locks revision) → P revision
at_locked P [] revision all is = absurd (false≢true is)
at_locked P (lock ∷ locks) revision all is =
    by_test (at_locked P locks revision (All-tail (λ other. P other.revision) lock locks all)) (lock.revision == revision) refl is where
      by_test : (IsTrue (is_locked locks revision) → P revision) → (b : Bool) → (lock.revision == revision) ≡ b
          → IsTrue (b || is_locked locks revision) → P revision
      by_test rest true same is =
          subst P (let here : lock.revision ≡ revision = grind (arith, nat_tests) in here) (All-head (λ other. P other.revision) lock locks all)
      by_test rest false other is = rest is

-- no lock is on an older revision
pub least : (locks : List Lock) → IfSome (oldest locks) (λ revision. All (λ lock. revision ≤ lock.revision) locks)
least [] = tt
least (lock ∷ []) = All-cons (λ other. min lock.revision lock.revision ≤ other.revision) lock [] (omega arith) (All-nil _)
least (lock ∷ next ∷ locks) = with_first _ (least (next ∷ locks)) where
  with_first : (revision : ℕ) → All (λ other. revision ≤ other.revision) (next ∷ locks)
      → All (λ other. min lock.revision revision ≤ other.revision) (lock ∷ next ∷ locks)
  with_first revision all =
      All-cons (λ other. min lock.revision revision ≤ other.revision) lock (next ∷ locks) (omega arith)
      (All-weaker (λ other. revision ≤ other.revision) (λ other. min lock.revision revision ≤ other.revision) (λ other le. omega (arith, le)) (next ∷ locks) all)

pub no_oldest : NoOldest
no_oldest [] = refl
no_oldest (lock ∷ locks) = tt

-- a locked revision is that of some lock
on_some_lock : (locks : List Lock) → All (λ lock. Any (λ other. other.revision ≡ lock.revision) locks) locks
on_some_lock locks =
    All-weaker (Contains locks) (λ lock. Any (λ other. other.revision ≡ lock.revision) locks)
    (λ lock at. (at.0, lock, at.1, at.2, refl)) locks (All-contains_itself locks)

pub oldest_is_least : OldestIsLeast
oldest_is_least locks =
    both _ _ (oldest locks) (at_oldest (λ revision. Any (λ lock. lock.revision ≡ revision) locks) locks (on_some_lock locks)) (least locks) where
      both : (P Q : ℕ → Type 0) (o : Option ℕ) → IfSome o P → IfSome o Q → IfSome o (λ n. P n × Q n)
      both P Q None p q = tt
      both P Q (Some n) p q = (p, q)

-- a lock on the latest revision changes the oldest only where there was none
pub oldest-push : (locks : List Lock) (lock : Lock) → All (λ other. other.revision ≤ lock.revision) locks
    → oldest (locks ++ lock ∷ []) ≡ Some (unwrap_or (oldest locks) lock.revision)
oldest-push [] lock all = ap Some (omega arith)
oldest-push (first ∷ []) lock all =
    let le = All-head (λ other. other.revision ≤ lock.revision) first [] all in ap Some (omega arith)
oldest-push (first ∷ next ∷ locks) lock all =
    ap (λ o. Some (min first.revision (unwrap_or o first.revision)))
    (oldest-push (next ∷ locks) lock (All-tail (λ other. other.revision ≤ lock.revision) first (next ∷ locks) all))

-- the first of locks in the order of their revisions is on the oldest
pub oldest-rising : (lock : Lock) (locks : List Lock) → AllPairs (λ a b. a.revision ≤ b.revision) (lock ∷ locks)
    → oldest (lock ∷ locks) ≡ Some lock.revision
oldest-rising lock locks rising =
    let from_first : All (λ other. lock.revision ≤ other.revision) (lock ∷ locks) =
    All-cons (λ other. lock.revision ≤ other.revision) lock locks (omega arith)
    (λ k d within. rising 0 (suc k) d (omega arith) (omega arith)) in
    let above = at_oldest (λ revision. lock.revision ≤ revision) (lock ∷ locks) from_first in
    ap Some (below _ (least (lock ∷ locks)) above) where
      below : (n : ℕ) → All (λ other. n ≤ other.revision) (lock ∷ locks) → lock.revision ≤ n → n ≡ lock.revision
      below n all above = omega (arith, above, All-head (λ other. n ≤ other.revision) lock locks all)

-- what is so of every lock is so of those that are left
pub All-unlocked : (P : Lock → Type 0) (locks : List Lock) (owner : Owner) (revision : ℕ) → All P locks
    → All P (unlocked locks owner revision)
All-unlocked P [] owner revision all = all
All-unlocked P (lock ∷ locks) owner revision all =
    let later = All-tail P lock locks all in
    by_test later (All-unlocked P locks owner revision later) (is_lock_of owner revision lock) where
      by_test : All P locks → All P (unlocked locks owner revision) → (b : Bool) → All P (if b then locks else lock ∷ unlocked locks owner revision)
      by_test later left true = later
      by_test later left false = All-cons P lock (unlocked locks owner revision) (All-head P lock locks all) left

-- an owner has a lock exactly where a search finds one
pub has_lock-position : (test : Lock → Bool) (locks : List Lock)
    → (list_any test locks ≡ true → position_or_len test locks < length locks) × (list_any test locks ≡ false → length locks ≤ position_or_len test locks)
has_lock-position test [] = (λ e. absurd (cc), λ e. omega arith)
has_lock-position test (lock ∷ locks) = grind (arith, nat_tests, has_lock-position test locks)

-- the place of the first element that passes, of those behind the first element, by whether that one
-- passes
abbrev place : ℕ → Bool → ℕ
place later b = if not b then 1 + later else 0

-- .. and that one is removed
pub unlocked-remove : (locks : List Lock) (owner : Owner) (revision : ℕ)
    → position_or_len (is_lock_of owner revision) locks < length locks
    → unlocked locks owner revision ≡ remove locks (position_or_len (is_lock_of owner revision) locks)
unlocked-remove [] owner revision within = absurd (omega arith)
unlocked-remove (lock ∷ locks) owner revision within =
    by_test (unlocked-remove locks owner revision) (is_lock_of owner revision lock) within where
      by_test : (position_or_len (is_lock_of owner revision) locks < length locks → unlocked locks owner revision ≡ remove locks (position_or_len (is_lock_of owner revision) locks))
          → (b : Bool) → place (position_or_len (is_lock_of owner revision) locks) b < length (lock ∷ locks)
          → (if b then locks else lock ∷ unlocked locks owner revision) ≡ remove (lock ∷ locks) (place (position_or_len (is_lock_of owner revision) locks) b)
      by_test rest true within = refl
      by_test rest false within = rw one-add (ap (λ left. lock ∷ left) (rest (omega arith)))

count_by-cons : (test : Lock → Bool) (lock : Lock) (locks : List Lock)
    → count_by test (lock ∷ locks) ≡ (if test lock then 1 else 0) + count_by test locks
count_by-cons test lock locks = sum_by-cons (λ other. if test other then 1 else 0) lock locks

-- nothing is removed where the owner has no lock
pub unlocked-none : (locks : List Lock) (owner : Owner) (revision : ℕ) → has_lock locks owner revision ≡ false
    → unlocked locks owner revision ≡ locks
unlocked-none [] owner revision none = refl
unlocked-none (lock ∷ locks) owner revision none =
    by_test (unlocked-none locks owner revision) (is_lock_of owner revision lock) none where
      by_test : (has_lock locks owner revision ≡ false → unlocked locks owner revision ≡ locks)
          → (b : Bool) → (b || has_lock locks owner revision) ≡ false
          → (if b then locks else lock ∷ unlocked locks owner revision) ≡ lock ∷ locks
      by_test rest true none = absurd (cc)
      by_test rest false none = ap (λ left. lock ∷ left) (rest none)

pub unlocks_one : UnlocksOne
unlocks_one [] owner revision has = absurd (false≢true has)
unlocks_one (lock ∷ locks) owner revision has =
    by_test (unlocks_one locks owner revision) (is_lock_of owner revision lock) refl has where
      by_test : (IsTrue (has_lock locks owner revision) → count_by (is_lock_of owner revision) (unlocked locks owner revision) + 1 ≡ count_by (is_lock_of owner revision) locks)
          → (b : Bool) → is_lock_of owner revision lock ≡ b → IsTrue (b || has_lock locks owner revision)
          → count_by (is_lock_of owner revision) (if b then locks else lock ∷ unlocked locks owner revision) + 1
          ≡ count_by (is_lock_of owner revision) (lock ∷ locks)
      by_test rest true e has = rw (count_by-cons, e) (omega arith)
      by_test rest false e has =
          let left = rest has in rw (count_by-cons _ lock (unlocked locks owner revision), count_by-cons _ lock locks, e) (omega (arith, left))

pub unlocks_no_other : UnlocksNoOther
unlocks_no_other [] owner other revision another apart = refl
unlocks_no_other (lock ∷ locks) owner other revision another apart =
    by_test (unlocks_no_other locks owner other revision another apart) (is_lock_of owner revision lock) refl where
      by_test : count_by (is_lock_of other another) (unlocked locks owner revision) ≡ count_by (is_lock_of other another) locks
          → (b : Bool) → is_lock_of owner revision lock ≡ b
          → count_by (is_lock_of other another) (if b then locks else lock ∷ unlocked locks owner revision) ≡ count_by (is_lock_of other another) (lock ∷ locks)
      by_test rest true e = rw (count_by-cons, apart lock e) (omega arith)
      by_test rest false e =
          count_by-cons _ lock (unlocked locks owner revision) ∙ ap (λ n. (if is_lock_of other another lock then 1 else 0) + n) rest
          ∙ sym (count_by-cons _ lock locks)
