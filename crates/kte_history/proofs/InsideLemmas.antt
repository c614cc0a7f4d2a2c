-- The fields of a history: what is kept of its entries, and how a lock is found.
use Rattle.std.proofs.Common.{◌≡◌, ℕ, ◌+◌, ◌-◌, ◌≤◌, ◌<◌, ◌==◌, ◌||◌, Bool, true, false, List, [], ◌∷◌, ◌++◌, length, drop, get_or, length-drop, length-append, Option, None, Some, IfSome, IfNone, IsTrue, MatchOption, if◌then◌else◌, nat_lt, Any, Result, Ok, Err, is_ok, unwrap_or, All, subst, sym, ap, refl, ◌∙◌, ⊎_elim, arith}
use Rattle.std.proofs.lemmas.Bool.{cases_lt}
use Rattle.std.proofs.lemmas.Bool.Decides.{nat_tests}
use Rattle.std.proofs.lemmas.Cmp.{ranked}
use Rattle.std.proofs.lemmas.List.{drop-drop, drop-append-le, drop_all}
use Rattle.std.proofs.lemmas.List.Elements.{All-nil, All-same, All-drop, All-push, All-contains_itself}
use Rattle.std.proofs.lemmas.List.Quantifiers.{all_pairs_remove}
use Rattle.std.specs.List.{list_any, position, position_or_len, remove}
use Rattle.std.proofs.lemmas.List.Folds.{list_any-from_Any, list_any_none}
use Rattle.std.specs.Option.{is_some}
use Rattle.std.specs.List.Sorted.{IsSearchInRange, IsBinarySearchResult, IsNonDecreasingBy}
use Rattle.std.specs.Ordering.{nat_cmp, ordering_index}
use Rattle.kte_place.specs.declared.entry.Entry.{Entry}
use Rattle.kte_place.specs.Entry.{EntryFits}
use Rattle.kte_history.specs.declared.lock.Lock.{Lock}
use Rattle.kte_history.specs.declared.lock.Owner.{Owner}
use Rattle.kte_history.specs.Locks.{oldest, is_locked, is_lock_of, has_lock, unlocked, IsRising}
use Rattle.kte_history.specs.Revisions.{Revisions, with_entry, entries_since, kept_since}
use Rattle.kte_history.specs.Inside.{IsReached, IsSound}
use Rattle.kte_history.proofs.LockLemmas.{at_oldest, at_locked, least, no_oldest, oldest-push, oldest-rising, All-unlocked, has_lock-position, unlocked-remove, unlocked-none}

abbrev AreReached : ℕ → ℕ → List Lock → Type 0
AreReached current entries locks = All (λ lock. IsReached current entries lock.revision) locks

-- ---- what is kept

-- as many entries are kept as came after the oldest lock
pub length-kept : (current : ℕ) (locks : List Lock) (entries : List Entry) (first : ℕ) → AreReached current (length entries) locks
    → oldest locks ≡ Some first → length (kept_since current (oldest locks) entries) ≡ current - first
length-kept current locks entries first reached is =
    let at = rw is at (at_oldest (IsReached current (length entries)) locks reached) in
    let stored = at.stored in
    rw is (omega (arith, length-drop (length entries - (current - first)) entries))

pub oldest-past : (current : ℕ) (locks : List Lock) (entries first : ℕ) → AreReached current entries locks
    → oldest locks ≡ Some first → first ≤ current
oldest-past current locks entries first reached is = (rw is at (at_oldest (IsReached current entries) locks reached)).past

-- the kept entries reach back to each lock
pub kept-reached : (current : ℕ) (locks : List Lock) (entries : List Entry) → AreReached current (length entries) locks
    → AreReached current (length (kept_since current (oldest locks) entries)) locks
kept-reached current locks entries reached =
    by_oldest (oldest locks) refl (least locks) (no_oldest locks) where
      by_oldest : (o : Option ℕ) → oldest locks ≡ o → IfSome o (λ n. All (λ lock. n ≤ lock.revision) locks) → IfNone o (locks ≡ [])
          → AreReached current (length (kept_since current (oldest locks) entries)) locks
      by_oldest None is above nothing = All-same (λ lock. IsReached current (length (kept_since current (oldest locks) entries)) lock.revision) locks [] nothing (All-nil _)
      by_oldest (Some first) is above nothing = λ k d within.
          let past = (reached k d within).past in let le = above k d within in
          record { past = past; stored = omega (arith, length-kept current locks entries first reached is) }

-- what is kept is among the last so many entries
pub kept_since-last : (current : ℕ) (locks : List Lock) (entries : List Entry) (gone : ℕ) → AreReached current (length entries) locks
    → gone + length (kept_since current (oldest locks) entries) ≡ length entries
    → kept_since current (oldest locks) (drop gone entries) ≡ kept_since current (oldest locks) entries
kept_since-last current locks entries gone reached rest =
    by_oldest (oldest locks) refl where
      by_oldest : (o : Option ℕ) → oldest locks ≡ o → kept_since current o (drop gone entries) ≡ kept_since current o entries
      by_oldest None is = refl
      by_oldest (Some first) is =
          drop-drop _ gone entries
          ∙ ap (λ n. drop n entries) (omega (arith, length-drop gone entries, length-kept current locks entries first reached is))

-- with one more entry
pub kept_since-push : (current first : ℕ) (entries : List Entry) (entry : Entry) → first ≤ current → current ≤ first + length entries
    → entries_since (current + 1) first (entries ++ entry ∷ []) ≡ entries_since current first entries ++ entry ∷ []
kept_since-push current first entries entry past stored =
    ap (λ n. drop n (entries ++ entry ∷ [])) (omega (arith, length-append entries (entry ∷ [])))
    ∙ drop-append-le (length entries - (current - first)) entries (entry ∷ []) (omega arith)

pub length-kept-le : (current : ℕ) (first : Option ℕ) (entries : List Entry) → length (kept_since current first entries) ≤ length entries
length-kept-le current None entries = omega arith
length-kept-le current (Some first) entries = omega (arith, length-drop (length entries - (current - first)) entries)

-- all but the last entries are forgotten, as many as are kept
module _ (entries : List Entry) (locks : List Lock) (current limit : ℕ) (sound : IsSound entries locks current limit) where
  pub forgotten_sound : (count : ℕ) → count ≡ length (kept_since current (oldest locks) entries)
      → IsSound (drop (length entries - count) entries) locks current limit
  forgotten_sound count is = record {
    within = sound.within;
    small = sound.small;
    rising = sound.rising;
    reached = let rest : length (kept_since current (oldest locks) entries) ≡ length (drop (length entries - count) entries) =
        omega (arith, length-drop (length entries - count) entries, length-kept-le current (oldest locks) entries) in
        rw (← rest) (kept-reached current locks entries sound.reached);
    fits = All-drop EntryFits (length entries - count) entries sound.fits;
  }

  pub forgotten_kept : (count : ℕ) → count ≡ length (kept_since current (oldest locks) entries)
      → kept_since current (oldest locks) (drop (length entries - count) entries) ≡ kept_since current (oldest locks) entries
  forgotten_kept count is =
      kept_since-last current locks entries (length entries - count) sound.reached
      (omega (arith, length-kept-le current (oldest locks) entries))

  -- one more entry
  pub added_sound : (entry : Entry) → EntryFits entry → current < limit → IsSound (entries ++ entry ∷ []) locks (current + 1) limit
  added_sound entry fits room = record {
    within = omega arith;
    small = sound.small;
    rising = sound.rising;
    reached = λ k d within. let at = sound.reached k d within in
        let past = at.past in let stored = at.stored in
        record { past = omega arith; stored = omega (arith, length-append entries (entry ∷ [])) };
    fits = All-push EntryFits entries entry sound.fits fits;
  }

  pub added_kept : (entry : Entry) → kept_since (current + 1) (oldest locks) (entries ++ entry ∷ [])
      ≡ (if is_some (oldest locks) then kept_since current (oldest locks) entries ++ entry ∷ [] else [])
  added_kept entry = by_oldest (oldest locks) (at_oldest (IsReached current (length entries)) locks sound.reached) where
    by_oldest : (o : Option ℕ) → IfSome o (IsReached current (length entries))
        → kept_since (current + 1) o (entries ++ entry ∷ []) ≡ (if is_some o then kept_since current o entries ++ entry ∷ [] else [])
    by_oldest None at = refl
    by_oldest (Some first) at = kept_since-push current first entries entry at.past at.stored

-- with one more lock, on the current revision
pub kept_since-lock : (current : ℕ) (locks : List Lock) (entries : List Entry) (lock : Lock) → lock.revision ≡ current
    → AreReached current (length entries) locks
    → kept_since current (oldest (locks ++ lock ∷ [])) entries ≡ kept_since current (oldest locks) entries
kept_since-lock current locks entries lock here reached =
    rw (oldest-push locks lock (λ k d within. omega (arith, (reached k d within).past))) (by_oldest (oldest locks)) where
      by_oldest : (o : Option ℕ) → entries_since current (unwrap_or o lock.revision) entries ≡ kept_since current o entries
      by_oldest None = drop_all _ entries (omega arith)
      by_oldest (Some first) = refl

-- .. so the history is that with one more entry
abbrev reserving : ℕ → Revisions → Revisions
reserving count h = record h { reserved = count }

abbrev seen : List Entry → List Lock → ℕ → ℕ → ℕ → Revisions
seen entries locks revision limit reserved = record {
  kept = kept_since revision (oldest locks) entries;
  locks = locks;
  revision = revision;
  limit = limit;
  reserved = reserved;
}

pub added_view : (old : Revisions) (entries more : List Entry) (locks : List Lock) (revision limit any before after : ℕ) (entry : Entry)
    → seen entries locks revision limit any ≡ reserving before old → more ≡ entries ++ entry ∷ []
    → IsSound entries locks revision limit
    → seen more locks (revision + 1) limit after ≡ reserving after (with_entry entry old)
added_view old entries more locks revision limit any before after entry same is sound =
    let keeps : Revisions = reserving after (with_entry entry (seen entries locks revision limit any)) in
    let next : List Entry → Revisions = λ kept. record keeps { kept = kept } in
    ap next (ap (λ es. kept_since (revision + 1) (oldest locks) es) is ∙ added_kept entries locks revision limit sound entry)
    ∙ ap (λ h. reserving after (with_entry entry h)) same

-- the entries since a revision that can be carried from are there
pub can_land-reached : (current entries revision : ℕ) (locks : List Lock) → AreReached current entries locks
    → IsTrue (revision == current || is_locked locks revision) → IsReached current entries revision
can_land-reached current entries revision locks reached can = by_test (revision == current) refl can where
  by_test : (b : Bool) → (revision == current) ≡ b → IsTrue (b || is_locked locks revision) → IsReached current entries revision
  by_test true same can =
      let here : revision ≡ current = grind (arith, nat_tests) in record { past = omega arith; stored = omega arith }
  by_test false other can = at_locked (IsReached current entries) locks revision reached can

-- ---- how a lock is found

-- a search gives the first lock that passes, if there is one
pub position-found : (test : Lock → Bool) (locks : List Lock) → MatchOption (position test locks) (list_any test locks ≡ false)
    (λ at. (list_any test locks ≡ true) × (at ≡ position_or_len test locks) × (at < length locks))
position-found test locks = by_test (nat_lt (position_or_len test locks) (length locks)) refl where
  by_test : (b : Bool) → nat_lt (position_or_len test locks) (length locks) ≡ b
      → MatchOption (if b then Some (position_or_len test locks) else None) (list_any test locks ≡ false)
      (λ at. (list_any test locks ≡ true) × (at ≡ position_or_len test locks) × (at < length locks))
  by_test true is =
      let within : position_or_len test locks < length locks = grind (arith, nat_tests) in
      (grind (arith, has_lock-position test locks), refl, within)
  by_test false is = grind (arith, nat_tests, has_lock-position test locks)

-- a lock that a search found is the one that is removed
pub found : (locks : List Lock) (owner : Owner) (revision at : ℕ) → position (is_lock_of owner revision) locks ≡ Some at
    → (has_lock locks owner revision ≡ true) × (remove locks at ≡ unlocked locks owner revision)
found locks owner revision at is =
    let there = rw is at (position-found (is_lock_of owner revision) locks) in (
      there.0,
      ap (λ i. remove locks i) there.1 ∙ sym (unlocked-remove locks owner revision (omega (arith, there.1, there.2))),
    )

pub not_found : (locks : List Lock) (owner : Owner) (revision : ℕ) → position (is_lock_of owner revision) locks ≡ None
    → (has_lock locks owner revision ≡ false) × (locks ≡ unlocked locks owner revision)
not_found locks owner revision is =
    let none = rw is at (position-found (is_lock_of owner revision) locks) in
    (none, sym (unlocked-none locks owner revision none))

-- the locks that are left are in order
rising_unlocked : (locks : List Lock) (owner : Owner) (revision : ℕ) → IsRising locks → IsRising (unlocked locks owner revision)
rising_unlocked locks owner revision rising =
    by_search (position (is_lock_of owner revision) locks) refl (position-found (is_lock_of owner revision) locks) where
      by_search : (o : Option ℕ) → position (is_lock_of owner revision) locks ≡ o
          → MatchOption o (has_lock locks owner revision ≡ false)
          (λ at. (has_lock locks owner revision ≡ true) × (at ≡ position_or_len (is_lock_of owner revision) locks) × (at < length locks))
          → IsRising (unlocked locks owner revision)
      by_search None is none = subst IsRising (not_found locks owner revision is).1 rising
      by_search (Some at) is some =
          subst IsRising (found locks owner revision at is).1 (all_pairs_remove (λ a b. a.revision ≤ b.revision) locks at some.2 rising)

pub unlocked_sound : (entries : List Entry) (locks : List Lock) (owner : Owner) (revision current limit : ℕ) → IsSound entries locks current limit
    → IsSound entries (unlocked locks owner revision) current limit
unlocked_sound entries locks owner revision current limit sound = record {
  within = sound.within;
  small = sound.small;
  rising = rising_unlocked locks owner revision sound.rising;
  reached = All-unlocked (λ lock. IsReached current (length entries) lock.revision) locks owner revision sound.reached;
  fits = sound.fits;
}

-- the first lock is on the oldest revision
pub get_or-oldest : (locks : List Lock) (d : Lock) → IsRising locks → 1 ≤ length locks → Some (get_or locks 0 d).revision ≡ oldest locks
get_or-oldest [] d rising some = absurd (omega arith)
get_or-oldest (lock ∷ locks) d rising some = sym (oldest-rising lock locks rising)

at_index : {revision : ℕ} (locks : List Lock) (i : ℕ) → i < length locks → ((d : Lock) → (get_or locks i d).revision ≡ revision)
    → Any (λ lock. (lock.revision == revision) ≡ true) locks
at_index [] i within same = absurd (omega arith)
at_index (lock ∷ locks) i within same =
    let at = All-contains_itself (lock ∷ locks) i lock within in
    let here = same lock in (at.0, get_or (lock ∷ locks) i lock, at.1, at.2, grind (arith, nat_tests))

module _ (locks : List Lock) (rising : IsRising locks) (revision : ℕ) where
  comparisons_rise : IsNonDecreasingBy (λ lock. ordering_index (nat_cmp lock.revision revision)) locks
  comparisons_rise i j d le in_range =
      let rise : (get_or locks i d).revision ≤ (get_or locks j d).revision =
      grind (arith, rising i j d, λ (same : i ≡ j). ap (λ k. (get_or locks k d).revision) same) in
      grind (arith, nat_tests)

  pub searched : (r : Result ℕ ℕ) → IsSearchInRange r (length locks) → IsBinarySearchResult (λ lock. nat_cmp lock.revision revision) locks r
      → is_ok r ≡ is_locked locks revision
  searched (Ok i) in_range equal = sym (list_any-from_Any (λ lock. lock.revision == revision) locks (at_index locks i in_range (λ d. ranked _ revision _ (sym (equal d)))))
  searched (Err i) in_range parted =
      let sides = parted comparisons_rise in
      sym (list_any_none (λ lock. lock.revision == revision) locks (λ k d within.
      ⊎_elim
      (λ left. let below : (get_or locks k d).revision < revision = ranked _ revision _ (sym (sides.0 k d (omega arith) left)) in grind (arith, nat_tests))
      (λ right. let above : revision < (get_or locks k d).revision = ranked _ revision _ (sym (sides.1 k d right within)) in grind (arith, nat_tests))
      (cases_lt k i)))
