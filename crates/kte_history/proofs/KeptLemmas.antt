-- What is kept, of a trail and of its last entries, as locks come and go.
use Rattle.std.proofs.Common.{◌≡◌, ℕ, ◌+◌, ◌-◌, ◌≤◌, ◌==◌, ◌||◌, Bool, true, false, if◌then◌else◌, List, [], ◌∷◌, ◌++◌, length, drop, length-drop, length-append, Option, None, Some, IfSome, IfNone, IsTrue, unwrap_or, All, sym, ap, refl, ◌∙◌, arith}
use Rattle.std.proofs.lemmas.Bool.Decides.{nat_tests}
use Rattle.std.proofs.lemmas.List.{drop-drop, drop-append-le, drop_all}
use Rattle.std.proofs.lemmas.List.Elements.{All-nil, All-same, All-weaker, All-push}
use Rattle.std.specs.Option.{option_map_or, is_some}
use Rattle.kte_place.specs.declared.entry.Entry.{Entry}
use Rattle.kte_place.specs.Span.{settle}
use Rattle.kte_history.specs.declared.lock.Lock.{Lock}
use Rattle.kte_history.specs.declared.lock.Owner.{Owner}
use Rattle.kte_history.specs.Locks.{oldest, kept, is_locked, unlocked}
use Rattle.kte_history.specs.Revisions.{entries_since, kept_since}
use Rattle.kte_history.specs.Inside.{IsReached}
use Rattle.kte_history.specs.Laws.{AddsToHistory, LocksHistory, UnlocksHistory, LandsOverTrail}
use Rattle.kte_history.specs.Landing.{carry_all}
use Rattle.kte_history.proofs.LockLemmas.{at_oldest, at_locked, least, no_oldest, oldest-push, All-unlocked}

-- of the entries since a revision, those since a later one
entries_since-twice : (current first later : ℕ) (entries : List Entry) → first ≤ later → later ≤ current
    → current ≤ first + length entries
    → entries_since current later (entries_since current first entries) ≡ entries_since current later entries
entries_since-twice current first later entries a b c =
    drop-drop _ (length entries - (current - first)) entries
    ∙ ap (λ n. drop n entries) (omega (arith, length-drop (length entries - (current - first)) entries))

-- the second revision, if any, is the first or a later one, and is reached
abbrev IsLater : ℕ → ℕ → Option ℕ → Option ℕ → Type 0
IsLater current entries first None = Unit {0}
IsLater current entries None (Some later) = ⊥
IsLater current entries (Some first) (Some later) = (first ≤ later) × (later ≤ current) × (current ≤ first + entries)

pub kept_since-twice : (current : ℕ) (first later : Option ℕ) (entries : List Entry) → IsLater current (length entries) first later
    → kept_since current later (kept_since current first entries) ≡ kept_since current later entries
kept_since-twice current first None entries is = refl
kept_since-twice current None (Some later) entries is = absurd is
kept_since-twice current (Some first) (Some later) entries is =
    entries_since-twice current first later entries is.0 is.1 is.2

-- fewer locks: the oldest of them is no older
oldest_later : (current entries : ℕ) (locks fewer : List Lock) → ((P : Lock → Type 0) → All P locks → All P fewer)
    → All (λ lock. IsReached current entries lock.revision) locks → IsLater current entries (oldest locks) (oldest fewer)
oldest_later current entries locks fewer among reached =
    by_first (oldest locks) (least locks) (at_oldest (IsReached current entries) locks reached) (no_oldest locks) where
      none_later : (later : Option ℕ) → IfSome later (λ _. ⊥) → IsLater current entries None later
      none_later None is = tt
      none_later (Some n) is = is

      some_later : (first : ℕ) (later : Option ℕ) → IsReached current entries first → IfSome later (λ n. first ≤ n)
          → IfSome later (IsReached current entries) → IsLater current entries (Some first) later
      some_later first None at above is = tt
      some_later first (Some n) at above is = (above, is.past, at.stored)

      by_first : (first : Option ℕ) → IfSome first (λ n. All (λ lock. n ≤ lock.revision) locks) → IfSome first (IsReached current entries)
          → IfNone first (locks ≡ []) → IsLater current entries first (oldest fewer)
      by_first None above at nothing =
          none_later _ (at_oldest (λ _. ⊥) fewer (among (λ _. ⊥) (All-same (λ _. ⊥) locks [] nothing (All-nil _))))
      by_first (Some first) above at nothing =
          some_later first _ at (at_oldest (λ n. first ≤ n) fewer (among (λ lock. first ≤ lock.revision) above))
          (at_oldest (IsReached current entries) fewer (among (λ lock. IsReached current entries lock.revision) reached))

-- what is kept after one lock is gone is what is kept of what was kept
pub kept_since-unlocked : (current : ℕ) (locks : List Lock) (owner : Owner) (revision : ℕ) (entries : List Entry)
    → All (λ lock. IsReached current (length entries) lock.revision) locks
    → kept_since current (oldest (unlocked locks owner revision)) (kept_since current (oldest locks) entries)
    ≡ kept_since current (oldest (unlocked locks owner revision)) entries
kept_since-unlocked current locks owner revision entries reached =
    kept_since-twice current _ _ entries
    (oldest_later current (length entries) locks (unlocked locks owner revision) (λ P all. All-unlocked P locks owner revision all) reached)

-- a locked revision is reached, and not before the oldest
locked_later : (current entries revision : ℕ) (locks : List Lock) → All (λ lock. IsReached current entries lock.revision) locks
    → IsTrue (is_locked locks revision) → IsLater current entries (oldest locks) (Some revision)
locked_later current entries revision locks reached is =
    by_first (oldest locks) (least locks) (at_oldest (IsReached current entries) locks reached) (no_oldest locks) where
      by_first : (first : Option ℕ) → IfSome first (λ n. All (λ lock. n ≤ lock.revision) locks) → IfSome first (IsReached current entries)
          → IfNone first (locks ≡ []) → IsLater current entries first (Some revision)
      by_first None above at nothing =
          at_locked (λ _. ⊥) locks revision (All-same (λ _. ⊥) locks [] nothing (All-nil _)) is
      by_first (Some first) above at nothing =
          let here = at_locked (IsReached current entries) locks revision reached is in
          (at_locked (λ n. first ≤ n) locks revision above is, here.past, at.stored)

-- the entries since a revision that can be carried from are among the kept ones
pub entries_since-kept : (current revision : ℕ) (locks : List Lock) (entries : List Entry)
    → All (λ lock. IsReached current (length entries) lock.revision) locks
    → IsTrue (revision == current || is_locked locks revision)
    → entries_since current revision (kept_since current (oldest locks) entries) ≡ entries_since current revision entries
entries_since-kept current revision locks entries reached can =
    by_test (revision == current) refl can where
      by_test : (b : Bool) → (revision == current) ≡ b → IsTrue (b || is_locked locks revision)
          → entries_since current revision (kept_since current (oldest locks) entries) ≡ entries_since current revision entries
      by_test true same can =
          let here : revision ≡ current = grind (arith, nat_tests) in
          drop_all _ (kept_since current (oldest locks) entries) (omega arith)
          ∙ sym (drop_all (length entries - (current - revision)) entries (omega arith))
      by_test false other can =
          kept_since-twice current (oldest locks) (Some revision) entries (locked_later current (length entries) revision locks reached can)

-- ---- over a whole trail

in_trail : (trail : List Entry) (locks : List Lock) → All (λ lock. lock.revision ≤ length trail) locks
    → All (λ lock. IsReached (length trail) (length trail) lock.revision) locks
in_trail trail locks all =
    All-weaker (λ lock. lock.revision ≤ length trail) (λ lock. IsReached (length trail) (length trail) lock.revision)
    (λ lock le. record { past = le; stored = omega arith }) locks all

entries_since-trail : (trail : List Entry) (revision : ℕ) → revision ≤ length trail
    → entries_since (length trail) revision trail ≡ drop revision trail
entries_since-trail trail revision le = ap (λ n. drop n trail) (omega arith)

kept-since : (trail : List Entry) (locks : List Lock) → All (λ lock. lock.revision ≤ length trail) locks
    → kept_since (length trail) (oldest locks) trail ≡ kept locks trail
kept-since trail locks all = by_oldest (oldest locks) (at_oldest (λ n. n ≤ length trail) locks all) where
  by_oldest : (o : Option ℕ) → IfSome o (λ n. n ≤ length trail)
      → kept_since (length trail) o trail ≡ option_map_or (λ revision. drop revision trail) o []
  by_oldest None le = refl
  by_oldest (Some n) le = entries_since-trail trail n le

-- with one more entry
kept-push : (trail : List Entry) (entry : Entry) (o : Option ℕ) → IfSome o (λ n. n ≤ length trail)
    → (if is_some o then option_map_or (λ revision. drop revision trail) o [] ++ entry ∷ [] else [])
    ≡ option_map_or (λ revision. drop revision (trail ++ entry ∷ [])) o []
kept-push trail entry None le = refl
kept-push trail entry (Some n) le = sym (drop-append-le n trail (entry ∷ []) le)

pub adds_to_history : AddsToHistory
adds_to_history trail h entry reserved is = record {
  revision = rw is.revision (omega (arith, length-append trail (entry ∷ [])));
  kept = rw is.kept (kept-push trail entry (oldest h.locks) (at_oldest (λ n. n ≤ length trail) h.locks is.locked));
  locked = All-weaker (λ lock. lock.revision ≤ length trail) (λ lock. lock.revision ≤ length (trail ++ entry ∷ []))
      (λ lock le. omega (arith, le, length-append trail (entry ∷ []))) h.locks is.locked;
}

-- with one more lock
kept_at : (trail : List Entry) (o : Option ℕ) (current : ℕ) → current ≡ length trail
    → option_map_or (λ revision. drop revision trail) o [] ≡ drop (unwrap_or o current) trail
kept_at trail None current is = sym (drop_all current trail (omega arith))
kept_at trail (Some n) current is = refl

pub locks_history : LocksHistory
locks_history trail h owner reserved is =
    let lock : Lock = record { owner = owner; revision = h.revision } in
    let past : All (λ other. other.revision ≤ h.revision) h.locks = rw is.revision is.locked in
    record {
      revision = is.revision;
      kept = is.kept ∙ kept_at trail (oldest h.locks) h.revision is.revision
          ∙ ap (λ o. option_map_or (λ revision. drop revision trail) o []) (sym (oldest-push h.locks lock past));
      locked = All-push (λ other. other.revision ≤ length trail) h.locks lock is.locked (omega (arith, is.revision));
    }

pub unlocks_history : UnlocksHistory
unlocks_history trail h owner revision reserved is =
    let left = All-unlocked (λ lock. lock.revision ≤ length trail) h.locks owner revision is.locked in
    record {
      revision = is.revision;
      kept = ap (λ n. kept_since n (oldest (unlocked h.locks owner revision)) h.kept) is.revision
          ∙ ap (λ entries. kept_since (length trail) (oldest (unlocked h.locks owner revision)) entries)
          (is.kept ∙ sym (kept-since trail h.locks is.locked))
          ∙ kept_since-unlocked (length trail) h.locks owner revision trail (in_trail trail h.locks is.locked)
          ∙ kept-since trail (unlocked h.locks owner revision) left;
      locked = left;
    }

-- a revision that can be carried from is in the trail
can_land-within : (trail : List Entry) (locks : List Lock) (revision : ℕ) → All (λ lock. lock.revision ≤ length trail) locks
    → IsTrue (revision == length trail || is_locked locks revision) → revision ≤ length trail
can_land-within trail locks revision past can = by_test (revision == length trail) refl can where
  by_test : (b : Bool) → (revision == length trail) ≡ b → IsTrue (b || is_locked locks revision) → revision ≤ length trail
  by_test true same can = grind (arith, nat_tests)
  by_test false other can = at_locked (λ n. n ≤ length trail) locks revision past can

pub lands_over_trail : LandsOverTrail
lands_over_trail trail h revision span expand empty is can =
    let can_here : IsTrue (revision == length trail || is_locked h.locks revision) = rw (← is.revision) can in
    let since : entries_since h.revision revision h.kept ≡ drop revision trail =
    ap (λ n. entries_since n revision h.kept) is.revision
    ∙ ap (λ entries. entries_since (length trail) revision entries) (is.kept ∙ sym (kept-since trail h.locks is.locked))
    ∙ entries_since-kept (length trail) revision h.locks trail (in_trail trail h.locks is.locked) can_here
    ∙ entries_since-trail trail revision (can_land-within trail h.locks revision is.locked can_here) in
    ap (λ entries. carry_all entries (settle span.start span.end empty) expand empty) since
