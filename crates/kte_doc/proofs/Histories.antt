-- What locking, unlocking and landing do to a document that came by a trail.
use Rattle.std.proofs.Common.{◌≡◌, ℕ, ◌+◌, ◌<◌, ◌≤◌, nat_le, if◌then◌else◌, Result, Ok, Err, IfOk, sym, subst, Bool, true, false, List, [], ◌∷◌, ◌++◌, length, drop, All, IsTrue, Option, inl, inr, refl, ap, ◌∙◌, arith}
use Rattle.std.proofs.lemmas.Bool.{cases_eq}
use Rattle.std.proofs.lemmas.Bool.Decides.{nat_tests}
use Rattle.std.proofs.lemmas.List.Elements.{All-head, All-tail}
use Rattle.kte_text.specs.declared.primitive.Primitive.{Primitive}
use Rattle.kte_place.specs.declared.span.Expand.{Expand}
use Rattle.kte_place.specs.declared.span.Empty.{Empty}
use Rattle.kte_place.specs.Ends.{Ends}
use Rattle.kte_place.specs.Span.{settle}
use Rattle.kte_history.specs.declared.lock.Lock.{Lock}
use Rattle.kte_history.specs.declared.lock.Owner.{Owner}
use Rattle.kte_history.specs.Locks.{oldest, is_locked, unlocked}
use Rattle.kte_history.specs.Landing.{carry_all}
use Rattle.kte_place.specs.declared.entry.Entry.{Entry}
use Rattle.kte_history.specs.declared.fault.RevisionsFull.{RevisionsFull}
use Rattle.kte_history.specs.declared.fault.NotLocked.{NotLocked}
use Rattle.kte_history.specs.Revisions.{Revisions, with_entry, kept_since, can_land, landed}
use Rattle.kte_history.proofs.KeptLemmas.{locks_history, unlocks_history, lands_over_trail}
use Rattle.kte_doc.specs.Trail.{entries_of, in_text, stand}
use Rattle.kte_doc.specs.Documents.{Document, CameBy, history_of}
use Rattle.kte_doc.proofs.Trails.{length-entries_of}
use Rattle.kte_doc.proofs.Landing.{lands_where_it_stands}

-- there is room for one more revision
pub in_room : (revision limit : ℕ) (r : Result (Unit {0}) RevisionsFull)
    → r ≡ (if nat_le (revision + 1) limit then Ok tt else Err (record { revision = revision }))
    → ((full : RevisionsFull) → r ≡ Err full → ⊥) → revision < limit
in_room revision limit r is room =
    judged (nat_le (revision + 1) limit) refl where
      judged : (b : Bool) → nat_le (revision + 1) limit ≡ b → revision < limit
      judged true le = grind (arith, nat_tests)
      judged false gt = absurd (room (record { revision = revision }) (is ∙ ap (λ (b : Bool). if b then Ok tt else Err (record { revision = revision })) gt))

-- an entry is added after room was made for it
pub added : (h reserved_h later : Revisions) (entry : Entry) (more left : ℕ) → reserved_h ≡ record h { reserved = more }
    → later ≡ record (with_entry entry reserved_h) { reserved = left } → later ≡ record (with_entry entry h) { reserved = left }
added h reserved_h later entry more left same is = is ∙ ap (λ (h : Revisions). record (with_entry entry h) { reserved = left }) same

-- the present revision is locked once more
pub CameBy-locked : (loaded : List (List ℕ)) (trail : List Primitive) (old : Document) (owner : Owner) → CameBy loaded trail old
    → CameBy loaded trail (record old { locks = old.locks ++ record { owner = owner; revision = old.revision } ∷ [] })
CameBy-locked loaded trail old owner came = record {
  fits = came.fits;
  text = came.text;
  revision = came.revision;
  ranges = came.ranges;
  first = came.first;
  numbers = came.numbers;
  history = locks_history (entries_of trail loaded) (history_of old) owner 0 came.history;
}

-- a revision is locked once less
pub CameBy-unlocked : (loaded : List (List ℕ)) (trail : List Primitive) (old : Document) (owner : Owner) (revision : ℕ) → CameBy loaded trail old
    → CameBy loaded trail (record old {
      locks = unlocked old.locks owner revision;
      kept = kept_since old.revision (oldest (unlocked old.locks owner revision)) old.kept;
    })
CameBy-unlocked loaded trail old owner revision came = record {
  fits = came.fits;
  text = came.text;
  revision = came.revision;
  ranges = came.ranges;
  first = came.first;
  numbers = came.numbers;
  history = unlocks_history (entries_of trail loaded) (history_of old) owner revision 0 came.history;
}

locked_within : (locks : List Lock) (most revision : ℕ) → All (λ lock. lock.revision ≤ most) locks → IsTrue (is_locked locks revision)
    → revision ≤ most
locked_within [] most revision all locked = absurd (cc)
locked_within (lock ∷ locks) most revision all locked =
    let first = All-head (λ (lock : Lock). lock.revision ≤ most) lock locks all in
    elim (cases_eq lock.revision revision) [
      | inl same ↦ omega arith
      | inr apart ↦
          locked_within locks most revision (All-tail (λ (lock : Lock). lock.revision ≤ most) lock locks all)
          (grind (arith, nat_tests))
    ]

-- what a landing gives that is not refused
pub landed_ok : (may : Bool) (r : Result (Option Ends) NotLocked) (landed stands : Option Ends) (refused : NotLocked)
    → r ≡ (if may then Ok landed else Err refused) → (may ≡ true → landed ≡ stands) → IfOk r (λ span. span ≡ stands)
landed_ok true r landed stands refused is same =
    subst (λ (r : Result (Option Ends) NotLocked). IfOk r (λ span. span ≡ stands)) (sym is) (same refl)
landed_ok false r landed stands refused is same =
    subst (λ (r : Result (Option Ends) NotLocked). IfOk r (λ span. span ≡ stands)) (sym is) tt

-- a revision from which one can land is one of the trail
pub can_land_within : (loaded : List (List ℕ)) (trail : List Primitive) (document : Document) (revision : ℕ) → CameBy loaded trail document
    → IsTrue (can_land (history_of document) revision) → revision ≤ length trail
can_land_within loaded trail document revision came may =
    let count = length-entries_of trail loaded in
    elim (cases_eq revision document.revision) [
      | inl same ↦ omega (arith, came.revision)
      | inr apart ↦
          let locked : IsTrue (is_locked document.locks revision) = grind (arith, nat_tests) in
          let within = locked_within document.locks (length (entries_of trail loaded)) revision came.history.locked locked in
          omega arith
    ]

-- a span lands where a range stands that was made of it
pub lands : (loaded : List (List ℕ)) (trail : List Primitive) (document : Document) (revision : ℕ) (span : Ends) (expand : Expand)
    (empty : Empty) → CameBy loaded trail document → IsTrue (can_land (history_of document) revision)
    → in_text (length document.text) (landed (history_of document) revision span expand empty)
    ≡ stand loaded trail expand empty (record { revision = revision; span = span })
lands loaded trail document revision span expand empty came may =
    ap (λ (o : Option Ends). in_text (length document.text) o)
    (lands_over_trail (entries_of trail loaded) (history_of document) revision span expand empty came.history may)
    ∙ ap (λ (text : List (List ℕ)). in_text (length text) (carry_all (drop revision (entries_of trail loaded)) (settle span.start span.end empty) expand empty))
    came.text
    ∙ lands_where_it_stands loaded trail revision span expand empty came.fits
    (can_land_within loaded trail document revision came may)
