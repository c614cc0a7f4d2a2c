-- Locking, unlocking and landing, in a state and in its document.
use Rattle.std.proofs.Common.{◌≡◌, ℕ, ◌==◌, ◌||◌, if◌then◌else◌, Ok, Err, Bool, true, false, List, [], ◌∷◌, ◌++◌, Option, refl, ap, sym, subst, ◌∙◌}
use Rattle.std.specs.Option.{option_map}
use Rattle.std.specs.FinMap.{get}
use Rattle.kte_text.specs.declared.primitive.Primitive.{Primitive}
use Rattle.kte_place.specs.Ends.{Ends}
use Rattle.kte_place.specs.declared.entry.Entry.{Entry}
use Rattle.kte_place.specs.declared.span.Expand.{Expand}
use Rattle.kte_place.specs.declared.span.Empty.{Empty}
use Rattle.kte_history.specs.declared.lock.Lock as lock_type
use Rattle.kte_history.specs.declared.lock.Owner.TheVariants.{Editor}
use Rattle.kte_history.specs.declared.fault.NotLocked.{NotLocked}
use Rattle.kte_history.specs.Locks.{oldest, is_locked, has_lock, unlocked}
use Rattle.kte_history.specs.Revisions.{kept_since, can_land}
use Rattle.kte_doc.specs.Documents.{Document, CameBy, KeepsTrail, history_of}
use Rattle.kte_doc.specs.Trail.{stand}
use Rattle.kte_core.specs.Editing.{revision_of}
use Rattle.kte_core.specs.State.{State}
use Rattle.kte_core.specs.React.{can_land_from, land, unlock, react_command}
use Rattle.kte_core.specs.Shown.{range_of, IsOf, Replies}
use Rattle.kte_core.specs.declared.reply.Reply.TheVariants as reply
use Rattle.kte_core.specs.declared.reply.Refusal.TheVariants as refusal
use Rattle.kte_command.specs.declared.command.Command.TheVariants.{Lock, Unlock, Land}

-- the document of a state with other locks
with_locks : (state : State) (document later : Document) (locks now : List lock_type.Lock) (kept : List Entry) → IsOf state document
    → KeepsTrail document later → later ≡ record document { locks = locks; kept = kept } → locks ≡ now → IsOf (record state { locks = now }) later
with_locks state document later locks now kept is_of keeps new same = record {
  came = keeps _ _ is_of.came;
  limit = ap (λ (d : Document). d.limit) new ∙ is_of.limit;
  ranges = λ id. ap (λ (d : Document). option_map range_of (get d.ranges id)) new ∙ is_of.ranges id;
  next_id = ap (λ (d : Document). d.next) new ∙ is_of.next_id;
  locks = ap (λ (d : Document). d.locks) new ∙ same;
}

pub Replies-lock : (state : State) (document later : Document) → IsOf state document → KeepsTrail document later
    → later ≡ record document { locks = document.locks ++ record { owner = Editor; revision = document.revision } ∷ [] }
    → Replies (react_command state Lock) (reply.Locked document.revision) later
Replies-lock state document later is_of keeps new = record {
  reply = ap (λ (revision : ℕ). reply.Locked revision) is_of.came.revision;
  made = refl;
  leads = with_locks state document later _ _ document.kept is_of keeps new
      (ap (λ (locks : List lock_type.Lock). locks ++ record { owner = Editor; revision = document.revision } ∷ []) is_of.locks
      ∙ ap (λ (revision : ℕ). state.locks ++ record { owner = Editor; revision = revision } ∷ []) is_of.came.revision);
}

pub Replies-unlock : (state : State) (document later : Document) (revision : ℕ) → IsOf state document → KeepsTrail document later
    → has_lock document.locks Editor revision ≡ true
    → later ≡ record document {
      locks = unlocked document.locks Editor revision;
      kept = kept_since document.revision (oldest (unlocked document.locks Editor revision)) document.kept;
    }
    → Replies (react_command state (Unlock revision)) (reply.Unlocked revision) later
Replies-unlock state document later revision is_of keeps owned new =
    let has : true ≡ has_lock state.locks Editor revision = sym owned ∙ ap (λ (locks : List lock_type.Lock). has_lock locks Editor revision) is_of.locks in
    subst (λ (b : Bool). Replies (unlock state revision b) (reply.Unlocked revision) later) has (record {
      reply = refl;
      made = refl;
      leads = with_locks state document later _ _ _ is_of keeps new (ap (λ (locks : List lock_type.Lock). unlocked locks Editor revision) is_of.locks);
    })

pub Replies-not_owned : (state : State) (document later : Document) (revision : ℕ) → IsOf state document
    → has_lock document.locks Editor revision ≡ false → later ≡ document
    → Replies (react_command state (Unlock revision)) (reply.Refused (refusal.NotOwned revision)) later
Replies-not_owned state document later revision is_of owned same =
    let has : false ≡ has_lock state.locks Editor revision = sym owned ∙ ap (λ (locks : List lock_type.Lock). has_lock locks Editor revision) is_of.locks in
    subst (λ (b : Bool). Replies (unlock state revision b) (reply.Refused (refusal.NotOwned revision)) later) has
    (record { reply = refl; made = refl; leads = subst (IsOf state) (sym same) is_of })

-- a document and its state agree on the revisions from which one can land
same_can_land : (state : State) (document : Document) (revision : ℕ) → IsOf state document
    → can_land (history_of document) revision ≡ can_land_from state revision
same_can_land state document revision is_of =
    ap (λ (now : ℕ). revision == now || is_locked document.locks revision) is_of.came.revision
    ∙ ap (λ (locks : List lock_type.Lock). revision == revision_of state.editing || is_locked locks revision) is_of.locks

pub Replies-landed : (state : State) (document : Document) (revision : ℕ) (span : Ends) (expand : Expand) (empty : Empty) (landed : Option Ends)
    → IsOf state document → can_land (history_of document) revision ≡ true
    → ((loaded : List (List ℕ)) (trail : List Primitive) → CameBy loaded trail document → landed ≡ stand loaded trail expand empty (record { revision = revision; span = span }))
    → Replies (react_command state (Land revision span expand empty)) (reply.Landed landed) document
Replies-landed state document revision span expand empty landed is_of may stands =
    let can : true ≡ can_land_from state revision = sym may ∙ same_can_land state document revision is_of in
    subst (λ (b : Bool). Replies (land state revision span expand empty b) (reply.Landed landed) document) can
    (record { reply = ap (λ (o : Option Ends). reply.Landed o) (stands _ _ is_of.came); made = refl; leads = is_of })

pub Replies-not_locked : (state : State) (document : Document) (revision : ℕ) (span : Ends) (expand : Expand) (empty : Empty)
    → IsOf state document → can_land (history_of document) revision ≡ false
    → Replies (react_command state (Land revision span expand empty)) (reply.Refused (refusal.NotLocked revision (oldest document.locks))) document
Replies-not_locked state document revision span expand empty is_of may =
    let can : false ≡ can_land_from state revision = sym may ∙ same_can_land state document revision is_of in
    subst (λ (b : Bool). Replies (land state revision span expand empty b) (reply.Refused (refusal.NotLocked revision (oldest document.locks))) document) can
    (record { reply = ap (λ (locks : List lock_type.Lock). reply.Refused (refusal.NotLocked revision (oldest locks))) is_of.locks; made = refl; leads = is_of })

-- what a landing gives that is not refused
pub landed_ok : (may : Bool) (given landed : Option Ends) (refused : NotLocked)
    → Ok given ≡ (if may then Ok landed else Err refused) → (may ≡ true) × (given ≡ landed)
landed_ok true given landed refused is = (refl, cc)
landed_ok false given landed refused is = absurd (cc)

-- a landing that was refused
pub landed_err : (may : Bool) (landed : Option Ends) (refused given : NotLocked)
    → (Err given) ≡ (if may then Ok landed else Err refused) → (may ≡ false) × (given ≡ refused)
landed_err true landed refused given is = absurd (cc)
landed_err false landed refused given is = (refl, cc)
