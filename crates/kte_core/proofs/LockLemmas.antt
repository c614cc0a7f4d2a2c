-- Where a lock is, and what one lock more or less is to the others.
use Rattle.std.proofs.Common.{◌≡◌, ◌≢◌, ℕ, ◌==◌, ◌||◌, ◌&&◌, Bool, true, false, List, [], ◌∷◌, ◌++◌, refl, ap, sym, ◌∙◌, if◌then◌else◌}
use Rattle.std.proofs.lemmas.Bool.{or_right, ne_eqb, eqb-true, and_parts, and_left, true≢false}
use Rattle.std.proofs.lemmas.List.Folds.{list_any-append}
use Rattle.kte_history.specs.declared.lock.Lock.{Lock}
use Rattle.kte_history.specs.declared.lock.Owner.{Owner}
use Rattle.kte_history.specs.declared.lock.Owner.TheVariants as owner
use Rattle.kte_history.specs.Locks.{is_owner, is_lock_of, is_locked, has_lock, unlocked}
use Rattle.kte_history.specs.Revisions.{can_land}
use Rattle.kte_doc.specs.Documents.{Document, history_of}

-- a revision that somebody has locked is locked
on_both : (a b before after : Bool) → (before ≡ true → after ≡ true) → ((a && b) || before) ≡ true → (b || after) ≡ true
on_both true true before after h is = refl
on_both true false before after h is = h is
on_both false true before after h is = refl
on_both false false before after h is = h is

locked_by : (locks : List Lock) (owner : Owner) (revision : ℕ) → has_lock locks owner revision ≡ true → is_locked locks revision ≡ true
locked_by [] owner revision has = has
locked_by (first ∷ locks) owner revision has =
    on_both (is_owner first.owner owner) (first.revision == revision) (has_lock locks owner revision) (is_locked locks revision)
    (λ h. locked_by locks owner revision h) has

-- .. so spans of it land
pub lands : (document : Document) (owner : Owner) (revision : ℕ) → has_lock document.locks owner revision ≡ true
    → can_land (history_of document) revision ≡ true
lands document owner revision has =
    or_right (revision == document.revision) (is_locked document.locks revision) (locked_by document.locks owner revision has)

-- ---- one lock more or less

or_false : (b : Bool) → (b || false) ≡ b
or_false true = refl
or_false false = refl

-- a lock of another owner or on another revision changes nothing for this one
pub push_other : (locks : List Lock) (lock : Lock) (owner : Owner) (revision : ℕ) → is_lock_of owner revision lock ≡ false
    → has_lock (locks ++ lock ∷ []) owner revision ≡ has_lock locks owner revision
push_other locks lock owner revision other =
    list_any-append (is_lock_of owner revision) locks (lock ∷ [])
    ∙ (ap (λ b. has_lock locks owner revision || (b || false)) other ∙ or_false (has_lock locks owner revision))

unlocked_other : (locks : List Lock) (owner other : Owner) (revision another : ℕ)
    → ((lock : Lock) → is_lock_of owner revision lock ≡ true → is_lock_of other another lock ≡ false)
    → has_lock (unlocked locks owner revision) other another ≡ has_lock locks other another
unlocked_other [] owner other revision another apart = refl
unlocked_other (lock ∷ locks) owner other revision another apart =
    by_test (unlocked_other locks owner other revision another apart) (is_lock_of owner revision lock) refl where
      by_test : has_lock (unlocked locks owner revision) other another ≡ has_lock locks other another
          → (b : Bool) → is_lock_of owner revision lock ≡ b
          → has_lock (if b then locks else lock ∷ unlocked locks owner revision) other another ≡ has_lock (lock ∷ locks) other another
      by_test rest true e = sym (ap (λ b. b || has_lock locks other another) (apart lock e))
      by_test rest false e = ap (λ b. is_lock_of other another lock || b) rest

owner_editor : (holder : Owner) (job : ℕ) → is_owner holder owner.Editor ≡ true → is_owner holder (owner.Job job) ≡ false
owner_editor owner.Editor job is = refl
owner_editor (owner.Job other) job is = absurd (true≢false (sym is))

owner_job : (holder : Owner) (job other : ℕ) → job ≢ other → is_owner holder (owner.Job job) ≡ true → is_owner holder (owner.Job other) ≡ false
owner_job owner.Editor job other apart is = refl
owner_job (owner.Job this) job other apart is = ne_eqb this other (λ e. apart (sym (eqb-true this job is) ∙ e))

-- the editor's unlocking leaves the locks of jobs, and so does one job's those of the others
pub unlocked_editor : (locks : List Lock) (revision job another : ℕ)
    → has_lock (unlocked locks owner.Editor revision) (owner.Job job) another ≡ has_lock locks (owner.Job job) another
unlocked_editor locks revision job another =
    unlocked_other locks owner.Editor (owner.Job job) revision another
    (λ lock is. and_left _ _ (owner_editor lock.owner job (and_parts _ _ is).0))

pub unlocked_job : (locks : List Lock) (job revision other another : ℕ) → job ≢ other
    → has_lock (unlocked locks (owner.Job job) revision) (owner.Job other) another ≡ has_lock locks (owner.Job other) another
unlocked_job locks job revision other another apart =
    unlocked_other locks (owner.Job job) (owner.Job other) revision another
    (λ lock is. and_left _ _ (owner_job lock.owner job other apart (and_parts _ _ is).0))
