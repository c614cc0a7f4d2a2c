-- The ranges of a state and of its document.
use Rattle.std.proofs.Common.{◌≡◌, ℕ, ◌+◌, Bool, true, false, cond, Option, None, Some, refl, ap, sym, subst, ◌∙◌}
use Rattle.std.specs.Option.{option_map}
use Rattle.std.specs.Ordering.{nat_cmp, eq_by_cmp}
use Rattle.std.specs.FinMap.{FinMap, get, insert, remove, get-insert, get-remove}
use Rattle.std.specs.Cmp.{nat_cmp_total, eq_by_cmp_equiv}
use Rattle.kte_place.specs.Ends.{Ends}
use Rattle.kte_place.specs.declared.span.Expand.{Expand}
use Rattle.kte_place.specs.declared.span.Empty.{Empty}
use Rattle.kte_ranges.specs.declared.info.RangeKind.{RangeKind}
use Rattle.kte_doc.specs.Documents.{Document, CameBy, KeepsTrail}
use Rattle.kte_doc.specs.Standings.{Standing, Standings, new_range, reset_to}
use Rattle.kte_core.specs.State.{Range, State, made_now, set_now, refused}
use Rattle.kte_core.specs.Folds.{no_fold}
use Rattle.kte_core.specs.React.{dropped, placed, set_range, drop_range, show_range, react_command}
use Rattle.kte_core.specs.Shown.{is_standing_fold, range_of, told_of, IsOf, Replies}
use Rattle.kte_core.specs.declared.reply.Reply.{Reply}
use Rattle.kte_core.specs.declared.reply.Reply.TheVariants as reply
use Rattle.kte_core.specs.declared.reply.Refusal.TheVariants.{NoRange}
use Rattle.kte_command.specs.declared.command.Command.TheVariants.{SetRange, DropRange, ShowRange}

-- the ranges of a document are those of a state
abbrev Same : Standings → FinMap nat_cmp Range → Type 0
Same standings ranges = (id : ℕ) → option_map range_of (get standings id) ≡ get ranges id

cond_same : (b : Bool) (standing : Option Standing) (range : Option Range) (x : Option Standing) → option_map range_of standing ≡ range → option_map range_of (cond b x standing) ≡ cond b (option_map range_of x) range
cond_same true standing range x same = refl
cond_same false standing range x same = same

-- a range under a number, in both
same_insert : (standings : Standings) (ranges : FinMap nat_cmp Range) (id : ℕ) (standing : Standing) → Same standings ranges → Same (insert standings id standing) (insert ranges id (range_of standing))
same_insert standings ranges id standing same q =
    ap (option_map range_of) (get-insert nat_cmp_total standings id standing q)
    ∙ cond_same (eq_by_cmp nat_cmp q id) (get standings q) (get ranges q) (Some standing) (same q)
    ∙ sym (get-insert nat_cmp_total ranges id (range_of standing) q)

-- no range under a number, in both
same_remove : (standings : Standings) (ranges : FinMap nat_cmp Range) (id : ℕ) → Same standings ranges → Same (remove standings id) (remove ranges id)
same_remove standings ranges id same q =
    ap (option_map range_of) (get-remove nat_cmp_total standings id q)
    ∙ cond_same (eq_by_cmp nat_cmp q id) (get standings q) (get ranges q) None (same q)
    ∙ sym (get-remove nat_cmp_total ranges id q)

-- the number under which something was just put
here : (id : ℕ) → eq_by_cmp nat_cmp id id ≡ true
here id = (eq_by_cmp_equiv nat_cmp_total).refl id

pub get_here : {X : Type 0} (m : FinMap nat_cmp X) (id : ℕ) (x : X) → get (insert m id x) id ≡ Some x
get_here m id x = get-insert nat_cmp_total m id x id ∙ ap (λ b. cond b (Some x) (get m id)) (here id)

-- a range that was put under a number, and where it stands
Replies-placed : (state : State) (document later : Document) (id : ℕ) (standing : Standing) (answer : Reply) → Same document.ranges state.ranges → CameBy state.editing.loaded.text state.editing.trail later → later.limit ≡ state.editing.limit → later.ranges ≡ insert document.ranges id standing → later.next ≡ state.next_id → later.locks ≡ state.locks → answer ≡ told_of id (get later.ranges id) → Replies (placed state id (range_of standing)) answer later
Replies-placed state document later id standing answer same came limit ranges next_id locks told =
    let found : get later.ranges id ≡ Some standing = ap (λ (m : Standings). get m id) ranges ∙ get_here document.ranges id standing in
    record {
      reply = told ∙ ap (told_of id) found ∙ ap (reply.Range id) (came.ranges id standing found).span;
      made = refl;
      leads = record {
        came = came;
        limit = limit;
        ranges = rw ranges (same_insert document.ranges state.ranges id standing same);
        next_id = next_id;
        locks = locks;
      };
    }

-- a range that is made, of whatever kind
pub Replies-made : (state : State) (document later : Document) (span : Ends) (expand : Expand) (empty : Empty) (kind : RangeKind) (answer : Reply)
    → IsOf state document → KeepsTrail document later
    → later ≡ record document {
      ranges = insert document.ranges document.next (new_range document.text document.revision span expand empty kind);
      next = document.next + 1;
    }
    → answer ≡ told_of document.next (get later.ranges document.next)
    → Replies (placed (record state { next_id = state.next_id + 1 }) state.next_id (made_now state.editing span expand empty kind)) answer later
Replies-made state document later span expand empty kind answer is_of keeps is told =
    let standing = new_range document.text document.revision span expand empty kind in
    let same : range_of standing ≡ made_now state.editing span expand empty kind =
    ap (λ (revision : ℕ). range_of (new_range document.text revision span expand empty kind)) is_of.came.revision in
    subst (λ (id : ℕ). Replies (placed (record state { next_id = id + 1 }) id (made_now state.editing span expand empty kind)) answer later) is_of.next_id
    (subst (λ (range : Range). Replies (placed (record state { next_id = document.next + 1 }) document.next range) answer later) same
    (Replies-placed (record state { next_id = document.next + 1 }) document later document.next standing answer
    is_of.ranges (keeps state.editing.loaded.text state.editing.trail is_of.came) (ap (λ d. d.limit) is ∙ is_of.limit) (ap (λ d. d.ranges) is)
    (ap (λ d. d.next) is) (ap (λ d. d.locks) is ∙ is_of.locks) told))

-- what holds of a number that has a range holds where it is not without one
pub there : {P : Type 0} (found : Option Standing) → (found ≡ None → ⊥) → ((standing : Standing) → found ≡ Some standing → P) → P
there None some holds = absurd (some refl)
there (Some standing) some holds = holds standing refl

-- a range of the document is one of the state
was_there : (state : State) (document : Document) (id : ℕ) (standing : Standing) → IsOf state document → get document.ranges id ≡ Some standing → Some (range_of standing) ≡ get state.ranges id
was_there state document id standing is_of found = sym (ap (option_map range_of) found) ∙ is_of.ranges id

-- commands on ranges take no fold
taken : (o : Option Standing) → is_standing_fold o ≡ false → no_fold (option_map range_of o) ≡ option_map range_of o
taken None none = refl
taken (Some standing) none = rw none refl

no_fold_there : (state : State) (document : Document) (id : ℕ) → IsOf state document → is_standing_fold (get document.ranges id) ≡ false
    → no_fold (get state.ranges id) ≡ get state.ranges id
no_fold_there state document id is_of none =
    subst (λ (o : Option Range). no_fold o ≡ o) (is_of.ranges id) (taken (get document.ranges id) none)

-- a command that refuses a number that no range has, and changes nothing
refuses : (state : State) (document : Document) (id : ℕ) → IsOf state document → Replies (refused state (NoRange id)) (reply.Refused (NoRange id)) document
refuses state document id is_of = record { reply = refl; made = refl; leads = is_of }

pub Replies-set : (state : State) (document later : Document) (id : ℕ) (span : Ends) (answer : Reply) → IsOf state document → is_standing_fold (get document.ranges id) ≡ false → (get document.ranges id ≡ None → ⊥) → KeepsTrail document later → ((standing : Standing) → get document.ranges id ≡ Some standing → later ≡ record document { ranges = insert document.ranges id (reset_to document.text document.revision span standing) }) → answer ≡ told_of id (get later.ranges id) → Replies (react_command state (SetRange id span)) answer later
Replies-set state document later id span answer is_of no_fold_is some keeps new told =
    there (get document.ranges id) some (λ standing found.
    let set = reset_to document.text document.revision span standing in
    let same : range_of set ≡ set_now state.editing span (range_of standing) =
    ap (λ (revision : ℕ). range_of (reset_to document.text revision span standing)) is_of.came.revision in
    let is = new standing found in
    let taken_is : Some (range_of standing) ≡ no_fold (get state.ranges id) =
    was_there state document id standing is_of found ∙ sym (no_fold_there state document id is_of no_fold_is) in
    subst (λ (found : Option Range). Replies (set_range state id span found) answer later) taken_is
    (subst (λ (range : Range). Replies (placed state id range) answer later) same
    (Replies-placed state document later id set answer
    is_of.ranges (keeps state.editing.loaded.text state.editing.trail is_of.came) (ap (λ d. d.limit) is ∙ is_of.limit) (ap (λ d. d.ranges) is) (ap (λ d. d.next) is ∙ is_of.next_id) (ap (λ d. d.locks) is ∙ is_of.locks) told)))

-- the range of a number goes, whether it is a fold or not
pub Replies-dropped : (state : State) (document later : Document) (id : ℕ) → IsOf state document → KeepsTrail document later → later ≡ record document { ranges = remove document.ranges id } → Replies (dropped state id) (reply.Dropped id) later
Replies-dropped state document later id is_of keeps is = record {
  reply = refl;
  made = refl;
  leads = record {
    came = keeps state.editing.loaded.text state.editing.trail is_of.came;
    limit = ap (λ d. d.limit) is ∙ is_of.limit;
    ranges = λ q. ap (λ d. option_map range_of (get d.ranges q)) is ∙ same_remove document.ranges state.ranges id is_of.ranges q;
    next_id = ap (λ d. d.next) is ∙ is_of.next_id;
    locks = ap (λ d. d.locks) is ∙ is_of.locks;
  };
}

-- what is replied where a range is taken away, if it is there and is no fold
pub Replies-take_away : (state : State) (document later : Document) (id : ℕ) (answer : Reply) → IsOf state document → is_standing_fold (get document.ranges id) ≡ false → (get document.ranges id ≡ None → (answer ≡ reply.Refused (NoRange id)) × (later ≡ document)) → ((standing : Standing) → get document.ranges id ≡ Some standing → (answer ≡ reply.Dropped id) × (later ≡ record document { ranges = remove document.ranges id })) → KeepsTrail document later → Replies (react_command state (DropRange id)) answer later
Replies-take_away state document later id answer is_of no_fold_is none some keeps =
    by_range (get document.ranges id) refl where
      same : no_fold (get state.ranges id) ≡ option_map range_of (get document.ranges id)
      same = no_fold_there state document id is_of no_fold_is ∙ sym (is_of.ranges id)

      by_range : (o : Option Standing) → get document.ranges id ≡ o → Replies (react_command state (DropRange id)) answer later
      by_range None is =
          let it = none is in
          subst (λ (found : Option Range). Replies (drop_range state id found) answer later) (sym (same ∙ ap (option_map range_of) is))
          (subst (λ (d : Document). Replies (refused state (NoRange id)) answer d) (sym it.1)
          (subst (λ (a : Reply). Replies (refused state (NoRange id)) a document) (sym it.0) (refuses state document id is_of)))
      by_range (Some standing) is =
          let it = some standing is in
          subst (λ (found : Option Range). Replies (drop_range state id found) answer later) (sym (same ∙ ap (option_map range_of) is))
          (subst (λ (a : Reply). Replies (dropped state id) a later) (sym it.0) (Replies-dropped state document later id is_of keeps it.1))

-- where a range stands, if it is there and is no fold
pub Replies-show : (state : State) (document : Document) (id : ℕ) (answer : Reply) → IsOf state document → is_standing_fold (get document.ranges id) ≡ false → answer ≡ told_of id (get document.ranges id) → Replies (react_command state (ShowRange id)) answer document
Replies-show state document id answer is_of no_fold_is told =
    by_range (get document.ranges id) refl where
      same : no_fold (get state.ranges id) ≡ option_map range_of (get document.ranges id)
      same = no_fold_there state document id is_of no_fold_is ∙ sym (is_of.ranges id)

      by_range : (o : Option Standing) → get document.ranges id ≡ o → Replies (react_command state (ShowRange id)) answer document
      by_range None is =
          subst (λ (found : Option Range). Replies (show_range state id found) answer document) (sym (same ∙ ap (option_map range_of) is))
          (subst (λ (a : Reply). Replies (refused state (NoRange id)) a document) (sym (told ∙ ap (told_of id) is)) (refuses state document id is_of))
      by_range (Some standing) is =
          subst (λ (found : Option Range). Replies (show_range state id found) answer document) (sym (same ∙ ap (option_map range_of) is))
          (record {
            reply = told ∙ ap (told_of id) is ∙ ap (reply.Range id) (is_of.came.ranges id standing is).span;
            made = refl;
            leads = is_of;
          })
