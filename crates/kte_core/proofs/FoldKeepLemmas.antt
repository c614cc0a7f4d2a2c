-- What leaves the folds of a document its own.
use Rattle.std.proofs.Common.{◌≡◌, ℕ, ◌-◌, ◌<◌, ◌≤◌, Bool, true, false, List, [], length, slice_get, Option, None, Some, IsSome, IsTrue, inl, inr, refl, ap, sym, subst, ◌∙◌, arith}
use Rattle.std.specs.Prelude.{IfSome, option_and_then}
use Rattle.std.specs.Option.{option_map}
use Rattle.std.specs.Ordering.{nat_cmp}
use Rattle.std.specs.FinMap.{get, empty, get-empty}
use Rattle.std.proofs.lemmas.Bool.{cases_lt, lt-ltb, le-ltb, true≢false}
use Rattle.kte_text.specs.declared.primitive.Primitive.{Primitive}
use Rattle.kte_place.specs.Ends.{Ends}
use Rattle.kte_place.specs.declared.span.Empty.TheVariants.{Void}
use Rattle.kte_ranges.specs.declared.info.RangeKind.TheVariants as kind
use Rattle.kte_history.specs.declared.lock.Lock.{Lock}
use Rattle.kte_history.specs.Revisions.{Revisions}
use Rattle.kte_place.specs.declared.entry.Entry.{Entry}
use Rattle.kte_doc.specs.Documents.{Document, CameBy, made_of, range_at, history_of}
use Rattle.kte_doc.specs.Standings.{Standing, Standings, spans_of}
use Rattle.kte_doc.proofs.Maps.{get-spans_of}
use Rattle.kte_fold.specs.Folds.{is_fold, has_span}
use Rattle.kte_fold.specs.Tree.{Outline, KeepsTree}
use Rattle.kte_fold.proofs.CallerLemmas.{no_folds_kept, same_kept}
use Rattle.kte_core.specs.Folds.{is_fold_kind}
use Rattle.kte_core.specs.Shown.{is_standing_fold, AreFoldsOf, KeepsFolds, MakesFindings}

-- a document without ranges has no folds
pub folds-none : (document : Document) (folds : Outline) → document.ranges ≡ empty → folds.numbers ≡ [] → AreFoldsOf document folds
folds-none document folds ranges none =
    let no_fold : (id : ℕ) → is_fold folds.numbers id ≡ false = λ id. ap (λ (numbers : List ℕ). is_fold numbers id) none in
    let no_range : (id : ℕ) → get document.ranges id ≡ None = λ id. ap (λ (m : Standings). get m id) ranges ∙ get-empty nat_cmp id in
    record {
      numbers = λ id. no_fold id ∙ sym (ap is_standing_fold (no_range id));
      alike = λ id standing is fold. absurd (let gone = sym (no_range id) ∙ is in cc);
      within = λ id fold. absurd (true≢false (sym fold ∙ no_fold id));
      tree = subst (λ (numbers : List ℕ). KeepsTree (spans_of document.ranges) numbers folds.inside) (sym none)
          (no_folds_kept (spans_of document.ranges) folds.inside);
    }

-- a change of other ranges in the same text
module _ (old new : Document) (text : new.text ≡ old.text)
    (kinds : (id : ℕ) → is_standing_fold (get new.ranges id) ≡ is_standing_fold (get old.ranges id))
    (same : (id : ℕ) → is_standing_fold (get old.ranges id) ≡ true → get new.ranges id ≡ get old.ranges id)
    (folds : Outline) (are : AreFoldsOf old folds) where
  spans : (id : ℕ) → IsTrue (is_fold folds.numbers id) → get (spans_of new.ranges) id ≡ get (spans_of old.ranges) id
  spans id fold =
      get-spans_of new.ranges id
      ∙ ap (option_and_then (λ (standing : Standing). standing.span)) (same id (sym (are.numbers id) ∙ fold))
      ∙ sym (get-spans_of old.ranges id)

  is_old : (id : ℕ) (standing : Standing) → get new.ranges id ≡ Some standing → is_fold_kind standing.kind ≡ true → get old.ranges id ≡ Some standing
  is_old id standing is fold =
      sym (same id (sym (kinds id) ∙ ap is_standing_fold is ∙ fold)) ∙ is

  pub folds-others : AreFoldsOf new folds
  folds-others = record {
    numbers = λ id. are.numbers id ∙ sym (kinds id);
    alike = λ id standing is fold. are.alike id standing (is_old id standing is fold) fold;
    within = λ id fold.
        subst (λ (o : Option Ends). IfSome o (λ s. IsTrue (has_span new.text s))) (sym (spans id fold))
        (subst (λ (t : List (List ℕ)). IfSome (get (spans_of old.ranges) id) (λ s. IsTrue (has_span t s))) (sym text) (are.within id fold));
    tree = same_kept (spans_of old.ranges) (spans_of new.ranges) folds.numbers folds.inside spans are.tree;
  }

-- other locks
pub folds-locked : (old new : Document) (locks : List Lock) (kept : List Entry) → new ≡ record old { locks = locks; kept = kept } → KeepsFolds old new
folds-locked old new locks kept is = λ folds are.
    subst (λ (d : Document). AreFoldsOf d folds) (sym is)
    (record { numbers = are.numbers; alike = are.alike; within = are.within; tree = are.tree })

-- the range of a finding is no fold
no_fold : (history : Revisions) (lines revision job : ℕ) (o : Option Ends)
    → is_standing_fold (option_map (range_at history lines revision (record { left = false; right = false }) Void (kind.Job job)) o) ≡ false
no_fold history lines revision job None = refl
no_fold history lines revision job (Some span) = refl

-- a number that a range has is below the next one
below_next : (document : Document) (id : ℕ) (o : Option Standing) → get document.ranges id ≡ o → is_standing_fold o ≡ true
    → (IsSome (get document.ranges id) → (1 ≤ id) × (id < document.next)) → id < document.next
below_next document id None is fold numbers = absurd (cc)
below_next document id (Some standing) is fold numbers = (numbers (rw is refl)).1

not_past : (b : Bool) → (b ≡ true → ⊥) → b ≡ false
not_past true never = absurd (never refl)
not_past false never = refl

-- ranges of a job's findings
pub folds-made : (loaded : List (List ℕ)) (trail : List Primitive) (old new : Document) (job revision : ℕ) (findings : List Ends)
    → CameBy loaded trail old → MakesFindings job revision findings old new → KeepsFolds old new
folds-made loaded trail old new job revision findings came makes = folds-others old new (ap (λ (d : Document). d.text) makes.rest) kinds same where
  numbers : (id : ℕ) → is_standing_fold (get old.ranges id) ≡ true → id < old.next
  numbers id fold = below_next old id (get old.ranges id) refl fold (came.numbers id)

  same : (id : ℕ) → is_standing_fold (get old.ranges id) ≡ true → get new.ranges id ≡ get old.ranges id
  same id fold =
      let t = lt-ltb id old.next (numbers id fold) in
      makes.ranges id ∙ rw t refl

  kinds : (id : ℕ) → is_standing_fold (get new.ranges id) ≡ is_standing_fold (get old.ranges id)
  kinds id =
      elim (cases_lt id old.next) [
        | inl less ↦
            let t = lt-ltb id old.next less in
            let is : made_of old revision (record { left = false; right = false }) Void (kind.Job job) findings id ≡ get old.ranges id = rw t refl in
            ap is_standing_fold (makes.ranges id ∙ is)
        | inr past ↦
            let f = le-ltb id old.next past in
            let is : is_standing_fold (made_of old revision (record { left = false; right = false }) Void (kind.Job job) findings id) ≡ false =
            rw f (no_fold (history_of old) (length old.text) revision job (slice_get findings (id - old.next))) in
            ap is_standing_fold (makes.ranges id) ∙ is
            ∙ sym (not_past (is_standing_fold (get old.ranges id)) (λ fold. let less = numbers id fold in absurd (omega arith)))
      ]
