-- Folds that are carried over an entry.
use Rattle.std.proofs.Common.{◌≡◌, ℕ, ◌+◌, ◌-◌, ◌<◌, ◌≤◌, Bool, true, false, ◌&&◌, List, length, slice_index, Option, None, Some, IsTrue, IfSome, refl, sym, subst, ap, if◌then◌else◌, arith}
use Rattle.std.proofs.lemmas.Bool.Decides.{nat_tests}
use Rattle.kte_text.specs.Texts.{line_at}
use Rattle.kte_place.specs.declared.place.Place.{Place}
use Rattle.kte_place.specs.declared.place.OnInsert.TheVariants.{Stay, Move}
use Rattle.kte_place.specs.declared.entry.Entry.{Entry}
use Rattle.kte_place.specs.declared.entry.EntryKind.TheVariants.{Unwrap}
use Rattle.kte_place.specs.declared.span.Empty.TheVariants.{Void}
use Rattle.kte_place.specs.Ends.{Ends}
use Rattle.kte_place.specs.Place.{is_at_or_before}
use Rattle.kte_place.specs.Entry.{carry}
use Rattle.kte_place.specs.Span.{ends, carry_span}
use Rattle.kte_place.proofs.CarryLemmas.{keeps_order, stay_before_move}
use Rattle.kte_fold.specs.Folds.{is_in_text, has_span}
use Rattle.kte_fold.specs.Tree.{LiesIn, Precedes, span_at}
use Rattle.kte_fold.specs.Laws.{CarryingKeepsTree, IsEntryOf, grows_at_no_end}
use Rattle.kte_fold.proofs.ListLemmas.{fold_at}
use Rattle.kte_fold.proofs.PlaceLemmas.{le_trans, later_when, lt_not_le}

-- what a place in a text says of its column
column_fits : (text : List (List ℕ)) (p : Place) → IsTrue (is_in_text text p) → p.column ≤ length (line_at text p.line)
column_fits text p h = grind (arith, nat_tests)

parts : (text : List (List ℕ)) (s : Ends) → IsTrue (has_span text s) → IsTrue (is_in_text text s.start) × IsTrue (is_in_text text s.end)
parts text s h = both (is_in_text text s.start) (is_in_text text s.end) h where
  both : (x y : Bool) → IsTrue (x && y) → IsTrue x × IsTrue y
  both true true h = (refl, refl)
  both true false h = absurd (cc)
  both false y h = absurd (cc)

module _ (text : List (List ℕ)) (e : Entry) (of_text : IsEntryOf text e) where
  fits_joined : (p : Place) → IsTrue (is_in_text text p) → e.kind ≡ Unwrap → p.line + 1 ≡ e.line → p.column ≤ e.old
  fits_joined p h k l =
      let c = column_fits text p h in
      let before : e.line - 1 ≡ p.line = omega arith in
      let old = of_text.joined k in
      let same = ap (λ n. length (line_at text n)) before in
      omega arith

  -- two ends of one kind keep their order
  stays : (p q : Place) → IsTrue (is_in_text text p) → IsTrue (is_at_or_before p q)
      → IsTrue (is_at_or_before (carry e p Stay) (carry e q Stay))
  stays p q h l = keeps_order (length text) e p q Stay of_text.within (fits_joined p h) l

  moves : (p q : Place) → IsTrue (is_in_text text p) → IsTrue (is_at_or_before p q)
      → IsTrue (is_at_or_before (carry e p Move) (carry e q Move))
  moves p q h l = keeps_order (length text) e p q Move of_text.within (fits_joined p h) l

  -- a fold in another stays in it, and keeps it valid
  lies_carried : (o t : Option Ends) → IfSome o (λ s. IsTrue (has_span text s)) → IfSome t (λ s. IsTrue (has_span text s))
      → LiesIn o t → LiesIn (carry_span e o grows_at_no_end Void) (carry_span e t grows_at_no_end Void)
  lies_carried None t a b h = tt
  lies_carried (Some s) None a b h = absurd h
  lies_carried (Some s) (Some t) a b h =
      by_tests (carry e s.start Move) (carry e s.end Stay) (carry e t.start Move) (carry e t.end Stay)
      (is_at_or_before (carry e s.end Stay) (carry e s.start Move)) (is_at_or_before (carry e t.end Stay) (carry e t.start Move)) refl refl
      (moves t.start s.start (parts text t b).0 h.0) (stays s.end t.end (parts text s a).1 h.1) where
        by_tests : (ss es st et : Place) (x y : Bool) → is_at_or_before es ss ≡ x → is_at_or_before et st ≡ y
            → IsTrue (is_at_or_before st ss) → IsTrue (is_at_or_before es et)
            → LiesIn (if x then None else Some (ends ss es)) (if y then None else Some (ends st et))
        by_tests ss es st et true y p q l m = tt
        by_tests ss es st et false true p q l m =
            lt_not_le ss es (later_when es ss (sym p)) (le_trans es et ss m (le_trans et st ss q l))
        by_tests ss es st et false false p q l m = (l, m)

  -- a fold before another stays before it
  precedes_carried : (o t : Option Ends) → IfSome o (λ s. IsTrue (has_span text s)) → Precedes o t
      → Precedes (carry_span e o grows_at_no_end Void) (carry_span e t grows_at_no_end Void)
  precedes_carried None t a h = tt
  precedes_carried (Some s) None a h =
      by_test (ends (carry e s.start Move) (carry e s.end Stay)) (is_at_or_before (carry e s.end Stay) (carry e s.start Move)) where
        by_test : (f : Ends) (x : Bool) → Precedes (if x then None else Some f) None
        by_test f true = tt
        by_test f false = tt
  precedes_carried (Some s) (Some t) a h =
      by_tests (carry e s.start Move) (carry e s.end Stay) (carry e t.start Move) (carry e t.end Stay)
      (is_at_or_before (carry e s.end Stay) (carry e s.start Move)) (is_at_or_before (carry e t.end Stay) (carry e t.start Move))
      (le_trans (carry e s.end Stay) (carry e t.start Stay) (carry e t.start Move) (stays s.end t.start (parts text s a).1 h)
      (stay_before_move e t.start)) where
        by_tests : (ss es st et : Place) (x y : Bool) → IsTrue (is_at_or_before es st)
            → Precedes (if x then None else Some (ends ss es)) (if y then None else Some (ends st et))
        by_tests ss es st et true y l = tt
        by_tests ss es st et false true l = tt
        by_tests ss es st et false false l = l

pub carrying_keeps_tree : CarryingKeepsTree
carrying_keeps_tree text e old new numbers inside of_text are_in carried kept = record {
  nested = λ i j h u.
      subst (λ (o : Option Ends). LiesIn o (span_at new numbers i)) (sym (at j h))
      (subst (λ (o : Option Ends). LiesIn (carry_span e (span_at old numbers j) grows_at_no_end Void) o) (sym (at i (let l = u.0 in omega arith)))
      (lies_carried text e of_text (span_at old numbers j) (span_at old numbers i) (in_text j h)
      (in_text i (let l = u.0 in omega arith)) (kept.nested i j h u)));
  apart = λ i j h l.
      subst (λ (o : Option Ends). Precedes o (span_at new numbers j)) (sym (at i (omega arith)))
      (subst (λ (o : Option Ends). Precedes (carry_span e (span_at old numbers i) grows_at_no_end Void) o) (sym (at j h))
      (precedes_carried text e of_text (span_at old numbers i) (span_at old numbers j) (in_text i (omega arith)) (kept.apart i j h l)));
} where
  at : (k : ℕ) → k < length numbers → span_at new numbers k ≡ carry_span e (span_at old numbers k) grows_at_no_end Void
  at k h = carried (slice_index numbers k) (fold_at numbers (slice_index numbers k) k h refl)

  in_text : (k : ℕ) → k < length numbers → IfSome (span_at old numbers k) (λ s. IsTrue (has_span text s))
  in_text k h = are_in (slice_index numbers k) (fold_at numbers (slice_index numbers k) k h refl)
