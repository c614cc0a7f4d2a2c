-- Where ranges stand after one primitive more, and what keeps a document one that came by a trail.
use Rattle.std.proofs.Common.{◌≡◌, ℕ, suc, ◌+◌, ◌<◌, ◌≤◌, List, [], ◌∷◌, ◌++◌, length, take, drop, Option, None, Some, IsSome, false, inl, inr, refl, sym, ap, ◌∙◌, subst, arith, length-append}
use Rattle.std.proofs.lemmas.List.{take-append-le, drop-append-le}
use Rattle.std.proofs.lemmas.List.Sums.{fold_push}
use Rattle.std.proofs.Math.Seq.{take-length}
use Rattle.std.proofs.Math.ListN.{drop_of_length-le}
use Rattle.std.proofs.lemmas.Bool.{cases_eq}
use Rattle.std.proofs.lemmas.Bool.Decides.{nat_tests}
use Rattle.std.specs.Option.{option_map}
use Rattle.std.specs.FinMap.{get, insert, remove, gets}
use Rattle.kte_text.specs.Primitives.{is_empty, misfit, after, after_all}
use Rattle.kte_text.proofs.PrimitiveLemmas.{after_all-append, FitInTurn-append}
use Rattle.kte_text.specs.declared.primitive.Primitive.{Primitive}
use Rattle.kte_place.specs.declared.span.Expand.{Expand}
use Rattle.kte_place.specs.declared.span.Empty.{Empty}
use Rattle.kte_place.specs.Ends.{Ends}
use Rattle.kte_place.specs.Span.{made, carry_span}
use Rattle.kte_buffer.specs.Entries.{entry}
use Rattle.kte_ranges.specs.declared.info.RangeKind.{RangeKind}
use Rattle.kte_ranges.specs.declared.info.Origin.{Origin}
use Rattle.kte_doc.specs.Standings.{Standing, Standings, new_range, reset_to, moved_over}
use Rattle.kte_place.specs.declared.entry.Entry.{Entry}
use Rattle.kte_history.specs.Landing.{carry_all}
use Rattle.kte_history.specs.Revisions.{with_entry}
use Rattle.kte_history.specs.Laws.{IsHistoryOf}
use Rattle.kte_history.proofs.KeptLemmas.{adds_to_history}
use Rattle.kte_doc.specs.Trail.{text_at, entries_of, stand}
use Rattle.kte_doc.specs.Documents.{Document, StandsBy, CameBy, history_of, kept_further}

entries_of-push : (trail : List Primitive) (p : Primitive) (text : List (List ℕ))
    → entries_of (trail ++ p ∷ []) text ≡ entries_of trail text ++ entry p (after_all trail text) ∷ []
entries_of-push [] p text = refl
entries_of-push (first ∷ trail) p text = ap (λ es. entry first text ∷ es) (entries_of-push trail p (after first text))

pub length-entries_of : (trail : List Primitive) (text : List (List ℕ)) → length (entries_of trail text) ≡ length trail
length-entries_of [] text = refl
length-entries_of (first ∷ trail) text = ap (λ n. suc n) (length-entries_of trail (after first text))

-- a range whose origin is in the trail is carried over one primitive more
stand-push : (loaded : List (List ℕ)) (trail : List Primitive) (p : Primitive) (expand : Expand) (empty : Empty) (origin : Origin)
    → origin.revision ≤ length trail
    → stand loaded (trail ++ p ∷ []) expand empty origin
    ≡ carry_span (entry p (after_all trail loaded)) (stand loaded trail expand empty origin) expand empty
stand-push loaded trail p expand empty origin past =
    let r = origin.revision in
    let e = entry p (after_all trail loaded) in
    let first : text_at loaded (trail ++ p ∷ []) r ≡ text_at loaded trail r =
    ap (λ ps. after_all ps loaded) (take-append-le r trail (p ∷ []) past) in
    let later : drop r (entries_of (trail ++ p ∷ []) loaded) ≡ drop r (entries_of trail loaded) ++ e ∷ [] =
    ap (drop r) (entries_of-push trail p loaded)
    ∙ drop-append-le r (entries_of trail loaded) (e ∷ []) (omega (arith, length-entries_of trail loaded)) in
    ap (λ text. carry_all (drop r (entries_of (trail ++ p ∷ []) loaded)) (made (length text) origin.span empty) expand empty) first
    ∙ ap (λ es. carry_all es (made (length (text_at loaded trail r)) origin.span empty) expand empty) later
    ∙ fold_push (λ span entry. carry_span entry span expand empty) _ (drop r (entries_of trail loaded)) e

-- a range of the present revision stands where it was made
stand-now : (loaded : List (List ℕ)) (trail : List Primitive) (expand : Expand) (empty : Empty) (origin : Origin)
    → origin.revision ≡ length trail
    → stand loaded trail expand empty origin ≡ made (length (after_all trail loaded)) origin.span empty
stand-now loaded trail expand empty origin now =
    let r = origin.revision in
    let first : text_at loaded trail r ≡ after_all trail loaded =
    ap (λ ps. after_all ps loaded) (ap (λ n. take n trail) now ∙ take-length trail) in
    let none : drop r (entries_of trail loaded) ≡ [] =
    drop_of_length-le (entries_of trail loaded) (omega (arith, length-entries_of trail loaded)) in
    ap (λ es. carry_all es (made (length (text_at loaded trail r)) origin.span empty) expand empty) none
    ∙ ap (λ text. made (length text) origin.span empty) first

StandsBy-push : (loaded : List (List ℕ)) (trail : List Primitive) (p : Primitive) (range : Standing) → StandsBy loaded trail range
    → StandsBy loaded (trail ++ p ∷ []) (moved_over (entry p (after_all trail loaded)) range)
StandsBy-push loaded trail p range stands = record {
  origin = omega (arith, stands.origin, length-append trail (p ∷ []));
  span = ap (λ span. carry_span (entry p (after_all trail loaded)) span range.expand range.empty) stands.span
      ∙ sym (stand-push loaded trail p range.expand range.empty range.origin stands.origin);
}

-- a range that is made at the present revision
StandsBy-new : (loaded : List (List ℕ)) (trail : List Primitive) (document : Document) (span : Ends) (expand : Expand) (empty : Empty) (kind : RangeKind)
    → CameBy loaded trail document
    → StandsBy loaded trail (new_range document.text document.revision span expand empty kind)
StandsBy-new loaded trail document span expand empty kind came = record {
  origin = omega (arith, came.revision);
  span = ap (λ text. made (length text) span empty) came.text
      ∙ sym (stand-now loaded trail expand empty (record { revision = document.revision; span = span }) came.revision);
}

-- what is there after a change of what was there
changed : {A : Type 0} (f : A → A) (o n : Option A) (y : A) → n ≡ option_map f o → n ≡ Some y → (x : A) × ((o ≡ Some x) × (y ≡ f x))
changed f None n y is some = absurd (cc)
changed f (Some x) n y is some = (x, (refl, cc))

still_there : {A : Type 0} (f : A → A) (o n : Option A) → n ≡ option_map f o → IsSome n → IsSome o
still_there f None n is some = absurd (grind arith)
still_there f (Some x) n is some = refl

-- one primitive more
pub CameBy-primitive : (loaded : List (List ℕ)) (trail : List Primitive) (p : Primitive) (old : Document) (ranges : Standings)
    → CameBy loaded trail old → misfit p old.text ≡ None → is_empty p ≡ false
    → ((id : ℕ) → get ranges id ≡ option_map (moved_over (entry p old.text)) (get old.ranges id))
    → CameBy loaded (trail ++ p ∷ [])
    (record old { text = after p old.text; revision = old.revision + 1; ranges = ranges; kept = kept_further old (entry p old.text) })
CameBy-primitive loaded trail p old ranges came fits changes moved = record {
  fits = FitInTurn-append trail (p ∷ []) loaded came.fits (ap (misfit p) (sym came.text) ∙ fits, changes, tt);
  text = ap (after p) came.text ∙ sym (after_all-append trail (p ∷ []) loaded);
  revision = omega (arith, came.revision, length-append trail (p ∷ []));
  ranges = λ id range there.
      let was = changed (moved_over (entry p old.text)) (get old.ranges id) (get ranges id) range (moved id) there in
      let same : moved_over (entry p (after_all trail loaded)) was.0 ≡ range =
      ap (λ text. moved_over (entry p text) was.0) (sym came.text) ∙ sym was.1.1 in
      subst (StandsBy loaded (trail ++ p ∷ [])) same (StandsBy-push loaded trail p was.0 (came.ranges id was.0 was.1.0));
  first = came.first;
  numbers = λ id there.
      came.numbers id (still_there (moved_over (entry p old.text)) (get old.ranges id) (get ranges id) (moved id) there);
  history =
      let one : entries_of (trail ++ p ∷ []) loaded ≡ entries_of trail loaded ++ entry p old.text ∷ [] =
      entries_of-push trail p loaded ∙ ap (λ (text : List (List ℕ)). entries_of trail loaded ++ entry p text ∷ []) (sym came.text) in
      subst (λ (entries : List Entry). IsHistoryOf entries (record (with_entry (entry p old.text) (history_of old)) { reserved = 0 })) (sym one)
      (adds_to_history (entries_of trail loaded) (history_of old) (entry p old.text) 0 came.history);
}

-- one range more, or one that is set
CameBy-insert : (loaded : List (List ℕ)) (trail : List Primitive) (old : Document) (id next : ℕ) (range : Standing) → CameBy loaded trail old
    → StandsBy loaded trail range → 1 ≤ id → id < next → old.next ≤ next
    → CameBy loaded trail (record old { ranges = insert old.ranges id range; next = next })
CameBy-insert loaded trail old id next range came stands one below rising = record {
  fits = came.fits;
  text = came.text;
  revision = came.revision;
  ranges = λ q other there.
      elim (cases_eq q id) [
        | inl here ↦ let same : range ≡ other = grind (arith, nat_tests, gets) in subst (StandsBy loaded trail) same stands
        | inr apart ↦ came.ranges q other (grind (arith, nat_tests, gets))
      ];
  first = omega (arith, came.first);
  numbers = λ q there.
      elim (cases_eq q id) [
        | inl here ↦ (omega arith, omega arith)
        | inr apart ↦ let was = came.numbers q (grind (arith, nat_tests, gets)) in (was.0, omega (arith, was.1))
      ];
  history = came.history;
}

-- a range that is made
pub CameBy-make : (loaded : List (List ℕ)) (trail : List Primitive) (old : Document) (span : Ends) (expand : Expand) (empty : Empty) (kind : RangeKind)
    → CameBy loaded trail old
    → CameBy loaded trail (record old { ranges = insert old.ranges old.next (new_range old.text old.revision span expand empty kind); next = old.next + 1 })
CameBy-make loaded trail old span expand empty kind came =
    CameBy-insert loaded trail old old.next (old.next + 1) (new_range old.text old.revision span expand empty kind) came
    (StandsBy-new loaded trail old span expand empty kind came) came.first (omega arith) (omega arith)

-- a range that is set
pub CameBy-set : (loaded : List (List ℕ)) (trail : List Primitive) (old : Document) (id : ℕ) (span : Ends) (range : Standing)
    → CameBy loaded trail old → get old.ranges id ≡ Some range
    → CameBy loaded trail (record old { ranges = insert old.ranges id (reset_to old.text old.revision span range) })
CameBy-set loaded trail old id span range came there =
    let number = came.numbers id (subst (λ o. IsSome o) (sym there) refl) in
    CameBy-insert loaded trail old id old.next (reset_to old.text old.revision span range) came
    (StandsBy-new loaded trail old span range.expand range.empty range.kind came) number.0 (omega (arith, number.1)) (omega arith)

-- a range that is dropped
pub CameBy-drop : (loaded : List (List ℕ)) (trail : List Primitive) (old : Document) (id : ℕ)
    → CameBy loaded trail old → CameBy loaded trail (record old { ranges = remove old.ranges id })
CameBy-drop loaded trail old id came = record {
  fits = came.fits;
  text = came.text;
  revision = came.revision;
  ranges = λ q other there. came.ranges q other (grind (arith, nat_tests, gets));
  first = came.first;
  numbers = λ q there. came.numbers q (grind (arith, nat_tests, gets));
  history = came.history;
}
