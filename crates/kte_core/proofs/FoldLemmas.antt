-- Making and removing a fold, in a state and in its document.
use Rattle.std.proofs.Common.{◌≡◌, ◌≢◌, ℕ, ◌+◌, ◌≤◌, Bool, true, false, not, ◌&&◌, List, length, Option, None, Some, IsTrue, ◌⊎◌, ◌↔◌, nat_lt, if◌then◌else◌, inl, inr, refl, ap, sym, subst, ◌∙◌, arith}
use Rattle.std.specs.Prelude.{option_and_then, IsSomeAnd}
use Rattle.std.specs.Option.{option_map}
use Rattle.std.specs.FinMap.{get, insert, remove}
use Rattle.std.proofs.lemmas.Bool.{cases_eq, false_from_ne_true, true≢false}
use Rattle.std.proofs.lemmas.Bool.Decides.{nat_tests}
use Rattle.kte_place.specs.declared.span.Empty.TheVariants.{Void}
use Rattle.kte_place.specs.Ends.{Ends}
use Rattle.kte_place.specs.Place.{is_at_or_before}
use Rattle.kte_place.specs.Span.{made}
use Rattle.kte_ranges.specs.Table.{NumbersBelow}
use Rattle.kte_ranges.specs.declared.info.RangeKind.TheVariants as kind
use Rattle.kte_doc.specs.Documents.{Document, KeepsTrail}
use Rattle.kte_doc.specs.Standings.{Standing, Standings, new_range, spans_of}
use Rattle.kte_doc.proofs.Maps.{get-spans_of}
use Rattle.kte_fold.specs.declared.refused.FoldRefused.{FoldRefused}
use Rattle.kte_fold.specs.declared.refused.FoldRefused.TheVariants.{OutOfText, EmptySpan, Crosses}
use Rattle.kte_fold.specs.Folds.{Spans, has_span, is_crossed, is_fold, least_crossed, refusal}
use Rattle.kte_fold.specs.Inside.{IsLeast}
use Rattle.kte_fold.specs.Laws.{grows_at_no_end}
use Rattle.kte_fold.specs.Tree.{KeepsTree, Outline, span_at}
use Rattle.kte_fold.proofs.CallerLemmas.{allowed_free, same_kept}
use Rattle.kte_fold.proofs.LeastLemmas.{Found, least_found}
use Rattle.kte_fold.proofs.ListLemmas.{Place, fold_at, place_of}
use Rattle.kte_command.specs.declared.command.Command.TheVariants.{Fold, Unfold}
use Rattle.kte_core.specs.Editing.{text_of}
use Rattle.kte_core.specs.State.{Range, State}
use Rattle.kte_core.specs.Folds.{fold_refusal, folds_of, only_fold, spans_now}
use Rattle.kte_core.specs.React as react
use Rattle.kte_core.specs.Shown.{AreFoldsOf, IsFoldLike, IsOf, Replies, is_standing_fold, range_of, told_of}
use Rattle.kte_core.specs.declared.reply.Reply.{Reply}
use Rattle.kte_core.specs.declared.reply.Reply.TheVariants as reply
use Rattle.kte_core.specs.declared.reply.Refusal.{Refusal}
use Rattle.kte_core.specs.declared.reply.Refusal.TheVariants as refusal_is
use Rattle.kte_core.proofs.FoldMapLemmas.{spans_alike, folds_alike}
use Rattle.kte_core.proofs.FoldStepLemmas.{put_there, put_elsewhere, gone_there, gone_elsewhere, next_is_free}
use Rattle.kte_core.proofs.RangeLemmas.{Replies-made, Replies-dropped}

-- two lists that have the same folds, where these stand alike
record Alike (old new : Spans) (a b : List ℕ) : Type 0 where
  numbers : (id : ℕ) → is_fold a id ≡ is_fold b id
  spans : (id : ℕ) → IsTrue (is_fold a id) → get new id ≡ get old id

-- what crosses a span in one crosses it in the other
crossing_in : (old new : Spans) (a b : List ℕ) (s : Ends) → Alike old new a b → (n : ℕ) → IsLeast new b s (length b) n
    → (p : Place a n) × (is_crossed (span_at old a p.place) s ≡ true)
crossing_in old new a b s alike n g =
    let in_a : is_fold a n ≡ true = alike.numbers n ∙ fold_at b n g.place g.bounded g.is_number in
    let p = place_of a n in_a in
    let same : span_at old a p.place ≡ span_at new b g.place =
    ap (get old) p.is_number ∙ sym (alike.spans n in_a) ∙ ap (get new) (sym g.is_number) in
    (p, ap (λ o. is_crossed o s) same ∙ g.is_crossing)

at_most : (old new : Spans) (a b : List ℕ) (s : Ends) → Alike old new a b → (n id : ℕ) → IsLeast new b s (length b) n → IsLeast old a s (length a) id → id ≤ n
at_most old new a b s alike n id g f =
    let crossing = crossing_in old new a b s alike n g in
    let less = f.least crossing.0.place crossing.0.bounded crossing.1 in
    let is = crossing.0.is_number in
    omega arith

none_in : (old new : Spans) (a b : List ℕ) (s : Ends) → Alike old new a b → (n : ℕ) → IsLeast new b s (length b) n → Found old s a (length a) None → ⊥
none_in old new a b s alike n g none =
    let crossing = crossing_in old new a b s alike n g in
    true≢false (sym crossing.1 ∙ none crossing.0.place crossing.0.bounded)

turned : (old new : Spans) (a b : List ℕ) → Alike old new a b → Alike new old b a
turned old new a b alike = record {
  numbers = λ id. sym (alike.numbers id);
  spans = λ id fold. sym (alike.spans id (alike.numbers id ∙ fold));
}

least_alike : (old new : Spans) (a b : List ℕ) (s : Ends) → Alike old new a b → least_crossed old s a ≡ least_crossed new s b
least_alike old new a b s alike =
    by_found (least_crossed old s a) (least_crossed new s b) (least_found old s a) (least_found new s b) where
      by_found : (o p : Option ℕ) → Found old s a (length a) o → Found new s b (length b) p → o ≡ p
      by_found None None f g = refl
      by_found None (Some n) f g = absurd (none_in old new a b s alike n g f)
      by_found (Some m) None f g = absurd (none_in new old b a s (turned old new a b alike) m f g)
      by_found (Some m) (Some n) f g =
          let less = at_most old new a b s alike n m g f in
          let more = at_most new old b a s (turned old new a b alike) m n f g in
          let same : m ≡ n = omega arith in
          ap (λ (k : ℕ). Some k) same

-- so why a span may not be folded depends on the set of the folds alone, and is what the state says
pub refusal_alike : (state : State) (document : Document) (folds : Outline) (span : Ends) → IsOf state document → AreFoldsOf document folds
    → refusal document.text (spans_of document.ranges) folds.numbers span ≡ fold_refusal state span
refusal_alike state document folds span is_of are =
    let spans = spans_of document.ranges in
    ap (λ t. refusal t spans folds.numbers span) is_of.came.text
    ∙ ap (λ least. if not (has_span (text_of state.editing) span) then Some OutOfText
    else if is_at_or_before span.end span.start then Some EmptySpan
    else option_map (λ id. Crosses id) least)
    (least_alike spans (spans_now state) folds.numbers (folds_of state.ranges) span
    (record {
      numbers = folds_alike state document folds is_of are;
      spans = λ id fold. ap (λ (m : Spans). get m id) (sym (spans_alike state document is_of));
    }))

-- a span that may be folded is in the text and not empty, so a range that is made of it stands there
pub record MayBeFolded (text : List (List ℕ)) (s : Ends) : Type 0 where
  pub within : IsTrue (has_span text s)
  pub stands : made (length text) s Void ≡ Some s

pub may_be_folded : (text : List (List ℕ)) (spans : Spans) (numbers : List ℕ) (s : Ends) → refusal text spans numbers s ≡ None → MayBeFolded text s
may_be_folded text spans numbers s allowed =
    by_tests (has_span text s) (is_at_or_before s.end s.start) refl refl allowed where
      by_tests : (x y : Bool) → has_span text s ≡ x → is_at_or_before s.end s.start ≡ y
          → (if not x then Some OutOfText else if y then Some EmptySpan else option_map (λ id. Crosses id) (least_crossed spans s numbers)) ≡ None
          → MayBeFolded text s
      by_tests false y at order none = absurd (cc)
      by_tests true true at order none = absurd (cc)
      by_tests true false at order none =
          let lines : (nat_lt s.start.line (length text) && nat_lt s.end.line (length text)) ≡ true = grind (arith, nat_tests) in
          record { within = at; stands = rw (lines, order) refl }

pub Replies-fold : (state : State) (document later : Document) (folds : Outline) (span : Ends) (answer : Reply) → IsOf state document
    → AreFoldsOf document folds → refusal document.text (spans_of document.ranges) folds.numbers span ≡ None → KeepsTrail document later
    → later ≡ record document {
      ranges = insert document.ranges document.next (new_range document.text document.revision span grows_at_no_end Void kind.Fold);
      next = document.next + 1;
    }
    → answer ≡ told_of document.next (get later.ranges document.next) → Replies (react.react_command state (Fold span)) answer later
Replies-fold state document later folds span answer is_of are allowed keeps is told =
    subst (λ (cause : Option FoldRefused). Replies (react.fold state span cause) answer later)
    (sym allowed ∙ refusal_alike state document folds span is_of are)
    (Replies-made state document later span grows_at_no_end Void kind.Fold answer is_of keeps is told)

pub Replies-not_folded : (state : State) (document : Document) (folds : Outline) (span : Ends) (cause : FoldRefused) → IsOf state document
    → AreFoldsOf document folds → refusal document.text (spans_of document.ranges) folds.numbers span ≡ Some cause
    → Replies (react.react_command state (Fold span)) (reply.Refused (refusal_is.Fold cause)) document
Replies-not_folded state document folds span cause is_of are refuses =
    subst (λ (cause_of : Option FoldRefused). Replies (react.fold state span cause_of) (reply.Refused (refusal_is.Fold cause)) document)
    (sym refuses ∙ refusal_alike state document folds span is_of are)
    (record { reply = refl; made = refl; leads = is_of })

same_bool : (x y : Bool) → (IsTrue x → IsTrue y) → (IsTrue y → IsTrue x) → x ≡ y
same_bool true true f g = refl
same_bool true false f g = let clash = f refl in absurd (cc)
same_bool false true f g = let clash = g refl in absurd (cc)
same_bool false false f g = refl

-- what a fold that is to be added must be: the others stand as before, and none crosses it
pub record MayBeAdded (later : Document) (folds : Outline) (id : ℕ) : Type 0 where
  pub tree : KeepsTree (spans_of later.ranges) folds.numbers folds.inside
  pub new : is_fold folds.numbers id ≡ false
  pub allowed : IsSomeAnd (get (spans_of later.ranges) id) (λ s. least_crossed (spans_of later.ranges) s folds.numbers ≡ None)

-- a fold can be made of the span under the next number
pub record CanBeMade (document : Document) (folds : Outline) (span : Ends) : Type 0 where
  pub are : AreFoldsOf document folds
  pub free : get document.ranges document.next ≡ None
  pub allowed : refusal document.text (spans_of document.ranges) folds.numbers span ≡ None

-- .. also once there is room for one
pub can_be_made : (document : Document) (folds after : Outline) (span : Ends) → AreFoldsOf document folds
    → NumbersBelow document.next document.ranges → None ≡ refusal document.text (spans_of document.ranges) folds.numbers span
    → after ≡ record folds { room = after.room } → CanBeMade document after span
can_be_made document folds after span are below allowed same =
    subst (λ (o : Outline). CanBeMade document o span) (sym same) (record {
      are = record { numbers = are.numbers; alike = are.alike; within = are.within; tree = are.tree };
      free = next_is_free document.next document.ranges below;
      allowed = sym allowed;
    })

module _ (document later : Document) (folds : Outline) (span : Ends) (revision : ℕ) (can : CanBeMade document folds span)
    (text : later.text ≡ document.text)
    (is : later.ranges ≡ insert document.ranges document.next (new_range document.text revision span grows_at_no_end Void kind.Fold)) where
  may : MayBeFolded document.text span
  may = may_be_folded document.text (spans_of document.ranges) folds.numbers span can.allowed

  abbrev new_one : Standing
  new_one = new_range document.text revision span grows_at_no_end Void kind.Fold

  here : (q : ℕ) → q ≡ document.next → get later.ranges q ≡ Some new_one
  here q at = ap (λ (m : Standings). get m q) is ∙ put_there document.ranges document.next q new_one at

  elsewhere : (q : ℕ) → q ≢ document.next → get later.ranges q ≡ get document.ranges q
  elsewhere q apart = ap (λ (m : Standings). get m q) is ∙ put_elsewhere document.ranges document.next q new_one apart

  span_here : (q : ℕ) → q ≡ document.next → get (spans_of later.ranges) q ≡ Some span
  span_here q at = get-spans_of later.ranges q ∙ ap (option_and_then (λ range. range.span)) (here q at) ∙ may.stands

  not_yet : is_fold folds.numbers document.next ≡ false
  not_yet = can.are.numbers document.next ∙ ap is_standing_fold can.free

  other : (q : ℕ) → IsTrue (is_fold folds.numbers q) → q ≢ document.next
  other q fold at = let same = ap (is_fold folds.numbers) at in let free = not_yet in absurd (cc)

  span_as_before : (q : ℕ) → IsTrue (is_fold folds.numbers q) → get (spans_of later.ranges) q ≡ get (spans_of document.ranges) q
  span_as_before q fold =
      get-spans_of later.ranges q ∙ ap (option_and_then (λ range. range.span)) (elsewhere q (other q fold)) ∙ sym (get-spans_of document.ranges q)

  pub may_be_added : MayBeAdded later folds document.next
  may_be_added = record {
    tree = same_kept (spans_of document.ranges) (spans_of later.ranges) folds.numbers folds.inside span_as_before can.are.tree;
    new = not_yet;
    allowed = subst (λ (o : Option Ends). IsSomeAnd o (λ s. least_crossed (spans_of later.ranges) s folds.numbers ≡ None))
        (sym (span_here document.next refl))
        (sym (least_alike (spans_of document.ranges) (spans_of later.ranges) folds.numbers folds.numbers span
        (record { numbers = λ id. refl; spans = span_as_before }))
        ∙ allowed_free document.text (spans_of document.ranges) folds.numbers span can.allowed);
  }

  pub AreFoldsOf-added : (after : Outline)
      → ((n : ℕ) → IsTrue (is_fold after.numbers n) ↔ ((n ≡ document.next) ⊎ IsTrue (is_fold folds.numbers n)))
      → KeepsTree (spans_of later.ranges) after.numbers after.inside → AreFoldsOf later after
  AreFoldsOf-added after added tree = record {
    numbers = λ n. elim (cases_eq n document.next) [
      | inl at ↦ (added n).1 (inl at) ∙ sym (ap is_standing_fold (here n at))
      | inr apart ↦ same_bool (is_fold after.numbers n) (is_fold folds.numbers n) (was n apart) (λ fold. (added n).1 (inr fold))
          ∙ can.are.numbers n ∙ sym (ap is_standing_fold (elsewhere n apart))
    ];
    alike = λ n standing found fold. elim (cases_eq n document.next) [
      | inl at ↦ subst IsFoldLike (same_some (sym (here n at) ∙ found)) (record { expand = refl; empty = refl })
      | inr apart ↦ can.are.alike n standing (sym (elsewhere n apart) ∙ found) fold
    ];
    within = λ n fold. elim (cases_eq n document.next) [
      | inl at ↦ rw (text, span_here n at) may.within
      | inr apart ↦ rw (text, span_as_before n (was n apart fold)) (can.are.within n (was n apart fold))
    ];
    tree = tree;
  } where
    was : (n : ℕ) → n ≢ document.next → IsTrue (is_fold after.numbers n) → IsTrue (is_fold folds.numbers n)
    was n apart fold = elim ((added n).0 fold) [ inl at ↦ absurd (apart at) | inr before ↦ before ]

    same_some : {x y : Standing} → Some x ≡ Some y → x ≡ y
    same_some e = cc

-- a fold is one of the state
only_there : (o : Option Standing) → is_standing_fold o ≡ true → (range : Range) × (only_fold (option_map range_of o) ≡ Some range)
only_there None fold = absurd (cc)
only_there (Some standing) fold = (range_of standing, rw fold refl)

pub Replies-unfold : (state : State) (document later : Document) (folds : Outline) (id : ℕ) (answer : Reply) → IsOf state document
    → AreFoldsOf document folds → is_fold folds.numbers id ≡ true → KeepsTrail document later
    → later ≡ record document { ranges = remove document.ranges id } → answer ≡ reply.Dropped id
    → Replies (react.react_command state (Unfold id)) answer later
Replies-unfold state document later folds id answer is_of are fold keeps is told =
    let found = only_there (get document.ranges id) (sym (are.numbers id) ∙ fold) in
    subst (λ (o : Option Range). Replies (react.drop_fold state id o) answer later)
    (sym found.1 ∙ ap only_fold (is_of.ranges id))
    (subst (λ (a : Reply). Replies (react.dropped state id) a later) (sym told) (Replies-dropped state document later id is_of keeps is))

-- the range of a fold is there
pub fold_stands : {P : Type 0} (document : Document) (folds : Outline) (id : ℕ) → AreFoldsOf document folds → is_fold folds.numbers id ≡ true
    → ((range : Standing) → get document.ranges id ≡ Some range → P) → P
fold_stands {P} document folds id are fold holds = by_range (get document.ranges id) refl (sym (are.numbers id) ∙ fold) where
  by_range : (o : Option Standing) → get document.ranges id ≡ o → is_standing_fold o ≡ true → P
  by_range None is there = absurd (cc)
  by_range (Some standing) is there = holds standing is

module _ (document later : Document) (folds after : Outline) (id : ℕ) (are : AreFoldsOf document folds) (text : later.text ≡ document.text)
    (is : later.ranges ≡ remove document.ranges id)
    (removed : (n : ℕ) → IsTrue (is_fold after.numbers n) ↔ ((n ≢ id) × IsTrue (is_fold folds.numbers n)))
    (keeps : (spans : Spans) → KeepsTree spans folds.numbers folds.inside → KeepsTree spans after.numbers after.inside) where
  gone : (q : ℕ) → q ≡ id → get later.ranges q ≡ None
  gone q at = ap (λ (m : Standings). get m q) is ∙ gone_there document.ranges id q at

  stays : (q : ℕ) → q ≢ id → get later.ranges q ≡ get document.ranges q
  stays q apart = ap (λ (m : Standings). get m q) is ∙ gone_elsewhere document.ranges id q apart

  span_stays : (q : ℕ) → IsTrue (is_fold after.numbers q) → get (spans_of later.ranges) q ≡ get (spans_of document.ranges) q
  span_stays q fold =
      get-spans_of later.ranges q ∙ ap (option_and_then (λ range. range.span)) (stays q ((removed q).0 fold).0) ∙ sym (get-spans_of document.ranges q)

  pub AreFoldsOf-removed : AreFoldsOf later after
  AreFoldsOf-removed = record {
    numbers = λ n. elim (cases_eq n id) [
      | inl at ↦ false_from_ne_true (is_fold after.numbers n) (λ fold. ((removed n).0 fold).0 at) ∙ sym (ap is_standing_fold (gone n at))
      | inr apart ↦ same_bool (is_fold after.numbers n) (is_fold folds.numbers n) (λ fold. ((removed n).0 fold).1) (λ fold. (removed n).1 (apart, fold))
          ∙ are.numbers n ∙ sym (ap is_standing_fold (stays n apart))
    ];
    alike = λ n standing found fold. elim (cases_eq n id) [
      | inl at ↦ let none = gone n at in absurd (cc)
      | inr apart ↦ are.alike n standing (sym (stays n apart) ∙ found) fold
    ];
    within = λ n fold. rw (text, span_stays n fold) (are.within n ((removed n).0 fold).1);
    tree = same_kept (spans_of document.ranges) (spans_of later.ranges) after.numbers after.inside span_stays
        (keeps (spans_of document.ranges) are.tree);
  }

-- a fold is refused only for a cause
pub fold_refused : (state : State) (span : Ends) (cause : Option FoldRefused) (refusal_told : Refusal)
    → (react.fold state span cause).reply ≡ reply.Refused refusal_told → (why : FoldRefused) × (cause ≡ Some why)
fold_refused state span None refusal_told told = absurd (cc)
fold_refused state span (Some why) refusal_told told = (why, refl)
