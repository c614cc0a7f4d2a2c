-- The folds of a document after it changes: after a primitive, and after a range comes, is set or goes.
use Rattle.std.proofs.Common.{◌≡◌, ◌≢◌, ℕ, ◌+◌, ◌-◌, Bool, true, false, List, [], ◌∷◌, length, Option, None, Some, IsSome, IsTrue, IfSome, if◌then◌else◌, inl, inr, refl, ap, sym, subst, ◌∙◌, arith}
use Rattle.std.specs.Prelude.{option_and_then}
use Rattle.std.specs.Cmp.Derive.{both_true}
use Rattle.std.proofs.lemmas.Bool.{cases_eq, and_parts}
use Rattle.std.proofs.lemmas.Bool.Decides.{nat_tests}
use Rattle.std.specs.Option.{option_map}
use Rattle.std.specs.Ordering.{nat_cmp}
use Rattle.std.specs.FinMap.{FinMap, get, insert, remove, gets}
use Rattle.kte_text.specs.Texts.{line_at}
use Rattle.kte_text.specs.Primitives.{FitsText, after, misfit}
use Rattle.kte_text.specs.declared.primitive.Primitive.{Primitive}
use Rattle.kte_text.specs.declared.primitive.Primitive.TheVariants.{Wrap, Unwrap, Insert, Remove}
use Rattle.kte_text.proofs.PrimitiveLemmas.{FitsText-from_misfit}
use Rattle.kte_place.specs.declared.place.Place.{Place}
use Rattle.kte_place.specs.declared.place.OnInsert.TheVariants.{Stay, Move}
use Rattle.kte_place.specs.declared.entry.Entry.{Entry}
use Rattle.kte_place.specs.declared.entry.EntryKind.TheVariants as kind
use Rattle.kte_place.specs.declared.span.Empty.TheVariants.{Void}
use Rattle.kte_place.specs.Ends.{Ends}
use Rattle.kte_place.specs.Place.{is_at_or_before}
use Rattle.kte_place.specs.Entry.{carry}
use Rattle.kte_place.specs.Span.{ends, carry_span}
use Rattle.kte_buffer.specs.Entries.{entry}
use Rattle.kte_buffer.specs.Offset.{IsInText}
use Rattle.kte_buffer.proofs.CallerLemmas.{IsWithin-entry}
use Rattle.kte_buffer.specs.Laws.{StaysInside}
use Rattle.kte_doc.specs.Documents.{Document, ExtendsTrail, kept_further}
use Rattle.kte_ranges.specs.Table.{NumbersBelow}
use Rattle.kte_doc.specs.Standings.{Standing, Standings, moved_over, spans_of}
use Rattle.kte_doc.proofs.Maps.{get-spans_of}
use Rattle.kte_fold.specs.Folds.{has_span, is_fold, is_in_text}
use Rattle.kte_fold.specs.Laws.{IsEntryOf, grows_at_no_end}
use Rattle.kte_fold.proofs.CarryLemmas.{carrying_keeps_tree}
use Rattle.kte_core.specs.Folds.{is_fold_kind}
use Rattle.kte_core.specs.Shown.{AreFoldsOf, IsAfter, IsFoldLike, KeepsFolds, is_standing_fold, range_of}
use Rattle.kte_core.proofs.FoldKeepLemmas.{folds-others}

-- a place in a text, as a test and as a fact
in_text_true : (text : List (List ℕ)) (p : Place) → IsInText text p → IsTrue (is_in_text text p)
in_text_true text p at =
    let line = at.line in
    let column = at.column in
    grind (arith, nat_tests)

in_text_tells : (text : List (List ℕ)) (p : Place) → IsTrue (is_in_text text p) → IsInText text p
in_text_tells text p is = record { line = grind (arith, nat_tests); column = grind (arith, nat_tests) }

-- the entry of a primitive that fits is one of its text
IsEntryOf-entry : (p : Primitive) (text : List (List ℕ)) → FitsText p text → IsEntryOf text (entry p text)
IsEntryOf-entry p text fits = record { within = IsWithin-entry p text fits; joined = joined p } where
  joined : (p : Primitive) → (entry p text).kind ≡ kind.Unwrap → (entry p text).old ≡ length (line_at text ((entry p text).line - 1))
  joined (Wrap line column) is = absurd (cc)
  joined (Unwrap line) is = refl
  joined (Insert line column units) is = absurd (cc)
  joined (Remove line column count) is = absurd (cc)

-- a fold in a text is in the text after a primitive
carried_in : StaysInside → (p : Primitive) (text : List (List ℕ)) → FitsText p text → (o : Option Ends) → IfSome o (λ s. IsTrue (has_span text s))
    → IfSome (carry_span (entry p text) o grows_at_no_end Void) (λ s. IsTrue (has_span (after p text) s))
carried_in stays p text fits None is = tt
carried_in stays p text fits (Some s) is =
    let e = entry p text in
    let parts = and_parts (is_in_text text s.start) (is_in_text text s.end) is in
    by_test (carry e s.start Move) (carry e s.end Stay) (is_at_or_before (carry e s.end Stay) (carry e s.start Move))
    (in_text_true (after p text) (carry e s.start Move) (stays p text s.start Move fits (in_text_tells text s.start parts.0)))
    (in_text_true (after p text) (carry e s.end Stay) (stays p text s.end Stay fits (in_text_tells text s.end parts.1))) where
      by_test : (a b : Place) (x : Bool) → IsTrue (is_in_text (after p text) a) → IsTrue (is_in_text (after p text) b)
          → IfSome (if x then None else Some (ends a b)) (λ s. IsTrue (has_span (after p text) s))
      by_test a b true at_a at_b = tt
      by_test a b false at_a at_b = both_true at_a at_b

-- carrying keeps whether a range is a fold
fold_moved : (e : Entry) (o : Option Standing) → is_standing_fold (option_map (moved_over e) o) ≡ is_standing_fold o
fold_moved e None = refl
fold_moved e (Some standing) = refl

alike_moved : (e : Entry) (o : Option Standing) (standing : Standing) → option_map (moved_over e) o ≡ Some standing
    → ((was : Standing) → o ≡ Some was → is_fold_kind was.kind ≡ true → IsFoldLike was) → is_fold_kind standing.kind ≡ true → IsFoldLike standing
alike_moved e None standing is alike fold = absurd (cc)
alike_moved e (Some was) standing is alike fold =
    let now : moved_over e was ≡ standing = cc in
    let same_kind : was.kind ≡ standing.kind = ap (λ (s : Standing). s.kind) now in
    let like = alike was refl (ap is_fold_kind same_kind ∙ fold) in
    subst IsFoldLike now (record { expand = like.expand; empty = like.empty })

-- .. and a fold's span is carried as that of a fold
span_moved : (e : Entry) (o : Option Standing) → is_standing_fold o ≡ true
    → ((was : Standing) → o ≡ Some was → is_fold_kind was.kind ≡ true → IsFoldLike was)
    → option_and_then (λ range. range.span) (option_map (moved_over e) o)
    ≡ carry_span e (option_and_then (λ range. range.span) o) grows_at_no_end Void
span_moved e None fold alike = refl
span_moved e (Some was) fold alike =
    let like = alike was refl fold in
    ap (λ x. carry_span e was.span x was.empty) like.expand ∙ ap (λ x. carry_span e was.span grows_at_no_end x) like.empty

pub KeepsFolds-primitive : StaysInside → (p : Primitive) (old new : Document) → misfit p old.text ≡ None → new.text ≡ after p old.text
    → ((id : ℕ) → get new.ranges id ≡ option_map (moved_over (entry p old.text)) (get old.ranges id)) → KeepsFolds old new
KeepsFolds-primitive stays p old new fit text moved folds are = record {
  numbers = λ id. are.numbers id ∙ sym (ap is_standing_fold (moved id) ∙ fold_moved e (get old.ranges id));
  alike = λ id standing found. alike_moved e (get old.ranges id) standing (sym (moved id) ∙ found) (are.alike id);
  within = λ id fold. rw (text, carried id fold) (carried_in stays p old.text fits (get (spans_of old.ranges) id) (are.within id fold));
  tree = carrying_keeps_tree old.text e (spans_of old.ranges) (spans_of new.ranges) folds.numbers folds.inside
      (IsEntryOf-entry p old.text fits) are.within carried are.tree;
} where
  e : Entry
  e = entry p old.text

  fits : FitsText p old.text
  fits = FitsText-from_misfit p old.text fit

  carried : (id : ℕ) → IsTrue (is_fold folds.numbers id) → get (spans_of new.ranges) id ≡ carry_span e (get (spans_of old.ranges) id) grows_at_no_end Void
  carried id fold =
      get-spans_of new.ranges id ∙ ap (option_and_then (λ range. range.span)) (moved id)
      ∙ span_moved e (get old.ranges id) (sym (are.numbers id) ∙ fold) (are.alike id)
      ∙ ap (λ o. carry_span e o grows_at_no_end Void) (sym (get-spans_of old.ranges id))

-- what is under a number after something is put under one, or taken away
pub put_there : {X : Type 0} (m : FinMap nat_cmp X) (id q : ℕ) (x : X) → q ≡ id → get (insert m id x) q ≡ Some x
put_there m id q x here = grind (arith, nat_tests, gets)

pub put_elsewhere : {X : Type 0} (m : FinMap nat_cmp X) (id q : ℕ) (x : X) → q ≢ id → get (insert m id x) q ≡ get m q
put_elsewhere m id q x apart = grind (arith, nat_tests, gets)

pub gone_there : {X : Type 0} (m : FinMap nat_cmp X) (id q : ℕ) → q ≡ id → get (remove m id) q ≡ None
gone_there m id q here = grind (arith, nat_tests, gets)

pub gone_elsewhere : {X : Type 0} (m : FinMap nat_cmp X) (id q : ℕ) → q ≢ id → get (remove m id) q ≡ get m q
gone_elsewhere m id q apart = grind (arith, nat_tests, gets)

-- .. where what is under the number is no fold, before and after
KeepsFolds-one : (old new : Document) (id : ℕ) (now : Option Standing) → new.text ≡ old.text
    → ((q : ℕ) → q ≡ id → get new.ranges q ≡ now) → ((q : ℕ) → q ≢ id → get new.ranges q ≡ get old.ranges q)
    → is_standing_fold now ≡ false → is_standing_fold (get old.ranges id) ≡ false → KeepsFolds old new
KeepsFolds-one old new id now text here elsewhere none was_none =
    folds-others old new text
    (λ q. elim (cases_eq q id) [
      | inl is ↦ ap is_standing_fold (here q is) ∙ none ∙ sym was_none ∙ ap (λ n. is_standing_fold (get old.ranges n)) (sym is)
      | inr apart ↦ ap is_standing_fold (elsewhere q apart)
    ])
    (λ q fold. elim (cases_eq q id) [
      | inl is ↦ let same : is_standing_fold (get old.ranges q) ≡ false = ap (λ n. is_standing_fold (get old.ranges n)) is ∙ was_none in absurd (cc)
      | inr apart ↦ elsewhere q apart
    ])

pub KeepsFolds-put : (old new : Document) (id : ℕ) (standing : Standing) → new.text ≡ old.text
    → new.ranges ≡ insert old.ranges id standing → is_fold_kind standing.kind ≡ false → is_standing_fold (get old.ranges id) ≡ false
    → KeepsFolds old new
KeepsFolds-put old new id standing text ranges none was_none =
    KeepsFolds-one old new id (Some standing) text
    (λ q is. ap (λ (m : Standings). get m q) ranges ∙ put_there old.ranges id q standing is)
    (λ q apart. ap (λ (m : Standings). get m q) ranges ∙ put_elsewhere old.ranges id q standing apart) none was_none

pub KeepsFolds-gone : (old new : Document) (id : ℕ) → new.text ≡ old.text
    → new.ranges ≡ remove old.ranges id → is_standing_fold (get old.ranges id) ≡ false → KeepsFolds old new
KeepsFolds-gone old new id text ranges was_none =
    KeepsFolds-one old new id None text
    (λ q is. ap (λ (m : Standings). get m q) ranges ∙ gone_there old.ranges id q is)
    (λ q apart. ap (λ (m : Standings). get m q) ranges ∙ gone_elsewhere old.ranges id q apart) refl was_none

-- .. where the range of a number goes that is no fold, if there is one
pub KeepsFolds-taken : {A B : Type 0} (old new : Document) (id : ℕ) → is_standing_fold (get old.ranges id) ≡ false
    → (get old.ranges id ≡ None → A × (new ≡ old))
    → ((standing : Standing) → get old.ranges id ≡ Some standing → B × (new ≡ record old { ranges = remove old.ranges id }))
    → KeepsFolds old new
KeepsFolds-taken {A} {B} old new id none absent gone = by_range (get old.ranges id) refl where
  by_range : (o : Option Standing) → get old.ranges id ≡ o → KeepsFolds old new
  by_range None is = λ folds are. subst (λ (d : Document). AreFoldsOf d folds) (sym (absent is).1) are
  by_range (Some standing) is =
      let it = (gone standing is).1 in
      KeepsFolds-gone old new id (ap (λ (d : Document). d.text) it) (ap (λ (d : Document). d.ranges) it) none

-- no range has the next number
pub next_is_free : (next : ℕ) (ranges : Standings) → NumbersBelow next ranges → get ranges next ≡ None
next_is_free next ranges below = by_range (get ranges next) refl where
  by_range : (o : Option Standing) → get ranges next ≡ o → o ≡ None
  by_range None is = refl
  by_range (Some standing) is =
      let within = below next (subst (λ (o : Option Standing). IsSome o) (sym is) refl) in absurd (omega (arith, within.1))

-- a primitive that fits leads to the document after it
kept_range : (e : Entry) (o : Option Standing) → option_map range_of (option_map (moved_over e) o) ≡ option_map range_of o
kept_range e None = refl
kept_range e (Some standing) = refl

pub IsAfter-one : StaysInside → (p : Primitive) (old new : Document) → misfit p old.text ≡ None → ExtendsTrail p old new
    → new ≡ record old {
      text = after p old.text;
      revision = old.revision + 1;
      ranges = new.ranges;
      kept = kept_further old (entry p old.text);
    }
    → ((id : ℕ) → get new.ranges id ≡ option_map (moved_over (entry p old.text)) (get old.ranges id)) → IsAfter (p ∷ []) old new
IsAfter-one stays p old new fits extends is moved = record {
  came = extends;
  text = ap (λ (d : Document). d.text) is;
  revision = ap (λ (d : Document). d.revision) is;
  limit = ap (λ (d : Document). d.limit) is;
  ranges = λ id. ap (option_map range_of) (moved id) ∙ kept_range (entry p old.text) (get old.ranges id);
  next_id = ap (λ (d : Document). d.next) is;
  locks = ap (λ (d : Document). d.locks) is;
  folds = KeepsFolds-primitive stays p old new fits (ap (λ (d : Document). d.text) is) moved;
}
