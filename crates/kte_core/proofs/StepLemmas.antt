-- Primitives that are made one after another.
use Rattle.std.proofs.Common.{◌≡◌, ℕ, ◌+◌, ◌≤◌, false, List, [], ◌∷◌, ◌++◌, length, take, drop, All, Some, None, refl, ap, sym, subst, ◌∙◌, arith, append-nil, append_assoc, length-append, add-zero}
use Rattle.std.specs.Prelude.{Result, Ok, Err, is_err, is_ok, OnOk}
use Rattle.std.specs.List.{slice_get}
use Rattle.std.proofs.lemmas.Option.{slice_get_within, get_or_from_slice_get}
use Rattle.std.proofs.lemmas.List.{take_more, drop_more}
use Rattle.std.proofs.lemmas.List.Elements.{All-append, All-cons, All-nil}
use Rattle.kte_text.specs.Primitives.{HasLine, FitInTurn, after, after_all, is_empty, misfit}
use Rattle.kte_text.specs.declared.primitive.Primitive.{Primitive}
use Rattle.kte_text.proofs.PrimitiveLemmas.{after_all-append}
use Rattle.kte_doc.specs.Documents.{Document, CameBy}
use Rattle.kte_undo.specs.Groups.{Edits, noted}
use Rattle.kte_undo.specs.Steps.{steps_along, step, cut_by, old_of}
use Rattle.kte_undo.specs.declared.step.Step.{Step}
use Rattle.kte_undo.proofs.InverseLemmas.{steps_along-append}
use Rattle.kte_core.specs.Editing.{noted_all}
use Rattle.kte_core.specs.Shown.{IsAfter}

-- no primitive changes nothing
pub IsAfter-none : (document : Document) → IsAfter [] document document
IsAfter-none document = record {
  came = λ loaded trail came. rw append-nil came;
  text = refl;
  revision = sym (add-zero document.revision);
  limit = refl;
  ranges = λ id. refl;
  next_id = refl;
  locks = refl;
  folds = λ folds are. are;
}

-- first some primitives, and then others
IsAfter-join : (ps qs : List Primitive) (a b c : Document) → IsAfter ps a b → IsAfter qs b c → IsAfter (ps ++ qs) a c
IsAfter-join ps qs a b c first last = record {
  came = λ loaded trail came. subst (λ (t : List Primitive). CameBy loaded t c) (append_assoc trail ps qs)
      (last.came loaded (trail ++ ps) (first.came loaded trail came));
  text = last.text ∙ ap (after_all qs) first.text ∙ sym (after_all-append ps qs a.text);
  revision = omega (arith, first.revision, last.revision, length-append ps qs);
  limit = last.limit ∙ first.limit;
  ranges = λ id. last.ranges id ∙ first.ranges id;
  next_id = last.next_id ∙ first.next_id;
  locks = last.locks ∙ first.locks;
  folds = λ folds are. last.folds folds (first.folds folds are);
}

-- the first primitives are one more
taken : (ps : List Primitive) (n : ℕ) (p : Primitive) → slice_get ps n ≡ Some p → take (n + 1) ps ≡ take n ps ++ p ∷ []
taken ps n p found =
    take_more ps n p (slice_get_within ps n p found) ∙ ap (λ (q : Primitive). take n ps ++ q ∷ []) (get_or_from_slice_get ps n p p found)

left : (ps : List Primitive) (n : ℕ) (p : Primitive) → slice_get ps n ≡ Some p → drop n ps ≡ p ∷ drop (n + 1) ps
left ps n p found =
    drop_more ps n p (slice_get_within ps n p found) ∙ ap (λ (q : Primitive). q ∷ drop (n + 1) ps) (get_or_from_slice_get ps n p p found)

IsAfter-more : (ps : List Primitive) (n : ℕ) (p : Primitive) (a b c : Document) → slice_get ps n ≡ Some p
    → IsAfter (take n ps) a b → IsAfter (p ∷ []) b c → IsAfter (take (n + 1) ps) a c
IsAfter-more ps n p a b c found first last =
    subst (λ (qs : List Primitive). IsAfter qs a c) (sym (taken ps n p found)) (IsAfter-join (take n ps) (p ∷ []) a b c first last)

-- the next of primitives that fit in turn fits, and then the others
pub record FitsNext (ps : List Primitive) (n : ℕ) (p : Primitive) (text : List (List ℕ)) : Type 0 where
  pub fits : misfit p text ≡ None
  pub some : is_empty p ≡ false
  pub rest : FitInTurn (drop (n + 1) ps) (after p text)

pub fits_next : (ps : List Primitive) (n : ℕ) (p : Primitive) (text : List (List ℕ)) → slice_get ps n ≡ Some p
    → FitInTurn (drop n ps) text → FitsNext ps n p text
fits_next ps n p text found fit =
    let next = subst (λ (qs : List Primitive). FitInTurn qs text) (left ps n p found) fit in
    record { fits = next.0; some = next.1; rest = next.2 }

-- what holds of a success holds where there is no error
pub on_success : {T E : Type 0} (result : Result T E) (P : Type 0) → is_err result ≡ false → OnOk result P → P
on_success (Ok x) P fine h = h
on_success (Err e) P fine h = absurd (cc)

-- so many of the primitives were made, and the others fit in turn
pub record Applied (ps : List Primitive) (n : ℕ) (start now : Document) : Type 0 where
  pub count : n ≤ length ps
  pub after : IsAfter (take n ps) start now
  pub fit : FitInTurn (drop n ps) now.text
  pub none : n ≡ 0 → now ≡ start

pub applied_none : (ps : List Primitive) (start : Document) → FitInTurn ps start.text → Applied ps 0 start start
applied_none ps start fit = record { count = omega arith; after = IsAfter-none start; fit = fit; none = λ zero. refl }

-- .. and then the next one
pub applied_more : {T E : Type 0} (ps : List Primitive) (n : ℕ) (p : Primitive) (start was now : Document) (result : Result T E)
    → slice_get ps n ≡ Some p → Applied ps n start was → is_err result ≡ false → OnOk result (IsAfter (p ∷ []) was now)
    → Applied ps (n + 1) start now
applied_more ps n p start was now result found applied fine made =
    let one = on_success result _ fine made in
    record {
      count = omega (arith, slice_get_within ps n p found);
      after = IsAfter-more ps n p start was now found applied.after one;
      fit = rw one.text (fits_next ps n p was.text found applied.fit).rest;
      none = λ zero. absurd (omega arith);
    }

pub lines_more : (ps : List Primitive) (n : ℕ) (p : Primitive) → slice_get ps n ≡ Some p → All HasLine (take n ps) → HasLine p
    → All HasLine (take (n + 1) ps)
lines_more ps n p found lines line =
    subst (λ (qs : List Primitive). All HasLine qs) (sym (taken ps n p found))
    (All-append HasLine (take n ps) (p ∷ []) lines (All-cons HasLine p [] line (All-nil HasLine)))

-- one step more is noted
pub noted_more : (ps : List Primitive) (n : ℕ) (p : Primitive) (text now : List (List ℕ)) (old edits later : Edits)
    → slice_get ps n ≡ Some p → now ≡ after_all (take n ps) text
    → edits ≡ noted_all (steps_along (take n ps) text) old → later ≡ noted (step p (cut_by p now) (old_of p now)) edits
    → later ≡ noted_all (steps_along (take (n + 1) ps) text) old
noted_more ps n p text now old edits later found reached before noted_p =
    let qs = take n ps in
    let along : steps_along (take (n + 1) ps) text ≡ steps_along qs text ++ step p (cut_by p now) (old_of p now) ∷ [] =
    ap (λ (rs : List Primitive). steps_along rs text) (taken ps n p found) ∙ steps_along-append qs (p ∷ []) text
    ∙ ap (λ (t : List (List ℕ)). steps_along qs text ++ step p (cut_by p t) (old_of p t) ∷ []) (sym reached) in
    noted_p ∙ ap (noted (step p (cut_by p now) (old_of p now))) before
    ∙ ap (λ (s : List Step). record old { current = s }) (append_assoc old.current (steps_along qs text) (step p (cut_by p now) (old_of p now) ∷ []))
    ∙ ap (λ (s : List Step). noted_all s old) (sym along)

-- what holds of a success holds of a result whose error alone is another
pub on_mapped : {T E D : Type 0} (inner : Result T E) (outer : Result T D) (P : Type 0) → is_ok outer ≡ is_ok inner → (is_err inner ≡ false → P) → OnOk outer P
on_mapped (Ok x) (Ok y) P same h = h refl
on_mapped (Err e) (Ok y) P same h = absurd (cc)
on_mapped inner (Err e) P same h = tt
