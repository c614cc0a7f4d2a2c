-- What an undo and a redo make of the groups.
use Rattle.std.proofs.Common.{◌≡◌, ℕ, zero, suc, ◌+◌, ◌<◌, ◌≤◌, ◌==◌, false, List, [], length, take, map, All, Some, refl, ap, sym, subst, ◌∙◌, inl, inr, arith}
use Rattle.std.specs.Prelude.{◌↔◌, Result, Ok, Err, IsOk, IsOkAnd, nat_le}
use Rattle.std.specs.declared.alloc.AllocError.{AllocError}
use Rattle.std.proofs.lemmas.Bool.{cases_Bool, eqb-true, eqb-false}
use Rattle.std.proofs.lemmas.List.{length-map, length-reverse, length-take-le}
use Rattle.kte_text.specs.Primitives.{FitInTurn, after_all}
use Rattle.kte_text.specs.declared.primitive.Primitive.{Primitive}
use Rattle.kte_doc.specs.Documents.{Document}
use Rattle.kte_undo.specs.Steps.{back_of, forth_of}
use Rattle.kte_undo.specs.Groups.{Edits, last_of}
use Rattle.kte_undo.specs.declared.step.Step.{Step as UndoStep}
use Rattle.kte_undo.specs.declared.groups.UndoFault.{UndoFault}
use Rattle.kte_core.specs.Editing.{group_refusal}
use Rattle.kte_core.specs.Groups.{GroupsFit, IsFilled, groups_to, group_steps, gone}
use Rattle.kte_core.specs.State.{State}
use Rattle.kte_core.specs.Shown.{IsOf, IsRefused}
use Rattle.kte_core.specs.declared.edits.Direction.{Direction}
use Rattle.kte_core.specs.declared.edits.Direction.TheVariants.{Back, Forth}
use Rattle.kte_core.specs.declared.event.Step.{Step}
use Rattle.kte_core.specs.declared.reply.Refusal.TheVariants as refusal
use Rattle.kte_core.proofs.EditLemmas.{may_go, is_ok_from, group_is_full}
use Rattle.kte_core.proofs.GroupLemmas.{Leads-back, Leads-forth, last_undo, last_redo, last_filled, fit-gone}

-- one cause is the same cause
pub err_same : (result : Result (List Primitive) UndoFault) (given fault : UndoFault) → result ≡ Err given → given ≡ fault → result ≡ Err fault
err_same result given fault is same = cc

err_is : (result : Result (List Primitive) UndoFault) (given fault : UndoFault) → result ≡ Err given → result ≡ Err fault → given ≡ fault
err_is result given fault is other = cc

not_both : (result : Result (List Primitive) UndoFault) (made : List Primitive) (fault : UndoFault) → result ≡ Ok made → result ≡ Err fault → ⊥
not_both result made fault is other = cc

-- where primitives are given, no transaction is open, and there is a group
pub goes : (result : Result (List Primitive) UndoFault) (made : List Primitive) (depth : ℕ) (groups : List (List UndoStep))
    → ((d : ℕ) → (result ≡ Err (UndoFault.StillOpen d)) ↔ ((d ≡ depth) × (0 < d)))
    → ((result ≡ Err UndoFault.Nothing) ↔ ((depth ≡ 0) × (groups ≡ []))) → result ≡ Ok made
    → (depth ≡ 0) × (0 < length groups)
goes result made depth groups still_open nothing is =
    may_go depth groups (λ some. not_both result made (UndoFault.StillOpen depth) is ((still_open depth).1 (refl, some)))
    (λ shut none. not_both result made UndoFault.Nothing is (nothing.1 (shut, none)))

-- a refusal for want of a group takes no memory
pub record IsReplied (depth : ℕ) (groups : List (List UndoStep)) (result : Result Step AllocError) : Type 0 where
  pub inside : 0 < depth → IsOk result
  pub none : groups ≡ [] → IsOk result

pub is_replied : (back : Result (List Primitive) UndoFault) (given : UndoFault) (depth : ℕ) (groups : List (List UndoStep))
    (result : Result Step AllocError) → back ≡ Err given
    → ((d : ℕ) → (back ≡ Err (UndoFault.StillOpen d)) ↔ ((d ≡ depth) × (0 < d)))
    → ((back ≡ Err UndoFault.Nothing) ↔ ((depth ≡ 0) × (groups ≡ [])))
    → ((d : ℕ) → given ≡ UndoFault.StillOpen d → IsOkAnd result (IsRefused (refusal.StillOpen d)))
    → (given ≡ UndoFault.Nothing → IsOkAnd result (IsRefused refusal.Nothing)) → IsReplied depth groups result
is_replied back given depth groups result is still_open nothing tells_open tells_none =
    let inside : 0 < depth → IsOk result =
    λ some. is_ok_from result (IsRefused (refusal.StillOpen depth))
    (tells_open depth (err_is back given (UndoFault.StillOpen depth) is ((still_open depth).1 (refl, some)))) in
    record {
      inside = inside;
      none = λ none. elim (cases_Bool (depth == 0)) [
        | inl t ↦ is_ok_from result (IsRefused refusal.Nothing)
            (tells_none (err_is back given UndoFault.Nothing is (nothing.1 (eqb-true depth 0 t, none))))
        | inr f ↦ let some : 0 < depth = omega (arith, eqb-false depth 0 f) in inside some
      ];
    }

-- the last group has as many primitives as steps
length-group_steps : (direction : Direction) (edits : Edits) → length (group_steps direction edits) ≡ length (last_of (groups_to direction edits))
length-group_steps Back edits = length-reverse (map back_of (last_of edits.undo)) ∙ length-map (last_of edits.undo) back_of
length-group_steps Forth edits = length-map (last_of edits.redo) forth_of

-- .. and some
groups_filled : (direction : Direction) (edits : Edits) (text : List (List ℕ)) → GroupsFit edits text → All IsFilled (groups_to direction edits)
groups_filled Back edits text fit = fit.undo_filled
groups_filled Forth edits text fit = fit.redo_filled

-- .. which fit the text
steps_fit : (direction : Direction) (edits : Edits) (text : List (List ℕ)) → edits.depth ≡ 0 → 0 < length (groups_to direction edits)
    → GroupsFit edits text → FitInTurn (group_steps direction edits) text
steps_fit Back edits text shut some fit =
    let last = (last_undo edits text shut some fit).parts in
    (Leads-back (last_of edits.undo) last.mid text last.last).fit
steps_fit Forth edits text shut some fit =
    let last = (last_redo edits text shut some fit).parts in
    (Leads-forth (last_of edits.redo) text last.mid last.first).fit

-- where not none of them was made, some was
some_done : (n all : ℕ) → 0 < all → (n < all → 0 < n) → 0 < n
some_done zero all some h = h some
some_done (suc n) all some h = omega arith

-- An undo or a redo of so many primitives of the last group
pub record Going (direction : Direction) (edits : Edits) (text : List (List ℕ)) (made : List Primitive) : Type 0 where
  pub fit : GroupsFit edits text
  pub shut : edits.depth ≡ 0
  pub some : 0 < length (groups_to direction edits)
  pub all : made ≡ group_steps direction edits

pub group_fits_text : (direction : Direction) (edits : Edits) (text : List (List ℕ)) (made : List Primitive) → Going direction edits text made
    → FitInTurn made text
group_fits_text direction edits text made going =
    subst (λ (ps : List Primitive). FitInTurn ps text) (sym going.all) (steps_fit direction edits text going.shut going.some going.fit)

-- it has as many primitives as its group has steps, and some
pub record HasSteps (direction : Direction) (edits : Edits) (made : List Primitive) : Type 0 where
  pub long : length made ≡ length (last_of (groups_to direction edits))
  pub some : 0 < length made

pub has_steps : (direction : Direction) (edits : Edits) (text : List (List ℕ)) (made : List Primitive) → Going direction edits text made
    → HasSteps direction edits made
has_steps direction edits text made going =
    let filled = last_filled (groups_to direction edits) going.some (groups_filled direction edits text going.fit) in
    let long : length made ≡ length (last_of (groups_to direction edits)) = ap length going.all ∙ length-group_steps direction edits in
    record { long = long; some = omega arith }

pub going_is_full : (direction : Direction) (state : State) (document : Document) (edits : Edits) (text : List (List ℕ)) (made : List Primitive)
    → Going direction edits text made → IsOf state document → edits ≡ state.editing.edits
    → nat_le (document.revision + length made) document.limit ≡ false
    → group_refusal state.editing (groups_to direction state.editing.edits) (group_steps direction state.editing.edits)
    ≡ Some (refusal.RevisionsFull document.revision)
going_is_full direction state document edits text made going is_of same less =
    ap (λ (e : Edits). group_refusal state.editing (groups_to direction e) (group_steps direction e)) (sym same)
    ∙ ap (λ (ps : List Primitive). group_refusal state.editing (groups_to direction edits) ps) (sym going.all)
    ∙ group_is_full state document edits (groups_to direction edits) made is_of same going.shut going.some less

pub gone_some : (direction : Direction) (edits : Edits) (text : List (List ℕ)) (made : List Primitive) (n : ℕ) → Going direction edits text made
    → (n < length made → 0 < n) → 0 < n
gone_some direction edits text made n going h = some_done n (length made) (has_steps direction edits text made going).some h

pub gone_edits : (direction : Direction) (edits later : Edits) (made : List Primitive) (n : ℕ) → n ≤ length made → later ≡ gone direction n edits
    → later ≡ gone direction (length (take n made)) edits
gone_edits direction edits later made n within is = is ∙ ap (λ (k : ℕ). gone direction k edits) (sym (length-take-le n made within))

pub fits_gone : (direction : Direction) (edits later : Edits) (text now : List (List ℕ)) (made : List Primitive) (n : ℕ)
    → Going direction edits text made → 0 < n → n ≤ length made → later ≡ gone direction n edits → now ≡ after_all (take n made) text
    → GroupsFit later now
fits_gone direction edits later text now made n going one within is reached =
    let long = (has_steps direction edits text made going).long in
    let reached_all : now ≡ after_all (take n (group_steps direction edits)) text =
    reached ∙ ap (λ (ps : List Primitive). after_all (take n ps) text) going.all in
    subst (λ (e : Edits). GroupsFit e now) (sym is)
    (subst (λ (t : List (List ℕ)). GroupsFit (gone direction n edits) t) (sym reached_all)
    (fit-gone direction edits text n going.shut going.some one (omega arith) going.fit))

-- nothing was made
pub fits_same : (edits later : Edits) (document now : Document) → GroupsFit edits document.text → later ≡ edits → now ≡ document → GroupsFit later now.text
fits_same edits later document now fit is same =
    subst (λ (e : Edits). GroupsFit e now.text) (sym is) (subst (λ (d : Document). GroupsFit edits d.text) (sym same) fit)
