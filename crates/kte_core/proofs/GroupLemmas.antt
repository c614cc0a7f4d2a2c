-- Steps that lead from text to text, and groups that fit a text.
use Rattle.std.proofs.Common.{◌≡◌, ℕ, zero, suc, ◌+◌, ◌-◌, ◌<◌, ◌≤◌, ◌==◌, List, [], ◌∷◌, ◌++◌, length, take, drop, reverse, map, All, refl, ap, sym, subst, ◌∙◌, inl, inr, arith, append-nil, take-append-drop, length-drop}
use Rattle.std.proofs.lemmas.Bool.{cases_Bool, eqb-false}
use Rattle.std.proofs.lemmas.List.{map-append, take_more, take_all, take_at, reverse-append, length-map, length-reverse, length-take-le}
use Rattle.std.proofs.lemmas.List.Concat.{flat_map-append}
use Rattle.std.specs.List.{take-map}
use Rattle.std.proofs.lemmas.List.Elements.{All-get_or, All-nil, All-cons, All-head, All-tail, All-append, All-take}
use Rattle.kte_text.specs.Texts.{IsText}
use Rattle.kte_text.specs.Primitives.{HasLine, FitInTurn, after, after_all}
use Rattle.kte_text.specs.declared.primitive.Primitive.{Primitive}
use Rattle.kte_text.proofs.PrimitiveLemmas.{FitInTurn-append, IsText-after, after_all-append}
use Rattle.kte_undo.specs.Steps.{steps_along, step, cut_by, old_of, undo_of, redo_of, back_of, forth_of}
use Rattle.kte_undo.specs.Groups.{Edits, last_of, before_last, if_any, begun, closed, ended, gone_back, gone_forth}
use Rattle.kte_undo.specs.declared.step.Step.{Step}
use Rattle.kte_undo.proofs.InverseLemmas.{undoes, redoes, steps_along-append}
use Rattle.kte_core.specs.Editing.{noted_all, noted_change}
use Rattle.kte_core.specs.Groups.{Leads, GroupsFit, IsFilled, steps_in, group_steps, groups_to, gone}
use Rattle.kte_core.specs.declared.edits.Direction.{Direction}
use Rattle.kte_core.specs.declared.edits.Direction.TheVariants.{Back, Forth}

-- a text is a text after primitives that fit it in turn
pub IsText-after_all : (ps : List Primitive) (text : List (List ℕ)) → IsText text → All HasLine ps → FitInTurn ps text
    → IsText (after_all ps text)
IsText-after_all [] text whole lines fit = whole
IsText-after_all (p ∷ ps) text whole lines (none, some, rest) =
    IsText-after_all ps (after p text) (IsText-after p text whole (All-head HasLine p ps lines) none) (All-tail HasLine p ps lines) rest

-- the steps of primitives that fit a text in turn lead from it
pub Leads-along : (ps : List Primitive) (text : List (List ℕ)) → IsText text → All HasLine ps → FitInTurn ps text
    → Leads (steps_along ps text) text (after_all ps text)
Leads-along ps text whole lines fit =
    record { primitives = ps; is_text = whole; lines = lines; fit = fit; along = refl; reaches = refl }

pub Leads-none : (text : List (List ℕ)) → IsText text → Leads [] text text
Leads-none text whole = Leads-along [] text whole (All-nil HasLine) tt

-- they lead to a text
pub Leads-text : (steps : List Step) (a b : List (List ℕ)) → Leads steps a b → IsText b
Leads-text steps a b leads =
    subst (λ (t : List (List ℕ)). IsText t) (sym leads.reaches) (IsText-after_all leads.primitives a leads.is_text leads.lines leads.fit)

-- no step leads nowhere else
no_primitives : (ps : List Primitive) (a b : List (List ℕ)) → [] ≡ steps_along ps a → b ≡ after_all ps a → b ≡ a
no_primitives [] a b along reaches = reaches
no_primitives (p ∷ ps) a b along reaches = cc

pub Leads-nowhere : (a b : List (List ℕ)) → Leads [] a b → b ≡ a
Leads-nowhere a b leads = no_primitives leads.primitives a b leads.along leads.reaches

-- first some steps, and then others
pub Leads-join : (xs ys : List Step) (a b c : List (List ℕ)) → Leads xs a b → Leads ys b c → Leads (xs ++ ys) a c
Leads-join xs ys a b c first last =
    let ps = first.primitives in
    let qs = last.primitives in
    let steps = steps_along-append ps qs a in
    let text = after_all-append ps qs a in
    let reached = first.reaches in
    record {
      primitives = ps ++ qs;
      is_text = first.is_text;
      lines = All-append HasLine ps qs first.lines last.lines;
      fit = FitInTurn-append ps qs a first.fit (subst (λ (t : List (List ℕ)). FitInTurn qs t) reached last.fit);
      along = ap (λ (s : List Step). s ++ ys) first.along ∙ ap (λ (s : List Step). steps_along ps a ++ s) last.along
          ∙ ap (λ (t : List (List ℕ)). steps_along ps a ++ steps_along qs t) reached ∙ sym steps;
      reaches = last.reaches ∙ ap (after_all qs) reached ∙ sym text;
    }

-- steps that are cut in two
pub record Splits (xs ys : List Step) (a c : List (List ℕ)) : Type 0 where
  pub mid : List (List ℕ)
  pub first : Leads xs a mid
  pub last : Leads ys mid c

split_along : (xs ys : List Step) (ps : List Primitive) (a c : List (List ℕ)) → IsText a → All HasLine ps → FitInTurn ps a
    → xs ++ ys ≡ steps_along ps a → c ≡ after_all ps a → Splits xs ys a c
split_along [] ys ps a c whole lines fit along reaches = record {
  mid = a;
  first = Leads-none a whole;
  last = record { primitives = ps; is_text = whole; lines = lines; fit = fit; along = along; reaches = reaches };
}
split_along (x ∷ xs) ys [] a c whole lines fit along reaches = absurd (cc)
split_along (x ∷ xs) ys (p ∷ ps) a c whole lines (none, some, rest) along reaches =
    let line = All-head HasLine p ps lines in
    let next = IsText-after p a whole line none in
    let e : xs ++ ys ≡ steps_along ps (after p a) = cc in
    let ih = split_along xs ys ps (after p a) c next (All-tail HasLine p ps lines) rest e reaches in
    let head : x ≡ step p (cut_by p a) (old_of p a) = cc in
    record {
      mid = ih.mid;
      first = record {
        primitives = p ∷ ih.first.primitives;
        is_text = whole;
        lines = All-cons HasLine p ih.first.primitives line ih.first.lines;
        fit = (none, some, ih.first.fit);
        along = ap (λ (s : Step). s ∷ xs) head ∙ ap (λ (s : List Step). step p (cut_by p a) (old_of p a) ∷ s) ih.first.along;
        reaches = ih.first.reaches;
      };
      last = ih.last;
    }

pub Leads-split : (xs ys : List Step) (a c : List (List ℕ)) → Leads (xs ++ ys) a c → Splits xs ys a c
Leads-split xs ys a c leads =
    split_along xs ys leads.primitives a c leads.is_text leads.lines leads.fit leads.along leads.reaches

-- what undoes steps leads back, and fits
pub record LeadsBack (steps : List Step) (a b : List (List ℕ)) : Type 0 where
  pub text : after_all (undo_of steps) b ≡ a
  pub fit : FitInTurn (undo_of steps) b

pub Leads-back : (steps : List Step) (a b : List (List ℕ)) → Leads steps a b → LeadsBack steps a b
Leads-back steps a b leads =
    let ps = leads.primitives in
    let back = undoes ps a leads.is_text leads.lines leads.fit in
    record {
      text = ap (λ (s : List Step). after_all (undo_of s) b) leads.along
          ∙ ap (after_all (undo_of (steps_along ps a))) leads.reaches ∙ back.leads;
      fit = subst (λ (s : List Step). FitInTurn (undo_of s) b) (sym leads.along)
          (subst (λ (t : List (List ℕ)). FitInTurn (undo_of (steps_along ps a)) t) (sym leads.reaches) back.fit);
    }

-- what redoes them leads forth, and fits
pub record LeadsForth (steps : List Step) (a b : List (List ℕ)) : Type 0 where
  pub text : after_all (redo_of steps) a ≡ b
  pub fit : FitInTurn (redo_of steps) a

pub Leads-forth : (steps : List Step) (a b : List (List ℕ)) → Leads steps a b → LeadsForth steps a b
Leads-forth steps a b leads =
    let ps = leads.primitives in
    let e : ps ≡ redo_of steps = sym (ap redo_of leads.along ∙ redoes ps a leads.fit) in
    record {
      text = sym (leads.reaches ∙ ap (λ (qs : List Primitive). after_all qs a) e);
      fit = subst (λ (qs : List Primitive). FitInTurn qs a) e leads.fit;
    }

-- the steps of one group more
steps_in-push : (groups : List (List Step)) (group : List Step) → steps_in (groups ++ group ∷ []) ≡ steps_in groups ++ group
steps_in-push groups group =
    flat_map-append (λ (g : List Step). g) groups (group ∷ []) ∙ ap (λ (s : List Step). steps_in groups ++ s) (append-nil group)

-- .. which is the next one to be redone
steps_in-next : (groups : List (List Step)) (group : List Step) → steps_in (reverse (groups ++ group ∷ [])) ≡ group ++ steps_in (reverse groups)
steps_in-next groups group = ap steps_in (reverse-append groups (group ∷ []))

-- .. if it has any
steps_in-if_any : (groups : List (List Step)) (group : List Step) → steps_in (groups ++ if_any group) ≡ steps_in groups ++ group
steps_in-if_any groups [] = flat_map-append (λ (g : List Step). g) groups []
steps_in-if_any groups (first ∷ group) = steps_in-push groups (first ∷ group)

steps_in-next_if_any : (groups : List (List Step)) (group : List Step)
    → steps_in (reverse (groups ++ if_any group)) ≡ group ++ steps_in (reverse groups)
steps_in-next_if_any groups [] = ap (λ (g : List (List Step)). steps_in (reverse g)) (append-nil groups)
steps_in-next_if_any groups (first ∷ group) = steps_in-next groups (first ∷ group)

filled-if_any : (group : List Step) → All IsFilled (if_any group)
filled-if_any [] = All-nil IsFilled
filled-if_any (first ∷ group) = All-cons IsFilled (first ∷ group) [] (omega arith) (All-nil IsFilled)

filled-one : (group : List Step) → 0 < length group → All IsFilled (group ∷ [])
filled-one group some = All-cons IsFilled group [] some (All-nil IsFilled)

-- the groups before the last one, and it
split_last : (groups : List (List Step)) → 0 < length groups → groups ≡ before_last groups ++ last_of groups ∷ []
split_last groups some =
    let whole : take (length groups - 1 + 1) groups ≡ groups = take_all (length groups - 1 + 1) groups (omega arith) in
    sym whole ∙ take_more groups (length groups - 1) [] (omega arith)

-- another depth, which is 0 only where there are no steps in the open group
fit-depth : (edits : Edits) (text : List (List ℕ)) (depth : ℕ) → (depth ≡ 0 → edits.current ≡ []) → GroupsFit edits text
    → GroupsFit (record edits { depth = depth }) text
fit-depth edits text depth shut fit = record {
  oldest = fit.oldest;
  opened = fit.opened;
  newest = fit.newest;
  undo = fit.undo;
  current = fit.current;
  redo = fit.redo;
  undo_filled = fit.undo_filled;
  redo_filled = fit.redo_filled;
  shut = shut;
}

-- a transaction is opened
pub fit-begun : (edits : Edits) (text : List (List ℕ)) → GroupsFit edits text → GroupsFit (begun edits) text
fit-begun edits text fit = fit-depth edits text (edits.depth + 1) (λ zero. absurd (omega arith)) fit

-- steps are noted in the open group
pub fit-noted : (edits : Edits) (steps : List Step) (text later : List (List ℕ)) → 0 < edits.depth → GroupsFit edits text → Leads steps text later
    → GroupsFit (noted_all steps edits) later
fit-noted edits steps text later inside fit leads = record {
  oldest = fit.oldest;
  opened = fit.opened;
  newest = fit.newest;
  undo = fit.undo;
  current = Leads-join edits.current steps fit.opened text later fit.current leads;
  redo = fit.redo;
  undo_filled = fit.undo_filled;
  redo_filled = fit.redo_filled;
  shut = λ zero. absurd (omega arith);
}

-- the outermost transaction is closed
fit-closed : (steps : List Step) (edits : Edits) (text : List (List ℕ)) → edits.current ≡ steps → GroupsFit edits text
    → GroupsFit (closed steps (record edits { depth = 0 })) text
fit-closed [] edits text is fit = fit-depth edits text 0 (λ zero. is) fit
fit-closed (first ∷ steps) edits text is fit =
    let group = first ∷ steps in
    let whole = Leads-text edits.current fit.opened text fit.current in
    let last = subst (λ (s : List Step). Leads s fit.opened text) is fit.current in
    record {
      oldest = fit.oldest;
      opened = text;
      newest = text;
      undo = subst (λ (s : List Step). Leads s fit.oldest text) (sym (steps_in-push edits.undo group))
          (Leads-join (steps_in edits.undo) group fit.oldest fit.opened text fit.undo last);
      current = Leads-none text whole;
      redo = Leads-none text whole;
      undo_filled = All-append IsFilled edits.undo (group ∷ []) fit.undo_filled (filled-one group (omega arith));
      redo_filled = All-nil IsFilled;
      shut = λ zero. refl;
    }

pub fit-ended : (edits : Edits) (text : List (List ℕ)) → 0 < edits.depth → GroupsFit edits text → GroupsFit (ended edits) text
fit-ended edits text inside fit =
    elim (cases_Bool (edits.depth == 1)) [
      | inl t ↦ rw t (fit-closed edits.current edits text refl fit)
      | inr f ↦ let two : 0 < edits.depth - 1 = omega (arith, eqb-false edits.depth 1 f) in
          rw f (fit-depth edits text (edits.depth - 1) (λ zero. absurd (omega arith)) fit)
    ]

-- a change is made
pub fit-change : (edits : Edits) (steps : List Step) (text later : List (List ℕ)) → GroupsFit edits text → Leads steps text later
    → GroupsFit (noted_change steps edits) later
fit-change edits steps text later fit leads =
    elim (cases_Bool (edits.depth == 0)) [
      | inl t ↦ rw t (fit-ended (noted_all steps (begun edits)) later (omega arith)
          (fit-noted (begun edits) steps text later (omega arith) (fit-begun edits text fit) leads))
      | inr f ↦ let inside : 0 < edits.depth = omega (arith, eqb-false edits.depth 0 f) in
          rw f (fit-noted edits steps text later inside fit leads)
    ]

-- outside of a transaction the present text is the one that the groups lead to
opened_text : (edits : Edits) (text : List (List ℕ)) → edits.depth ≡ 0 → (fit : GroupsFit edits text) → text ≡ fit.opened
opened_text edits text shut fit =
    Leads-nowhere fit.opened text (subst (λ (s : List Step). Leads s fit.opened text) (fit.shut shut) fit.current)

-- what the groups are outside of a transaction
record IsOutside (edits : Edits) (text : List (List ℕ)) : Type 0 where
  pub oldest : List (List ℕ)
  pub newest : List (List ℕ)
  pub undo : Leads (steps_in edits.undo) oldest text
  pub redo : Leads (steps_in (reverse edits.redo)) text newest
  pub undo_filled : All IsFilled edits.undo
  pub redo_filled : All IsFilled edits.redo
  pub none : edits.current ≡ []

outside : (edits : Edits) (text : List (List ℕ)) → edits.depth ≡ 0 → GroupsFit edits text → IsOutside edits text
outside edits text shut fit =
    let same = sym (opened_text edits text shut fit) in
    record {
      oldest = fit.oldest;
      newest = fit.newest;
      undo = subst (λ (t : List (List ℕ)). Leads (steps_in edits.undo) fit.oldest t) same fit.undo;
      redo = subst (λ (t : List (List ℕ)). Leads (steps_in (reverse edits.redo)) t fit.newest) same fit.redo;
      undo_filled = fit.undo_filled;
      redo_filled = fit.redo_filled;
      none = fit.shut shut;
    }

fits_outside : (edits : Edits) (text : List (List ℕ)) → IsOutside edits text → GroupsFit edits text
fits_outside edits text out = record {
  oldest = out.oldest;
  opened = text;
  newest = out.newest;
  undo = out.undo;
  current = subst (λ (s : List Step). Leads s text text) (sym out.none) (Leads-none text (Leads-text (steps_in edits.undo) out.oldest text out.undo));
  redo = out.redo;
  undo_filled = out.undo_filled;
  redo_filled = out.redo_filled;
  shut = λ zero. out.none;
}

-- the last group to be undone: those before it lead to the text that it leads from
pub record LastUndo (edits : Edits) (text : List (List ℕ)) : Type 0 where
  pub oldest : List (List ℕ)
  pub parts : Splits (steps_in (before_last edits.undo)) (last_of edits.undo) oldest text

pub last_undo : (edits : Edits) (text : List (List ℕ)) → edits.depth ≡ 0 → 0 < length edits.undo → GroupsFit edits text → LastUndo edits text
last_undo edits text shut some fit =
    let out = outside edits text shut fit in
    let group = last_of edits.undo in
    let e : steps_in edits.undo ≡ steps_in (before_last edits.undo) ++ group =
    ap steps_in (split_last edits.undo some) ∙ steps_in-push (before_last edits.undo) group in
    record {
      oldest = out.oldest;
      parts = Leads-split (steps_in (before_last edits.undo)) group out.oldest text
          (subst (λ (s : List Step). Leads s out.oldest text) e out.undo);
    }

-- the last group to be redone: those before it lead on from the text that it leads to
pub record LastRedo (edits : Edits) (text : List (List ℕ)) : Type 0 where
  pub newest : List (List ℕ)
  pub parts : Splits (last_of edits.redo) (steps_in (reverse (before_last edits.redo))) text newest

pub last_redo : (edits : Edits) (text : List (List ℕ)) → edits.depth ≡ 0 → 0 < length edits.redo → GroupsFit edits text → LastRedo edits text
last_redo edits text shut some fit =
    let out = outside edits text shut fit in
    let group = last_of edits.redo in
    let e : steps_in (reverse edits.redo) ≡ group ++ steps_in (reverse (before_last edits.redo)) =
    ap (λ (g : List (List Step)). steps_in (reverse g)) (split_last edits.redo some) ∙ steps_in-next (before_last edits.redo) group in
    record {
      newest = out.newest;
      parts = Leads-split group (steps_in (reverse (before_last edits.redo))) text out.newest
          (subst (λ (s : List Step). Leads s text out.newest) e out.redo);
    }

-- the primitives that undo the last steps of a group are the first ones of those that undo all
undo_of-last : (group : List Step) (n : ℕ) → n ≤ length group → undo_of (drop (length group - n) group) ≡ take n (undo_of group)
undo_of-last group n within =
    let k = length group - n in
    let front = undo_of (take k group) in
    let back = undo_of (drop k group) in
    let whole : undo_of group ≡ back ++ front =
    ap undo_of (sym (take-append-drop k group))
    ∙ ap reverse (map-append back_of (take k group) (drop k group))
    ∙ reverse-append (map back_of (take k group)) (map back_of (drop k group)) in
    let long : length back ≡ n =
    length-reverse (map back_of (drop k group)) ∙ length-map (drop k group) back_of ∙ length-drop k group ∙ omega arith in
    sym (ap (take n) whole ∙ take_at back front n long)

-- so many steps of the last group are undone, or redone
pub fit-gone : (direction : Direction) (edits : Edits) (text : List (List ℕ)) (n : ℕ) → edits.depth ≡ 0 → 0 < length (groups_to direction edits)
    → 0 < n → n ≤ length (last_of (groups_to direction edits)) → GroupsFit edits text
    → GroupsFit (gone direction n edits) (after_all (take n (group_steps direction edits)) text)
fit-gone Back edits text n shut some one within fit =
    let out = outside edits text shut fit in
    let groups = before_last edits.undo in
    let group = last_of edits.undo in
    let last = last_undo edits text shut some fit in
    let k = length group - n in
    let rest = take k group in
    let moved = drop k group in
    let cut = Leads-split rest moved last.parts.mid text
    (subst (λ (s : List Step). Leads s last.parts.mid text) (sym (take-append-drop k group)) last.parts.last) in
    let back = Leads-back moved cut.mid text cut.last in
    let e : after_all (take n (undo_of group)) text ≡ cut.mid =
    ap (λ (ps : List Primitive). after_all ps text) (sym (undo_of-last group n within)) ∙ back.text in
    let long : 0 < length moved = omega (arith, length-drop k group) in
    rw e (fits_outside (gone_back n edits) cut.mid (record {
      oldest = last.oldest;
      newest = out.newest;
      undo = subst (λ (s : List Step). Leads s last.oldest cut.mid) (sym (steps_in-if_any groups rest))
          (Leads-join (steps_in groups) rest last.oldest last.parts.mid cut.mid last.parts.first cut.first);
      redo = subst (λ (s : List Step). Leads s cut.mid out.newest) (sym (steps_in-next edits.redo moved))
          (Leads-join moved (steps_in (reverse edits.redo)) cut.mid text out.newest cut.last out.redo);
      undo_filled = All-append IsFilled groups (if_any rest)
          (All-take IsFilled (length edits.undo - 1) edits.undo out.undo_filled) (filled-if_any rest);
      redo_filled = All-append IsFilled edits.redo (moved ∷ []) out.redo_filled (filled-one moved long);
      none = out.none;
    }))
fit-gone Forth edits text n shut some one within fit =
    let out = outside edits text shut fit in
    let groups = before_last edits.redo in
    let group = last_of edits.redo in
    let last = last_redo edits text shut some fit in
    let moved = take n group in
    let rest = drop n group in
    let cut = Leads-split moved rest text last.parts.mid
    (subst (λ (s : List Step). Leads s text last.parts.mid) (sym (take-append-drop n group)) last.parts.first) in
    let forth = Leads-forth moved text cut.mid cut.first in
    let e : after_all (take n (redo_of group)) text ≡ cut.mid =
    ap (λ (ps : List Primitive). after_all ps text) (take-map forth_of n group) ∙ forth.text in
    let long : 0 < length moved = omega (arith, length-take-le n group within) in
    rw e (fits_outside (gone_forth n edits) cut.mid (record {
      oldest = out.oldest;
      newest = last.newest;
      undo = subst (λ (s : List Step). Leads s out.oldest cut.mid) (sym (steps_in-push edits.undo moved))
          (Leads-join (steps_in edits.undo) moved out.oldest text cut.mid out.undo cut.first);
      redo = subst (λ (s : List Step). Leads s cut.mid last.newest) (sym (steps_in-next_if_any groups rest))
          (Leads-join rest (steps_in (reverse groups)) cut.mid last.parts.mid last.newest cut.last last.parts.last);
      undo_filled = All-append IsFilled edits.undo (moved ∷ []) out.undo_filled (filled-one moved long);
      redo_filled = All-append IsFilled groups (if_any rest)
          (All-take IsFilled (length edits.redo - 1) edits.redo out.redo_filled) (filled-if_any rest);
      none = out.none;
    }))

-- the last of filled groups is filled
pub last_filled : (groups : List (List Step)) → 0 < length groups → All IsFilled groups → 0 < length (last_of groups)
last_filled groups some filled = All-get_or IsFilled groups (length groups - 1) [] (omega arith) filled

-- the first of primitives that fit in turn fit in turn
pub FitInTurn-take : (n : ℕ) (ps : List Primitive) (text : List (List ℕ)) → FitInTurn ps text → FitInTurn (take n ps) text
FitInTurn-take zero ps text fit = tt
FitInTurn-take (suc n) [] text fit = tt
FitInTurn-take (suc n) (p ∷ ps) text (none, some, rest) = (none, some, FitInTurn-take n ps (after p text) rest)

-- the groups after the first primitives of a change
pub fits_change : (edits later : Edits) (text now : List (List ℕ)) (ps : List Primitive) (n : ℕ) → GroupsFit edits text
    → FitInTurn ps text → All HasLine (take n ps) → later ≡ noted_change (steps_along (take n ps) text) edits
    → now ≡ after_all (take n ps) text → GroupsFit later now
fits_change edits later text now ps n fit turn lines noted reached =
    let whole = Leads-text edits.current fit.opened text fit.current in
    let leads = Leads-along (take n ps) text whole lines (FitInTurn-take n ps text turn) in
    subst (λ (e : Edits). GroupsFit e now) (sym noted)
    (subst (λ (t : List (List ℕ)). GroupsFit (noted_change (steps_along (take n ps) text) edits) t) (sym reached)
    (fit-change edits (steps_along (take n ps) text) text (after_all (take n ps) text) fit leads))
