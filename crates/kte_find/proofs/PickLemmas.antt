-- Which brackets of a text are in no pair, as far as it was read.
use Rattle.std.proofs.Common.{◌≡◌, ◌∙◌, ℕ, true, List, [], ◌∷◌, ◌++◌, map, Some, None, Contains, inl, inr, refl, sym, ap, subst, append_assoc, arith}
use Rattle.std.proofs.lemmas.Bool.{both_ways, or_left, or_right}
use Rattle.std.proofs.lemmas.List.{append-nil}
use Rattle.std.proofs.lemmas.List.Elements.{Contains-append_right}
use Rattle.kte_place.specs.Ends.{Ends}
use Rattle.kte_find.specs.Brackets.{Placed, is_opening, is_closing, is_bracket, closes, Balanced, ArePair, IsLone}
use Rattle.kte_find.specs.Brackets.Balanced.{empty, plain, nested}
use Rattle.kte_find.specs.Findings.{span_of}
use Rattle.kte_find.specs.Reading.{stacked, stack_after, IsOpen, Picks, IsSplitOnce}
use Rattle.kte_find.specs.Reading.Picks.{none, skip, pick}
use Rattle.kte_find.proofs.StackLemmas.{kinds, stacked-closing, stacked-pair, stack_after-append, balanced_reads, none_or_some, some_same, none_below, pushed, pushed_below, open_reads, cut_twice}

pub Contains-mid : {A : Type 0} (xs : List A) (y : A) (zs : List A) → Contains (xs ++ y ∷ zs) y
Contains-mid xs y zs = Contains-append_right xs (y ∷ zs) y (0, omega arith, refl)

pub Picks-append : {text units more : List Placed} {spans others : List Ends} → Picks text units spans → Picks text more others
    → Picks text (units ++ more) (spans ++ others)
Picks-append none q = q
Picks-append (skip u us spans h p) q = skip u _ _ h (Picks-append p q)
Picks-append (pick u us spans h p) q = pick u _ _ h (Picks-append p q)

opens_is_bracket : (u : ℕ) → is_opening u ≡ true → is_bracket u ≡ true
opens_is_bracket u h = or_left (is_opening u) (is_closing u) h

closes_is_bracket : (u : ℕ) → is_closing u ≡ true → is_bracket u ≡ true
closes_is_bracket u h = or_right (is_opening u) (is_closing u) h

-- each bracket of a balanced part of a text is in a pair
pick_balanced : (text before after : List Placed) {units : List Placed} → Balanced units → text ≡ before ++ (units ++ after)
    → Picks text units []
pick_balanced text before after empty e = none
pick_balanced text before after (plain u rest h b) e =
    skip u rest [] (λ lone. both_ways _ h lone.kind)
    (pick_balanced text (before ++ u ∷ []) after b (e ∙ sym (append_assoc before (u ∷ []) (rest ++ after))))
pick_balanced text before after (nested o c inside rest h b d) e =
    let whole : text ≡ before ++ o ∷ inside ++ c ∷ (rest ++ after) =
    e ∙ simp append_assoc in
    let pair : ArePair text o c = record { before = before; inside = inside; after = rest ++ after; whole = whole; kind = h; balanced = b } in
    skip o _ [] (λ lone. lone.unclosed c pair)
    (Picks-append
    (pick_balanced text (before ++ o ∷ []) (c ∷ rest ++ after) b (whole ∙ simp append_assoc))
    (skip c rest [] (λ lone. lone.unopened o pair)
    (pick_balanced text (before ++ o ∷ inside ++ c ∷ []) after d (whole ∙ simp append_assoc))))

-- no closing bracket can come at once after this stack: there is none, or it closes none of them
abbrev pub Stops : List Placed → List Placed → Type 0
Stops stack [] = Unit {0}
Stops stack (unit ∷ units) = stacked stack unit ≡ None

stops_below : (s t units : List Placed) → Stops (s ++ t) units → Stops s units
stops_below s t [] h = tt
stops_below s t (u ∷ us) h = none_below s t u h

-- a balanced text is followed by no closing bracket on an empty stack
pub front_fails : (inside : List Placed) (c : Placed) (after : List Placed) → Balanced inside → is_closing c.unit ≡ true
    → stack_after (Some []) (inside ++ c ∷ after) ≡ None
front_fails inside c after b h =
    stack_after-append (Some []) inside (c ∷ after)
    ∙ ap (λ t. stack_after t (c ∷ after)) (balanced_reads b [])
    ∙ ap (λ t. stack_after t after) (stacked-closing [] c h)

-- an opening bracket that was not closed before the text ends or no bracket can be closed any more
-- is never closed
never_closed : (opening : Placed) (opened units after : List Placed) → IsOpen opened units
    → Stops (pushed opened [] ++ opening ∷ []) after
    → (inside : List Placed) (closing : Placed) (rest : List Placed) → units ++ after ≡ inside ++ closing ∷ rest
    → closes opening.unit closing.unit ≡ true → Balanced inside → ⊥
never_closed o os us after h stops inside c rest e k b = elim (cut_twice us after inside (c ∷ rest) e) [
  | inr (m, f, g) ↦ cut_inside m f g
  | inl (m, f, g) ↦ cut_after after stops m f g
] where
  closing : is_closing c.unit ≡ true
  closing = (kinds o.unit c.unit k).closes

  reads : stack_after (Some []) us ≡ Some (pushed os [])
  reads = open_reads os us h []

  -- all is read when the closing bracket comes
  at_end : (units : List Placed) → inside ≡ us → Stops (pushed os [] ++ o ∷ []) (c ∷ units) → ⊥
  at_end units f s =
      let empty_stack : pushed os [] ≡ [] =
      some_same _ _ (sym reads ∙ ap (λ x. stack_after (Some []) x) (sym f) ∙ balanced_reads b []) in
      let s' : stacked (o ∷ []) c ≡ None = rw empty_stack at s in
      none_or_some _ [] s' (stacked-pair [] o c k)

  cut_inside : (m : List Placed) → us ≡ inside ++ m → c ∷ rest ≡ m ++ after → ⊥
  cut_inside [] f g = at_end rest (sym (f ∙ append-nil inside)) (subst (λ x. Stops (pushed os [] ++ o ∷ []) x) (sym g) stops)
  cut_inside (x ∷ m) f g =
      let same : c ≡ x = cc in
      let f' : us ≡ inside ++ c ∷ m = f ∙ ap (λ y. inside ++ y ∷ m) (sym same) in
      none_or_some _ (pushed os []) (ap (λ x. stack_after (Some []) x) f' ∙ front_fails inside c m b closing) reads

  cut_after : (after : List Placed) → Stops (pushed os [] ++ o ∷ []) after → (m : List Placed) → inside ≡ us ++ m → after ≡ m ++ c ∷ rest → ⊥
  cut_after after s [] f g = at_end rest (f ∙ append-nil us) (subst (λ x. Stops (pushed os [] ++ o ∷ []) x) g s)
  cut_after [] s (x ∷ m) f g = cc
  cut_after (y ∷ ys) s (x ∷ m) f g =
      let same : y ≡ x = cc in
      let s' : stacked (pushed os []) x ≡ None = subst (λ z. stacked (pushed os []) z ≡ None) same (none_below (pushed os []) (o ∷ []) y s) in
      let fails : stack_after (Some []) inside ≡ None =
      ap (λ z. stack_after (Some []) z) f ∙ stack_after-append (Some []) us (x ∷ m) ∙ ap (λ t. stack_after t (x ∷ m)) reads ∙ ap (λ t. stack_after t m) s' in
      none_or_some _ [] fails (balanced_reads b [])

-- of a part of a text, the opening brackets that were not closed are in no pair
pub pick_open : (text before after opened units : List Placed) → IsSplitOnce text → text ≡ before ++ (units ++ after)
    → IsOpen opened units → Stops (pushed opened []) after → Picks text units (map span_of opened)
pick_open text before after [] units once e h stops = pick_balanced text before after h e
pick_open text before after (o ∷ os) units once e (front, back, f, b, k, h) stops =
    let whole : text ≡ before ++ front ++ o ∷ (back ++ after) =
    e ∙ ap (λ x. before ++ (x ++ after)) f ∙ simp append_assoc in
    let stops' : Stops (pushed os [] ++ o ∷ []) after = subst (λ s. Stops s after) (pushed_below os [] (o ∷ [])) stops in
    let lone : IsLone text o = record {
      there = subst (λ x. Contains x o) (sym whole) (Contains-mid (before ++ front) o (back ++ after));
      kind = opens_is_bracket o.unit k;
      unclosed = λ c pair.
          never_closed o os back after h stops' pair.inside c pair.after
          ((once (before ++ front) pair.before o (back ++ after) (pair.inside ++ c ∷ pair.after) whole
          (pair.whole ∙ append_assoc pair.before (o ∷ pair.inside) (c ∷ pair.after))).1)
          pair.kind pair.balanced;
      unopened = λ p pair. both_ways _ ((kinds p.unit o.unit pair.kind).never_opens) k;
    } in
    subst (λ x. Picks text x (map span_of (o ∷ os))) (sym f)
    (Picks-append (pick_balanced text before (o ∷ back ++ after) b (whole ∙ append_assoc before front (o ∷ (back ++ after))))
    (pick o back (map span_of os) lone
    (pick_open text (before ++ front ++ o ∷ []) after os back once (whole ∙ simp append_assoc) h (stops_below (pushed os []) (o ∷ []) after stops'))))
