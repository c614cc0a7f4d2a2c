-- A step of reading brackets.
use Rattle.std.proofs.Common.{◌≡◌, ◌∙◌, ℕ, zero, suc, ◌+◌, ◌-◌, true, false, List, [], ◌∷◌, ◌++◌, length, map, take, slice_get, Some, None, Result, Ok, Err, OnOk, Contains, ◌⊎◌, inl, inr, refl, sym, ap, subst, append_assoc, arith}
use Rattle.std.proofs.lemmas.Bool.{both_ways, or_cases, or_right}
use Rattle.std.proofs.lemmas.List.{append-nil, nil_from_length}
use Rattle.std.proofs.lemmas.Option.{slice_get-get_or, slice_get_within}
use Rattle.std.specs.Option.{option_map_or}
use Rattle.kte_place.specs.Ends.{Ends}
use Rattle.kte_find.specs.declared.found.TheConstants.{MAX_FINDINGS}
use Rattle.kte_find.specs.Brackets.{Placed, is_opening, is_closing, is_bracket, closes, Balanced, IsLone}
use Rattle.kte_find.specs.Brackets.Balanced.{empty, plain, nested}
use Rattle.kte_find.specs.Findings.{span_of}
use Rattle.kte_find.specs.Reading.{stacked, stack_after, closes_last, IsOpen, Picks, IsSplitOnce, IsSealed, HasRead}
use Rattle.kte_find.specs.Reading.Picks.{none, pick}
use Rattle.kte_find.proofs.FirstLemmas.{take-take-append}
use Rattle.kte_find.proofs.StackLemmas.{kinds, closing_never_opens, stacked-opening, stacked-closing, stacked-pair, stacked-other, pushed-last, stack_after-append, balanced_reads, balanced_append, option_cases, none_or_some, some_same, stack_after_below, none_below, pushed, open_reads, cut_twice}
use Rattle.kte_find.proofs.PickLemmas.{Contains-mid, Picks-append, pick_open}

-- the stack after a part, at the end of which an opening bracket and a balanced text stand
pub on_top : (front : List Placed) (opening : Placed) (inside : List Placed) (r : List Placed)
    → is_opening opening.unit ≡ true → Balanced inside
    → stack_after (Some []) (front ++ opening ∷ inside) ≡ Some r → (s : List Placed) × (r ≡ opening ∷ s)
on_top front o inside r k b h = elim (option_cases (stack_after (Some []) front)) [
  | inl e ↦ absurd (none_or_some _ r (stack_after-append (Some []) front (o ∷ inside) ∙ ap (λ t. stack_after t (o ∷ inside)) e) h)
  | inr e ↦ (
    e.0,
    some_same r (o ∷ e.0) (sym h
        ∙ stack_after-append (Some []) front (o ∷ inside)
        ∙ ap (λ t. stack_after t (o ∷ inside)) e.1
        ∙ ap (λ t. stack_after t inside) (stacked-opening e.0 o k)
        ∙ balanced_reads b (o ∷ e.0)),
  )
]

module _ (sealed rest opened : List Placed) (spans : List Ends) (c : Placed)
    (seals : IsSealed sealed spans) (opens : IsOpen opened rest)
    (closing : is_closing c.unit ≡ true) (stops : stacked (pushed opened []) c ≡ None) where
  reads : stack_after (Some []) rest ≡ Some (pushed opened [])
  reads = open_reads opened rest opens []

  -- the closing bracket closes none
  closes_none : (before : List Placed) (o : Placed) (inside : List Placed) → sealed ++ rest ≡ before ++ o ∷ inside
      → closes o.unit c.unit ≡ true → Balanced inside → ⊥
  closes_none before o inside e k b = elim (cut_twice sealed rest before (o ∷ inside) e) [
    | inl (m, f, g) ↦ in_rest m g
    | inr (m, f, g) ↦ in_sealed m f g
  ] where
    opening : is_opening o.unit ≡ true
    opening = (kinds o.unit c.unit k).opens

    in_rest : (m : List Placed) → rest ≡ m ++ o ∷ inside → ⊥
    in_rest m g =
        let top = on_top m o inside (pushed opened []) opening b (sym (ap (λ x. stack_after (Some []) x) g) ∙ reads) in
        none_or_some _ top.0 (subst (λ s. stacked s c ≡ None) top.1 stops) (stacked-pair top.0 o c k)

    in_sealed : (m : List Placed) → sealed ≡ before ++ m → o ∷ inside ≡ m ++ rest → ⊥
    in_sealed [] f g = in_rest [] (sym g)
    in_sealed (x ∷ m) f g =
        let same : o ≡ x = cc in
        let inside_is : inside ≡ m ++ rest = cc in
        let f' : sealed ≡ before ++ o ∷ m = f ∙ ap (λ y. before ++ y ∷ m) (sym same) in
        let blocked : stack_after (Some []) (o ∷ m) ≡ None = seals.blocks before (o ∷ m) f' (λ t. cc) in
        let blocked' : stack_after (Some (o ∷ [])) m ≡ None = sym (ap (λ t. stack_after t m) (stacked-opening [] o opening)) ∙ blocked in
        none_or_some _ (o ∷ [])
        (ap (λ x. stack_after (Some (o ∷ [])) x) inside_is ∙ stack_after-append (Some (o ∷ [])) m rest ∙ ap (λ t. stack_after t rest) blocked')
        (balanced_reads b (o ∷ []))

  -- no balanced text begins with a tail of what was read
  tail_fails : (m : List Placed) → stack_after (Some []) m ≡ None → stack_after (Some []) (m ++ c ∷ []) ≡ None
  tail_fails m h = stack_after-append (Some []) m (c ∷ []) ∙ ap (λ t. stack_after t (c ∷ [])) h

  rest_tail : (n m : List Placed) → rest ≡ n ++ m → stack_after (Some []) (m ++ c ∷ []) ≡ None
  rest_tail n m f = elim (option_cases (stack_after (Some []) m)) [
    | inl e ↦ tail_fails m e
    | inr e ↦ elim (option_cases (stack_after (Some []) n)) [
      | inl d ↦ absurd (none_or_some _ (pushed opened [])
          (ap (λ x. stack_after (Some []) x) f ∙ stack_after-append (Some []) n m ∙ ap (λ t. stack_after t m) d) reads)
      | inr d ↦
          let whole : pushed opened [] ≡ e.0 ++ d.0 = some_same _ _
          (sym reads ∙ ap (λ x. stack_after (Some []) x) f ∙ stack_after-append (Some []) n m ∙ ap (λ t. stack_after t m) d.1
          ∙ stack_after_below m [] d.0 e.0 e.1) in
          stack_after-append (Some []) m (c ∷ []) ∙ ap (λ t. stack_after t (c ∷ [])) e.1
          ∙ ap (λ t. stack_after t []) (none_below e.0 d.0 c (subst (λ s. stacked s c ≡ None) whole stops))
    ]
  ]

  any_tail : (before m : List Placed) → sealed ++ rest ≡ before ++ m → stack_after (Some []) (m ++ c ∷ []) ≡ None
  any_tail before m e = elim (cut_twice sealed rest before m e) [
    | inl (n, f, g) ↦ rest_tail n m g
    | inr (n, f, g) ↦ from_sealed n f g
  ] where
    from_sealed : (n : List Placed) → sealed ≡ before ++ n → m ≡ n ++ rest → stack_after (Some []) (m ++ c ∷ []) ≡ None
    from_sealed [] f g = rest_tail [] m (sym g)
    from_sealed (x ∷ n) f g = tail_fails m
        (ap (λ y. stack_after (Some []) y) g ∙ stack_after-append (Some []) (x ∷ n) rest
        ∙ ap (λ t. stack_after t rest) (seals.blocks before (x ∷ n) f (λ t. cc)))

  blocks : (before tail : List Placed) → sealed ++ rest ++ c ∷ [] ≡ before ++ tail → (tail ≡ [] → ⊥) → stack_after (Some []) tail ≡ None
  blocks before tail e some = elim (cut_twice (sealed ++ rest) (c ∷ []) before tail e) [
    | inl (m, f, g) ↦ last m g
    | inr (m, f, g) ↦ ap (λ x. stack_after (Some []) x) g ∙ any_tail before m f
  ] where
    last : (m : List Placed) → c ∷ [] ≡ m ++ tail → stack_after (Some []) tail ≡ None
    last [] g = ap (λ x. stack_after (Some []) x) (sym g) ∙ ap (λ t. stack_after t []) (stacked-closing [] c closing)
    last (x ∷ m) g = absurd (some (nothing_left m (let h : [] ≡ m ++ tail = cc in h))) where
      nothing_left : (m : List Placed) → [] ≡ m ++ tail → tail ≡ []
      nothing_left [] h = sym h
      nothing_left (y ∷ m) h = cc

  picks : (text after : List Placed) → IsSplitOnce text → text ≡ sealed ++ rest ++ c ∷ [] ++ after
      → Picks text (sealed ++ rest ++ c ∷ []) (spans ++ map span_of opened ++ span_of c ∷ [])
  picks text after once e =
      let whole : text ≡ sealed ++ rest ++ c ∷ after = e ∙ append_assoc (sealed ++ rest) (c ∷ []) after in
      let lone : IsLone text c = record {
        there = subst (λ x. Contains x c) (sym whole) (Contains-mid (sealed ++ rest) c after);
        kind = or_right (is_opening c.unit) (is_closing c.unit) closing;
        unclosed = λ d pair. both_ways _ (closing_never_opens c.unit closing) ((kinds c.unit d.unit pair.kind).opens);
        unopened = λ o pair. closes_none pair.before o pair.inside
            ((once (sealed ++ rest) (pair.before ++ o ∷ pair.inside) c after pair.after whole pair.whole).0) pair.kind pair.balanced;
      } in
      Picks-append (Picks-append
      (seals.picks text (rest ++ c ∷ after) once (whole ∙ append_assoc sealed rest (c ∷ after)))
      (pick_open text sealed (c ∷ after) opened rest once (whole ∙ append_assoc sealed rest (c ∷ after)) opens stops))
      (pick c [] [] lone none)

  pub seal : IsSealed (sealed ++ rest ++ c ∷ []) (spans ++ map span_of opened ++ span_of c ∷ [])
  seal = record { blocks = blocks; picks = picks }

-- nothing is read
pub read_none : HasRead [] [] []
read_none = record {
  sealed = [];
  rest = [];
  spans = [];
  whole = refl;
  seals = record { blocks = nothing; picks = λ text after once e. none };
  opens = empty;
  first = refl;
} where
  nothing : (before tail : List Placed) → [] ≡ before ++ tail → (tail ≡ [] → ⊥) → stack_after (Some []) tail ≡ None
  nothing [] tail e some = absurd (some (sym e))
  nothing (x ∷ before) tail e some = cc

-- a unit that is no bracket
open_plain : (opened units : List Placed) (u : Placed) → is_bracket u.unit ≡ false → IsOpen opened units → IsOpen opened (units ++ u ∷ [])
open_plain [] units u k h = balanced_append h (plain u [] k empty)
open_plain (o ∷ os) units u k (before, after, e, b, opens, h) =
    (before, after ++ u ∷ [], ap (λ x. x ++ u ∷ []) e ∙ append_assoc before (o ∷ after) (u ∷ []), b, opens, open_plain os after u k h)

pub read_plain : (units opened : List Placed) (found : List Ends) (u : Placed) → is_bracket u.unit ≡ false
    → HasRead units opened found → HasRead (units ++ u ∷ []) opened found
read_plain units opened found u k h = record {
  sealed = h.sealed;
  rest = h.rest ++ u ∷ [];
  spans = h.spans;
  whole = ap (λ x. x ++ u ∷ []) h.whole ∙ append_assoc h.sealed h.rest (u ∷ []);
  seals = h.seals;
  opens = open_plain opened h.rest u k h.opens;
  first = h.first;
}

-- an opening bracket
open_more : (opened units : List Placed) (o : Placed) → is_opening o.unit ≡ true → IsOpen opened units → IsOpen (opened ++ o ∷ []) (units ++ o ∷ [])
open_more [] units o k h = (units, [], refl, h, k, empty)
open_more (p ∷ ps) units o k (before, after, e, b, opens, h) =
    (before, after ++ o ∷ [], ap (λ x. x ++ o ∷ []) e ∙ append_assoc before (p ∷ after) (o ∷ []), b, opens, open_more ps after o k h)

pub read_opening : (units opened : List Placed) (found : List Ends) (o : Placed) → is_opening o.unit ≡ true
    → HasRead units opened found → HasRead (units ++ o ∷ []) (opened ++ o ∷ []) found
read_opening units opened found o k h = record {
  sealed = h.sealed;
  rest = h.rest ++ o ∷ [];
  spans = h.spans;
  whole = ap (λ x. x ++ o ∷ []) h.whole ∙ append_assoc h.sealed h.rest (o ∷ []);
  seals = h.seals;
  opens = open_more opened h.rest o k h.opens;
  first = h.first;
}

-- a closing bracket that closes the last opening one
open_less : (opened units : List Placed) (o c : Placed) → closes o.unit c.unit ≡ true
    → IsOpen (opened ++ o ∷ []) units → IsOpen opened (units ++ c ∷ [])
open_less [] units o c k (before, after, e, b, opens, h) =
    subst Balanced (sym (ap (λ x. x ++ c ∷ []) e ∙ append_assoc before (o ∷ after) (c ∷ [])))
    (balanced_append b (nested o c after [] k h empty))
open_less (p ∷ ps) units o c k (before, after, e, b, opens, h) =
    (before, after ++ c ∷ [], ap (λ x. x ++ c ∷ []) e ∙ append_assoc before (p ∷ after) (c ∷ []), b, opens, open_less ps after o c k h)

pub read_closing : (units opened : List Placed) (found : List Ends) (o c : Placed) → closes o.unit c.unit ≡ true
    → HasRead units (opened ++ o ∷ []) found → HasRead (units ++ c ∷ []) opened found
read_closing units opened found o c k h = record {
  sealed = h.sealed;
  rest = h.rest ++ c ∷ [];
  spans = h.spans;
  whole = ap (λ x. x ++ c ∷ []) h.whole ∙ append_assoc h.sealed h.rest (c ∷ []);
  seals = h.seals;
  opens = open_less opened h.rest o c k h.opens;
  first = h.first;
}

-- a closing bracket that closes none
pub read_sealing : (units opened : List Placed) (found : List Ends) (c : Placed) → is_closing c.unit ≡ true
    → stacked (pushed opened []) c ≡ None
    → HasRead units opened found
    → HasRead (units ++ c ∷ []) [] (take MAX_FINDINGS (found ++ map span_of opened ++ span_of c ∷ []))
read_sealing units opened found c k stops h = record {
  sealed = h.sealed ++ h.rest ++ c ∷ [];
  rest = [];
  spans = h.spans ++ map span_of opened ++ span_of c ∷ [];
  whole = ap (λ x. x ++ c ∷ []) h.whole ∙ sym (append-nil (h.sealed ++ h.rest ++ c ∷ []));
  seals = seal h.sealed h.rest opened h.spans c h.seals h.opens k stops;
  opens = empty;
  first =
      ap (λ x. take MAX_FINDINGS (x ++ map span_of opened ++ span_of c ∷ [])) h.first
      ∙ ap (λ x. take MAX_FINDINGS x) (append_assoc (take MAX_FINDINGS h.spans) (map span_of opened) (span_of c ∷ []))
      ∙ take-take-append MAX_FINDINGS h.spans (map span_of opened ++ span_of c ∷ [])
      ∙ ap (λ x. take MAX_FINDINGS x) (sym (append_assoc h.spans (map span_of opened) (span_of c ∷ [])));
}

-- the whole text is read
pub read_all : (text : List Placed) (opened : List Placed) (found : List Ends) → IsSplitOnce text → HasRead text opened found
    → (spans : List Ends) × Picks text text spans × (take MAX_FINDINGS (found ++ map span_of opened) ≡ take MAX_FINDINGS spans)
read_all text opened found once h =
    let whole : text ≡ h.sealed ++ (h.rest ++ []) = h.whole ∙ ap (λ x. h.sealed ++ x) (sym (append-nil h.rest)) in (
      h.spans ++ map span_of opened,
      subst (λ x. Picks text x (h.spans ++ map span_of opened)) (sym h.whole)
          (Picks-append (h.seals.picks text h.rest once h.whole)
          (pick_open text h.sealed [] opened h.rest once whole h.opens tt)),
      ap (λ x. take MAX_FINDINGS (x ++ map span_of opened)) h.first ∙ take-take-append MAX_FINDINGS h.spans (map span_of opened),
    )

-- the last item of a list, and the items before it
pub last_split : {A : Type 0} (xs : List A) (n : ℕ) (x : A) → slice_get xs n ≡ Some x → n + 1 ≡ length xs → xs ≡ take n xs ++ x ∷ []
last_split [] n x h e = cc
last_split (y ∷ ys) zero x h e =
    let none : ys ≡ [] = nil_from_length ys (omega arith) in
    let same : y ≡ x = cc in cc
last_split (y ∷ ys) (suc n) x h e = ap (λ rest. y ∷ rest) (last_split ys n x h (omega arith))

pub last_none : {A : Type 0} (xs : List A) → slice_get xs (length xs - 1) ≡ None → xs ≡ []
last_none [] h = refl
last_none (y ∷ ys) h = absurd (none_or_some _ _ h (slice_get-get_or (y ∷ ys) (length (y ∷ ys) - 1) y (omega arith)))

pub on_ok : {T E : Type 0} (r : Result T E) (P Q : Type 0) → (P → Q) → OnOk r P → OnOk r Q
on_ok (Ok x) P Q f h = f h
on_ok (Err e) P Q f h = tt

pub on_ok_both : {T E : Type 0} (r : Result T E) (P Q R : Type 0) → (P → Q → R) → OnOk r P → OnOk r Q → OnOk r R
on_ok_both (Ok x) P Q R f h k = f h k
on_ok_both (Err e) P Q R f h k = tt

-- a bracket that is no opening one, and does not close the last one
pub read_unclosed : (units opened : List Placed) (found : List Ends) (c : Placed) → is_bracket c.unit ≡ true → is_opening c.unit ≡ false
    → (opened ≡ []) ⊎ ((front : List Placed) × (o : Placed) × (opened ≡ front ++ o ∷ []) × (closes o.unit c.unit ≡ false))
    → HasRead units opened found
    → HasRead (units ++ c ∷ []) [] (take MAX_FINDINGS (found ++ map span_of opened ++ span_of c ∷ []))
read_unclosed units opened found c bracket opens last h =
    let closing : is_closing c.unit ≡ true = elim (or_cases (is_opening c.unit) (is_closing c.unit) bracket) [
      | inl t ↦ absurd (both_ways _ opens t)
      | inr t ↦ t
    ] in
    read_sealing units opened found c closing (elim last [
      | inl e ↦ ap (λ os. stacked (pushed os []) c) e ∙ stacked-closing [] c closing
      | inr (front, o, e, k) ↦
          ap (λ os. stacked (pushed os []) c) e ∙ ap (λ s. stacked s c) (pushed-last front [] o)
          ∙ stacked-other (pushed front []) o c closing k
    ]) h

-- the last opening bracket is closed, or there is none or it is of another kind
pub closed_last : (opened : List Placed) (c : Placed) → closes_last opened c ≡ true
    → (o : Placed) × (opened ≡ take (length opened - 1) opened ++ o ∷ []) × (closes o.unit c.unit ≡ true)
closed_last opened c h = elim (option_cases (slice_get opened (length opened - 1))) [
  | inl e ↦ absurd (both_ways false refl (sym (ap (λ l. option_map_or (λ (o : Placed). closes o.unit c.unit) l false) e) ∙ h))
  | inr (o, e) ↦
      let some = slice_get_within opened (length opened - 1) o e in
      (o, last_split opened (length opened - 1) o e (omega arith), sym (ap (λ l. option_map_or (λ (o : Placed). closes o.unit c.unit) l false) e) ∙ h)
]

pub not_closed_last : (opened : List Placed) (c : Placed) → closes_last opened c ≡ false
    → (opened ≡ []) ⊎ ((front : List Placed) × (o : Placed) × (opened ≡ front ++ o ∷ []) × (closes o.unit c.unit ≡ false))
not_closed_last opened c h = elim (option_cases (slice_get opened (length opened - 1))) [
  | inl e ↦ inl (last_none opened e)
  | inr (o, e) ↦
      let some = slice_get_within opened (length opened - 1) o e in
      inr (
        take (length opened - 1) opened,
        o,
        last_split opened (length opened - 1) o e (omega arith),
        sym (ap (λ l. option_map_or (λ (o : Placed). closes o.unit c.unit) l false) e) ∙ h,
      )
]
