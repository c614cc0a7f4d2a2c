-- Primitives that fit a text have numbers that a record can have.
use Rattle.std.proofs.Common.{◌≡◌, ℕ, ◌+◌, ◌<◌, ◌≤◌, List, [], ◌∷◌, ◌++◌, All, length, Option, None, Some, IfSome, IsSome, ◌∙◌, inl, inr, refl, subst, sym, ap, arith}
use Rattle.std.specs.Prelude.{nat_lt, slice_get, slice_index_or}
use Rattle.std.specs.List.{AllByRecursion}
use Rattle.std.proofs.lemmas.Bool.{cases_Bool, ltb-true, ltb-false}
use Rattle.std.proofs.lemmas.Option.{get_or_from_slice_get}
use Rattle.std.proofs.lemmas.List.Elements.{All-head, All-tail}
use Rattle.std.proofs.lemmas.List.Sums.{get_or-le-sum_by}
use Rattle.kte_text.specs.Texts.{IsText, line_at, size_of}
use Rattle.kte_text.specs.Primitives.{FitInTurn, HasLine, after, after_all, misfit}
use Rattle.kte_text.specs.declared.primitive.Primitive.{Primitive}
use Rattle.kte_text.specs.declared.primitive.Primitive.TheVariants.{Wrap, Unwrap, Insert, Remove}
use Rattle.kte_text.proofs.PrimitiveLemmas.{FitsText-from_misfit, IsText-after, length-le-size_of}
use Rattle.kte_text.proofs.SavingLemmas.{length-utf8-le}
use Rattle.kte_swap.specs.Swap.{HasRecord}
use Rattle.kte_core.specs.Editing.{text_of}
use Rattle.kte_core.specs.State.{State}
use Rattle.kte_core.specs.Replay.{after_event, came_of}
use Rattle.kte_core.specs.declared.event.Event.{Event}
use Rattle.kte_core.specs.declared.reply.Reply.{Reply}
use Rattle.kte_core.specs.declared.request.Request.{Request}
use Rattle.kte_core.proofs.CaseLemmas.{event_grows}
use Rattle.kte_core.proofs.TransactionLemmas.{FitInTurn-later}
use Rattle.kte_desk.specs.Serving.{own}
use Rattle.kte_run.proofs.AskLemmas.{fit-now}

-- a line is no longer than its text is large
line-le : (text : List (List ℕ)) (n : ℕ) → n < length text → length (line_at text n) ≤ size_of text
line-le text n there = omega (arith, get_or-le-sum_by length text n [] there)

record-fits : (p : Primitive) (text : List (List ℕ)) → IsText text → HasLine p → misfit p text ≡ None → HasRecord p
record-fits (Wrap line column) text is has none =
    let fits = FitsText-from_misfit (Wrap line column) text none in
    let few = length-le-size_of text in
    let small = is.small in
    let there = fits.0 in
    let within = fits.1.within in
    (omega arith, omega (arith, line-le text line there))
record-fits (Unwrap line) text is has none =
    let fits = FitsText-from_misfit (Unwrap line) text none in
    let few = length-le-size_of text in
    let small = is.small in
    let there = fits.1 in
    omega arith
record-fits (Insert line column units) text is has none =
    let fits = FitsText-from_misfit (Insert line column units) text none in
    let few = length-le-size_of text in
    let small = is.small in
    let there = fits.0 in
    let within = fits.1.within in
    let room = fits.2 in
    (omega arith, omega (arith, line-le text line there), omega (arith, length-utf8-le units has))
record-fits (Remove line column units) text is has none =
    let fits = FitsText-from_misfit (Remove line column units) text none in
    let few = length-le-size_of text in
    let small = is.small in
    let there = fits.0 in
    let within = fits.2.within in
    (omega arith, omega (arith, line-le text line there), omega (arith, line-le text line there))

records-fit : (ps : List Primitive) (text : List (List ℕ)) → IsText text → All HasLine ps → FitInTurn ps text → AllByRecursion HasRecord ps
records-fit [] text is has fit = tt
records-fit (p ∷ ps) text is has (none, some, rest) = (
  record-fits p text is (All-head HasLine p ps has) none,
  records-fit ps (after p text) (IsText-after p text is (All-head HasLine p ps has) none) (All-tail HasLine p ps has) rest,
)

-- the last ones of primitives that fit in turn, whose insertions are lines
pub made-records : (ps made trail : List Primitive) (text : List (List ℕ)) → trail ≡ ps ++ made → FitInTurn trail text
    → IsText (after_all ps text) → All HasLine made → AllByRecursion HasRecord made
made-records ps made trail text is fit whole has =
    records-fit made (after_all ps text) whole has (FitInTurn-later ps made text (subst (λ (qs : List Primitive). FitInTurn qs text) is fit))

-- one primitive more whose insertion is a line
pub lines-more : (ps : List Primitive) (n : ℕ) (p : Primitive) → ((k : ℕ) (d : Primitive) → k < n → HasLine (slice_index_or ps k d))
    → slice_get ps n ≡ Some p → HasLine p → (k : ℕ) (d : Primitive) → k < n + 1 → HasLine (slice_index_or ps k d)
lines-more ps n p before there has k d within =
    elim (cases_Bool (nat_lt k n)) [
      | inl t ↦ before k d (ltb-true k n t)
      | inr f ↦
          let same : n ≡ k = omega (arith, ltb-false k n f) in
          subst HasLine (sym (ap (λ (i : ℕ). slice_index_or ps i d) (sym same) ∙ get_or_from_slice_get ps n p d there)) has
    ]

-- what an event has made
pub grown-records : (state : State) (event : Event) (made : List Primitive) → made ≡ (came_of state event).made
    → FitInTurn (after_event state event).editing.trail state.editing.loaded.text → IsText (text_of state.editing) → All HasLine made
    → AllByRecursion HasRecord made
grown-records state event made made_is fit whole has =
    made-records state.editing.trail made (after_event state event).editing.trail state.editing.loaded.text
    ((event_grows state event).trail ∙ ap (λ (ps : List Primitive). state.editing.trail ++ ps) (sym made_is)) fit whole has

-- .. a request
pub step-records : (state after : State) (request : Request) (answer : Reply) (made : List Primitive) → after ≡ after_event state (own request answer)
    → made ≡ (came_of state (own request answer)).made → FitInTurn after.editing.trail after.editing.loaded.text → IsText (text_of state.editing)
    → All HasLine made → AllByRecursion HasRecord made
step-records state after request answer made is made_is fit whole has =
    let event : Event = own request answer in
    grown-records state event made made_is (fit-now state after event is fit) whole has

-- a disk that tells goes on telling
pub told-self : {T : Type 0} (moments : Option T) → IfSome moments (λ told. IsSome moments)
told-self None = tt
told-self (Some told) = refl

pub told-then : {T : Type 0} (before between after : Option T) → IfSome before (λ told. IsSome between) → IfSome between (λ told. IsSome after)
    → IfSome before (λ told. IsSome after)
told-then None between after first second = tt
told-then (Some told) None after first second = absurd (cc)
told-then (Some told) (Some more) after first second = second

pub less-by : (a b : ℕ) → a + 1 ≤ b → a < b
less-by a b within = omega arith
