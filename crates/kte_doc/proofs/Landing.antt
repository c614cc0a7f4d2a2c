-- Landing from a revision and standing since that revision are the same.
use Rattle.std.proofs.Common.{◌≡◌, ℕ, ◌&&◌, Bool, true, false, nat_lt, if◌then◌else◌, List, [], ◌∷◌, ◌++◌, length, take, drop, Option, None, Some, inl, inr, refl, sym, ap, ◌∙◌, subst, arith}
use Rattle.std.proofs.lemmas.List.{take-append-drop, take_at, drop_at, length-take-le}
use Rattle.std.proofs.lemmas.Bool.{cases_lt}
use Rattle.std.proofs.lemmas.Bool.Decides.{nat_tests}
use Rattle.kte_text.specs.Primitives.{FitInTurn, after, after_all}
use Rattle.kte_text.specs.declared.primitive.Primitive.{Primitive}
use Rattle.kte_text.proofs.PrimitiveLemmas.{FitsText-from_misfit, after_all-append}
use Rattle.kte_place.specs.declared.place.Place.{Place}
use Rattle.kte_place.specs.declared.place.OnInsert.{OnInsert}
use Rattle.kte_place.specs.declared.entry.Entry.{Entry}
use Rattle.kte_place.specs.declared.span.Expand.{Expand}
use Rattle.kte_place.specs.declared.span.Empty.{Empty}
use Rattle.kte_place.specs.declared.span.Empty.TheVariants.{Allow, Void}
use Rattle.kte_place.specs.Ends.{Ends}
use Rattle.kte_place.specs.Entry.{carry, lines_after}
use Rattle.kte_place.specs.Laws.{IsWithin}
use Rattle.kte_place.specs.Span.{made, settle, carry_span, ends, start_on, end_on}
use Rattle.kte_place.proofs.CarryLemmas.{stays_in_text, stays_past_text}
use Rattle.kte_buffer.specs.Entries.{entry}
use Rattle.kte_buffer.proofs.CallerLemmas.{IsWithin-entry, lines_after-entry}
use Rattle.kte_history.specs.Landing.{carry_all}
use Rattle.kte_doc.specs.Trail.{text_at, entries_of, stand, in_text, LandsWhereItStands}
use Rattle.kte_doc.proofs.Trails.{length-entries_of}

-- a span is made where it settles to lines of the text
pub made-in_text : (lines : ℕ) (span : Ends) (empty : Empty)
    → made lines span empty ≡ in_text lines (settle span.start span.end empty)
made-in_text lines span Allow = grind (arith, nat_tests)
made-in_text lines span Void = grind (arith, nat_tests)

-- a place is carried into the text exactly if it was in it
carried_in : (n : ℕ) (e : Entry) (p : Place) (on : OnInsert) → IsWithin n e
    → nat_lt (carry e p on).line (lines_after e.kind n) ≡ nat_lt p.line n
carried_in n e p on within =
    elim (cases_lt p.line n) [
      | inl inside ↦ let still = stays_in_text n e p on within inside in grind (arith, nat_tests)
      | inr past ↦ let still = stays_past_text n e p on within past in grind (arith, nat_tests)
    ]

carried_if : (e : Entry) (span : Ends) (expand : Expand) (empty : Empty) (b : Bool)
    → (if b then settle (carry e span.start (start_on expand)) (carry e span.end (end_on expand)) empty else None)
    ≡ carry_span e (if b then Some span else None) expand empty
carried_if e span expand empty true = refl
carried_if e span expand empty false = refl

-- the lines of a span may be judged before an entry or after it
carry_span-in_text : (n : ℕ) (e : Entry) (o : Option Ends) (expand : Expand) (empty : Empty) → IsWithin n e
    → in_text (lines_after e.kind n) (carry_span e o expand empty) ≡ carry_span e (in_text n o) expand empty
carry_span-in_text n e None expand empty within = refl
carry_span-in_text n e (Some span) expand empty within =
    let a = carry e span.start (start_on expand) in
    let b = carry e span.end (end_on expand) in
    sym (made-in_text (lines_after e.kind n) (ends a b) empty)
    ∙ ap (λ (both : Bool). if both && nat_lt b.line (lines_after e.kind n) then settle a b empty else None)
    (carried_in n e span.start (start_on expand) within)
    ∙ ap (λ (both : Bool). if nat_lt span.start.line n && both then settle a b empty else None)
    (carried_in n e span.end (end_on expand) within)
    ∙ carried_if e span expand empty (nat_lt span.start.line n && nat_lt span.end.line n)

-- and so before all entries or after them
carry_all-in_text : (trail : List Primitive) (text : List (List ℕ)) (o : Option Ends) (expand : Expand) (empty : Empty)
    → FitInTurn trail text
    → in_text (length (after_all trail text)) (carry_all (entries_of trail text) o expand empty)
    ≡ carry_all (entries_of trail text) (in_text (length text) o) expand empty
carry_all-in_text [] text o expand empty fit = refl
carry_all-in_text (p ∷ trail) text o expand empty (fits, some, fit) =
    let e = entry p text in
    let place = FitsText-from_misfit p text fits in
    carry_all-in_text trail (after p text) (carry_span e o expand empty) expand empty fit
    ∙ ap (λ (n : ℕ). carry_all (entries_of trail (after p text)) (in_text n (carry_span e o expand empty)) expand empty)
    (sym (lines_after-entry p text place))
    ∙ ap (λ (span : Option Ends). carry_all (entries_of trail (after p text)) span expand empty)
    (carry_span-in_text (length text) e o expand empty (IsWithin-entry p text place))

entries_of-append : (ps qs : List Primitive) (text : List (List ℕ))
    → entries_of (ps ++ qs) text ≡ entries_of ps text ++ entries_of qs (after_all ps text)
entries_of-append [] qs text = refl
entries_of-append (p ∷ ps) qs text = ap (λ es. entry p text ∷ es) (entries_of-append ps qs (after p text))

FitInTurn-later : (ps qs : List Primitive) (text : List (List ℕ)) → FitInTurn (ps ++ qs) text → FitInTurn qs (after_all ps text)
FitInTurn-later [] qs text fit = fit
FitInTurn-later (p ∷ ps) qs text (fits, some, fit) = FitInTurn-later ps qs (after p text) fit

-- where a span lands over these entries in a text of so many lines
abbrev landed : List Entry → ℕ → Ends → Expand → Empty → Option Ends
landed entries lines span expand empty = in_text lines (carry_all entries (settle span.start span.end empty) expand empty)

-- with the trail cut at the revision
lands-at : (loaded : List (List ℕ)) (ps qs : List Primitive) (span : Ends) (expand : Expand) (empty : Empty)
    → FitInTurn (ps ++ qs) loaded
    → landed (drop (length ps) (entries_of (ps ++ qs) loaded)) (length (after_all (ps ++ qs) loaded)) span expand empty
    ≡ stand loaded (ps ++ qs) expand empty (record { revision = length ps; span = span })
lands-at loaded ps qs span expand empty fit =
    let text = after_all ps loaded in
    let later : drop (length ps) (entries_of (ps ++ qs) loaded) ≡ entries_of qs text =
    ap (drop (length ps)) (entries_of-append ps qs loaded)
    ∙ drop_at (entries_of ps loaded) (entries_of qs text) (length ps) (length-entries_of ps loaded) in
    let now : after_all (ps ++ qs) loaded ≡ after_all qs text = after_all-append ps qs loaded in
    let at_then : text_at loaded (ps ++ qs) (length ps) ≡ text =
    ap (λ (first : List Primitive). after_all first loaded) (take_at ps qs (length ps) refl) in
    ap (λ (es : List Entry). landed es (length (after_all (ps ++ qs) loaded)) span expand empty) later
    ∙ ap (λ (t : List (List ℕ)). landed (entries_of qs text) (length t) span expand empty) now
    ∙ carry_all-in_text qs text (settle span.start span.end empty) expand empty (FitInTurn-later ps qs loaded fit)
    ∙ ap (λ (o : Option Ends). carry_all (entries_of qs text) o expand empty) (sym (made-in_text (length text) span empty))
    ∙ ap (λ (t : List (List ℕ)). carry_all (entries_of qs text) (made (length t) span empty) expand empty) (sym at_then)
    ∙ ap (λ (es : List Entry). carry_all es (made (length (text_at loaded (ps ++ qs) (length ps))) span empty) expand empty) (sym later)

pub lands_where_it_stands : LandsWhereItStands
lands_where_it_stands loaded trail revision span expand empty fit past =
    let cut = take-append-drop revision trail in
    let count : length (take revision trail) ≡ revision = length-take-le revision trail past in
    let whole : (t : List Primitive) → take revision trail ++ drop revision trail ≡ t
    → landed (drop (length (take revision trail)) (entries_of t loaded)) (length (after_all t loaded)) span expand empty
    ≡ stand loaded t expand empty (record { revision = length (take revision trail); span = span }) =
    λ t is. subst (λ (t : List Primitive). landed (drop (length (take revision trail)) (entries_of t loaded)) (length (after_all t loaded)) span expand empty
    ≡ stand loaded t expand empty (record { revision = length (take revision trail); span = span })) is
    (lands-at loaded (take revision trail) (drop revision trail) span expand empty (subst (λ (t : List Primitive). FitInTurn t loaded) (sym cut) fit)) in
    subst (λ (r : ℕ). landed (drop r (entries_of trail loaded)) (length (after_all trail loaded)) span expand empty
    ≡ stand loaded trail expand empty (record { revision = r; span = span })) count (whole trail cut)
