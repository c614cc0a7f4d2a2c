-- The events of one seat: in a list, and in what the seats from one on have made, one after another.
use Rattle.std.proofs.Common.{◌≡◌, ◌≢◌, ℕ, zero, suc, ◌+◌, ◌<◌, ◌==◌, true, cond, All, List, [], ◌∷◌, append-nil, Some, inl, inr, refl, ap, sym, subst, ◌∙◌, arith, eq-eqb, ne_eqb, eqb-true}
use Rattle.std.specs.List.{flat_map, slice_get}
use Rattle.std.specs.Option.{option_map_or}
use Rattle.std.proofs.lemmas.Bool.{cases_eq}
use Rattle.std.proofs.lemmas.List.Elements.{All-nil, All-cons, All-head, All-tail, All-weaker, filter_passes}
use Rattle.kte_turn.specs.Known.{events_of}
use Rattle.kte_turn.proofs.StoryLemmas.{events_of-append}
use Rattle.kte_core.specs.declared.event.Event.{Event}
use Rattle.kte_desk.specs.Seen.{seat_of}

-- all of these events are of the seat, or none is
abbrev pub AllOf : ℕ → List Event → Type 0
AllOf seat events = All (λ event. event.seat ≡ seat) events

abbrev pub NoneOf : ℕ → List Event → Type 0
NoneOf seat events = All (λ event. event.seat ≢ seat) events

here : (seat : ℕ) (event : Event) (events : List Event) → event.seat ≡ seat
    → events_of seat_of seat (event ∷ events) ≡ event ∷ events_of seat_of seat events
here seat event events is =
    ap (λ b. cond b (event ∷ events_of seat_of seat events) (events_of seat_of seat events)) (eq-eqb event.seat seat is)

other : (seat : ℕ) (event : Event) (events : List Event) → event.seat ≢ seat
    → events_of seat_of seat (event ∷ events) ≡ events_of seat_of seat events
other seat event events apart =
    ap (λ b. cond b (event ∷ events_of seat_of seat events) (events_of seat_of seat events)) (ne_eqb event.seat seat apart)

-- the events of a seat are all of it
pub events_of-all : (seat : ℕ) (events : List Event) → AllOf seat (events_of seat_of seat events)
events_of-all seat events =
    All-weaker (λ (event : Event). (seat_of event == seat) ≡ true) (λ (event : Event). event.seat ≡ seat) (λ event is. eqb-true event.seat seat is)
    (events_of seat_of seat events) (filter_passes (λ (event : Event). seat_of event == seat) events)

-- of events that are all of a seat these are all, and of events of other seats none
pub events_of-same : (seat : ℕ) (events : List Event) → AllOf seat events → events_of seat_of seat events ≡ events
events_of-same seat [] all = refl
events_of-same seat (event ∷ events) all =
    let P : Event → Type 0 = λ e. e.seat ≡ seat in
    here seat event events (All-head P event events all)
    ∙ ap (λ es. event ∷ es) (events_of-same seat events (All-tail P event events all))

pub events_of-others : (seat : ℕ) (events : List Event) → NoneOf seat events → events_of seat_of seat events ≡ []
events_of-others seat [] none = refl
events_of-others seat (event ∷ events) none =
    let P : Event → Type 0 = λ e. e.seat ≢ seat in
    other seat event events (All-head P event events none) ∙ events_of-others seat events (All-tail P event events none)

-- .. and the other way round
pub none_of : (seat : ℕ) (events : List Event) → events_of seat_of seat events ≡ [] → NoneOf seat events
none_of seat [] is = All-nil (λ (event : Event). event.seat ≢ seat)
none_of seat (event ∷ events) is = elim (cases_eq event.seat seat) [
  | inl same ↦ let first = sym (here seat event events same) ∙ is in absurd (cc)
  | inr apart ↦
      All-cons (λ (e : Event). e.seat ≢ seat) event events apart (none_of seat events (sym (other seat event events apart) ∙ is))
]

-- what holds of the events of each seat holds of all
pub All-seats : (P : Event → Type 0) (events : List Event) → ((seat : ℕ) → All P (events_of seat_of seat events)) → All P events
All-seats P [] each = All-nil P
All-seats P (event ∷ events) each =
    All-cons P event events
    (All-head P event (events_of seat_of event.seat events) (subst (All P) (here event.seat event events refl) (each event.seat)))
    (All-seats P events (λ seat. elim (cases_eq event.seat seat) [
      | inl same ↦ All-tail P event (events_of seat_of seat events) (subst (All P) (here seat event events same) (each seat))
      | inr apart ↦ subst (All P) (other seat event events apart) (each seat)
    ]))

-- ---- the seats from one on

module _ {A : Type 0} (own : A → List Event) where
  -- what each of these has made is of its seat, of which the first is `low`
  abbrev pub InRow : ℕ → List A → Type 0
  InRow low row = (n : ℕ) (one : A) → slice_get row n ≡ Some one → AllOf (n + low) (own one)

  row_rest : (low : ℕ) (one : A) (row : List A) → InRow low (one ∷ row) → InRow (low + 1) row
  row_rest low one row each n another at k d within = omega (arith, each (suc n) another at k d within)

  row_first : (low : ℕ) (one : A) (row : List A) → InRow low (one ∷ row) → AllOf low (own one)
  row_first low one row each k d within = omega (arith, each 0 one refl k d within)

  -- none of it is of a lower seat
  pub row_below : (low seat : ℕ) (row : List A) → InRow low row → seat < low → events_of seat_of seat (flat_map own row) ≡ []
  row_below low seat [] each below = refl
  row_below low seat (one ∷ row) each below =
      let first : NoneOf seat (own one) = λ k d within same. omega (arith, row_first low one row each k d within, same, below) in
      rw (events_of-append seat_of seat (own one) (flat_map own row), events_of-others seat (own one) first)
      (row_below (low + 1) seat row (row_rest low one row each) (omega arith))

  -- the events of a seat are those that it has made, if it is one of these
  pub row_at : (low n : ℕ) (row : List A) → InRow low row
      → events_of seat_of (n + low) (flat_map own row) ≡ option_map_or own (slice_get row n) []
  row_at low n [] each = refl
  row_at low zero (one ∷ row) each =
      let first : AllOf (0 + low) (own one) = each 0 one refl in
      rw (
        events_of-append seat_of (0 + low) (own one) (flat_map own row),
        events_of-same (0 + low) (own one) first,
        row_below (low + 1) (0 + low) row (row_rest low one row each) (omega arith),
      )
      (append-nil (own one))
  row_at low (suc n) (one ∷ row) each =
      let first : NoneOf (suc n + low) (own one) = λ k d within same. omega (arith, row_first low one row each k d within, same) in
      let next : n + (low + 1) ≡ suc n + low = omega arith in
      rw (events_of-append seat_of (suc n + low) (own one) (flat_map own row), events_of-others (suc n + low) (own one) first)
      (subst (λ seat. events_of seat_of seat (flat_map own row) ≡ option_map_or own (slice_get row n) []) next
      (row_at (low + 1) n row (row_rest low one row each)))
