-- What always holds of the words, the slot and the passes of a turn, in seven sentences. This
-- project's own.
-- A state of a turn is its three words, its slot, and a view of each pass that was ever made; a
-- pass that was joined to another one is spent.
use Rattle.std.specs.Prelude.{◌≡◌, ◌⊎◌, ℕ, ◌+◌, ◌%◌, ◌^◌, ◌<◌, ◌≤◌, List, [], ◌∷◌, length, slice_index, Contains, Option, Some}
use mathlib.Core.Option.{none, some}
use mathlib.Core.List.{IsPrefix}
use lib.ListN.{get_elem?}
use Rattle.atomic_table.specs.Table.{State}
use Rattle.kte_turn.specs.declared.view.View.{View}
use Rattle.kte_turn.specs.declared.view.Stage.TheVariants.{Waits, Serves}
use Rattle.kte_turn.specs.Known.{events_of}
use Rattle.kte_turn.specs.Sums.{total}
use Rattle.kte_turn.specs.Rule.{waiting}

abbrev pub TurnState : Type 0 → Type 0 → Type 0 → Type 0
TurnState V E O = State (Option V) (View E O)

module _ {E O : Type 0} where
  -- P holds of each pass
  abbrev pub EachPass : List (View E O) → (View E O → Type 0) → Type 0
  EachPass passes P = (i : ℕ) (pass : View E O) → get_elem? passes i ≡ some pass → P pass

  -- P holds of one pass, and of no other
  abbrev pub OnePass : List (View E O) → (View E O → Type 0) → Type 0
  OnePass passes P =
      (i : ℕ) × ((pass : View E O) × (get_elem? passes i ≡ some pass) × P pass)
      × ((j : ℕ) (other : View E O) → get_elem? passes j ≡ some other → P other → j ≡ i)

  -- the pass waits with the ticket, or the ticket is its own and is served
  abbrev pub HasTicket : ℕ → View E O → Type 0
  HasTicket ticket pass = (pass.stage ≡ Waits ticket) ⊎ (pass.stage ≡ Serves ticket)

  abbrev pub IsServed : View E O → Type 0
  IsServed pass = (ticket : ℕ) × (pass.stage ≡ Serves ticket)

  -- the pass has this seat, or has joined the one that has it
  abbrev pub HasSeat : ℕ → View E O → Type 0
  HasSeat seat pass = Contains pass.numbers seat

  abbrev pub IsUnspent : View E O → Type 0
  IsUnspent pass = 0 < pass.share

module _ {V E O : Type 0} where
  -- 1. Tickets are counted modulo 2^64. Those that are held are the numbers from the one that is
  -- served up to the one before the next, each held once.
  pub record TicketsInOrder (next served : ℕ) (s : TurnState V E O) : Type 0 where
    pub next_word : slice_index s.words 0 ≡ next % 2 ^ 64
    pub served_word : slice_index s.words 1 ≡ served % 2 ^ 64
    pub count : served + total (λ pass. waiting pass.stage) s.views ≡ next
    pub held : (ticket : ℕ) → served ≤ ticket → ticket < next → OnePass s.views (HasTicket ticket)
    pub no_other : (ticket : ℕ)
        → EachPass s.views (λ pass. HasTicket ticket pass → (served ≤ ticket) × (ticket < next))

  -- 2. While the pass of seat 0 has joined none and has this share, the seats that had a pass are
  -- those from 0 to `seats` less that share, each with one pass.
  abbrev pub SeatsInOrder : ℕ → TurnState V E O → Type 0
  SeatsInOrder seats s =
      EachPass s.views (λ pass. pass.numbers ≡ 0 ∷ [] → (seat : ℕ)
      → (seat + pass.share ≤ seats → OnePass s.views (HasSeat seat))
      × (EachPass s.views (λ other. HasSeat seat other → seat + pass.share ≤ seats)))

module _ {V E O : Type 0} (seat_of : E → ℕ) (origin : V → O) (story : V → List E) where
  -- 3. The slot is at home with a value, whose story is the story, and no pass is served; or it is
  -- out with the one pass that is served, which has seen the whole story.
  abbrev pub SlotAtHome : List E → TurnState V E O → Type 0
  SlotAtHome past s =
      ((value : V) × (get_elem? s.homes 0 ≡ some (some (Some value))) × (story value ≡ past))
      × EachPass s.views (λ pass. ¬ IsServed pass)

  abbrev pub SlotIsOut : ℕ → List E → TurnState V E O → Type 0
  SlotIsOut served past s =
      (get_elem? s.homes 0 ≡ some none) × OnePass s.views IsServed
      × EachPass s.views (λ pass. IsServed pass → (pass.stage ≡ Serves served) × (pass.seen ≡ past))

  -- 4 to 7, with the others. `past` is the story.
  pub record InOrder (seats : ℕ) (o : O) (s : TurnState V E O) : Type 0 where
    pub past : List E
    pub next : ℕ
    pub served : ℕ
    pub tickets : TicketsInOrder next served s
    pub seats_in_order : SeatsInOrder seats s
    pub slot : SlotAtHome past s ⊎ SlotIsOut served past s
    -- 4. The count is the length of the story.
    pub count : slice_index s.words 2 ≡ length past
    -- 5. A value at home and every pass that is not spent have the one origin.
    pub value_origin : (value : V)
        → get_elem? s.homes 0 ≡ some (some (Some value)) → origin value ≡ o
    pub pass_origin : EachPass s.views (λ pass. IsUnspent pass → pass.origin.value ≡ Some o)
    -- 6. What a pass has seen is a prefix of the story. The story's events of a seat are the own
    -- calls of the pass that has it, and no event is of a seat that never had a pass.
    pub seen : EachPass s.views (λ pass. IsPrefix pass.seen past)
    pub calls : (seat : ℕ)
        → EachPass s.views (λ pass. HasSeat seat pass
        → events_of seat_of seat past ≡ events_of seat_of seat pass.own)
    pub no_others : (seat : ℕ) → EachPass s.views (λ pass. ¬ HasSeat seat pass)
        → events_of seat_of seat past ≡ []
    -- 7. The shares sum to the number of seats.
    pub shares : total (λ pass. pass.share) s.views ≡ seats
