-- What is kept of the words, the slot and the views of a turn, in the form in which each step is
-- proved. `Laws` says it in words.
-- This project's own.
use Rattle.std.specs.Prelude.{◌≡◌, ◌⊎◌, ℕ, ◌+◌, ◌%◌, ◌^◌, ◌<◌, ◌≤◌, ◌==◌, cond, List, [], ◌∷◌, length, slice_index, Option, Some}
use mathlib.Core.Option.{none, some}
use mathlib.Core.List.{IsPrefix}
use lib.ListN.{get_elem?}
use Rattle.atomic_table.specs.Table.{State}
use Rattle.kte_turn.specs.declared.view.View.{View}
use Rattle.kte_turn.specs.declared.view.Stage.{Stage}
use Rattle.kte_turn.specs.declared.view.Stage.TheVariants.{Idle, Waits, Serves}
use Rattle.kte_turn.specs.Known.{events_of}
use Rattle.kte_turn.specs.Sums.{total, times, once_below}

-- 1 where the pass has a ticket
abbrev pub waiting : Stage → ℕ
waiting Idle = 0
waiting (Waits ticket) = 1
waiting (Serves ticket) = 1

-- 1 where the pass has this ticket
abbrev pub has_ticket : ℕ → Stage → ℕ
has_ticket ticket Idle = 0
has_ticket ticket (Waits mine) = cond (mine == ticket) 1 0
has_ticket ticket (Serves mine) = cond (mine == ticket) 1 0

-- 1 where the pass is served, and so holds the slot
abbrev pub serving : Stage → ℕ
serving Idle = 0
serving (Waits ticket) = 0
serving (Serves ticket) = 1

module _ {E O : Type 0} where
  -- the view of a turn's first pass
  abbrev pub first_view : ℕ → O → View E O
  first_view seats o = record {
    seats = seats;
    numbers = 0 ∷ [];
    share = seats;
    turns = 0;
    origin = record { marker = record {}; value = Some o };
    seen = [];
    told = [];
    own = [];
    stage = Idle;
  }

module _ {V E O : Type 0} (seat_of : E → ℕ) (origin : V → O) (story : V → List E) where
  -- what is kept of one view
  pub record Fits (seats : ℕ) (o : O) (served : ℕ) (past : List E) (v : View E O) : Type 0 where
    pub seats_is : 0 < v.share → v.seats ≡ seats
    pub origin_is : 0 < v.share → v.origin.value ≡ Some o
    pub seen_is : IsPrefix v.seen past
    pub told_is : IsPrefix v.told past
    pub own_is : (k : ℕ) → 0 < times k v.numbers
        → (events_of seat_of k past ≡ events_of seat_of k v.own)
        × (events_of seat_of k v.seen ≡ events_of seat_of k v.own)
    pub own_else : (k : ℕ) → times k v.numbers ≡ 0 → events_of seat_of k v.own ≡ []
    pub serves_is : (t : ℕ) → v.stage ≡ Serves t → (t ≡ served) × (v.seen ≡ past)
    pub spent_is : v.share ≡ 0 → v.numbers ≡ []
    pub has_share : waiting v.stage ≤ v.share

  -- the slot is at home with the value whose story is told, and nobody is served
  abbrev pub Home : O → List E → State (Option V) (View E O) → Type 0
  Home o past s =
      (value : V) × (get_elem? s.homes 0 ≡ some (some (Some value))) × (story value ≡ past)
      × (origin value ≡ o)
      × (total (λ v. serving v.stage) s.views ≡ 0)

  -- the slot is out, and one pass is served
  abbrev pub Away : State (Option V) (View E O) → Type 0
  Away s = (get_elem? s.homes 0 ≡ some none) × (total (λ v. serving v.stage) s.views ≡ 1)

  -- `past` is the story, `drawn` and `served` are the tickets since the start, and `made` is the
  -- number of seats that had a pass
  pub record Ruled (seats : ℕ) (o : O) (s : State (Option V) (View E O)) : Type 0 where
    pub past : List E
    pub drawn : ℕ
    pub served : ℕ
    pub made : ℕ
    pub three : length s.words ≡ 3
    pub single : length s.homes ≡ 1
    pub few : seats < 2 ^ 32
    pub ticket_word : slice_index s.words 0 ≡ drawn % 2 ^ 64
    pub serving_word : slice_index s.words 1 ≡ served % 2 ^ 64
    pub count_word : slice_index s.words 2 ≡ length past
    pub queue : served + total (λ v. waiting v.stage) s.views ≡ drawn
    pub tickets : (t : ℕ)
        → total (λ v. has_ticket t v.stage) s.views + once_below t served ≡ once_below t drawn
    pub shares : total (λ v. v.share) s.views ≡ seats
    pub numbers : (k : ℕ) → total (λ v. times k v.numbers) s.views ≡ once_below k made
    pub unmade : (k : ℕ) → made ≤ k → events_of seat_of k past ≡ []
    pub first_seat : (j : ℕ) (v : View E O) → get_elem? s.views j ≡ some v
        → v.numbers ≡ 0 ∷ [] → made + v.share ≡ seats + 1
    pub each_view : (j : ℕ) (v : View E O) → get_elem? s.views j ≡ some v
        → Fits seats o served past v
    pub placed : Home o past s ⊎ Away s
