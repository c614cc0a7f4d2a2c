-- What a pass knows of the core: what it began from, and what it has seen of its journal. This
-- project's own rules.
use Rattle.std.specs.Prelude.{◌≡◌, ℕ, Some}
use Rattle.kte_turn.specs.Known.{Known}
use Rattle.kte_core.specs.State.{State}
use Rattle.kte_core.specs.Replay.{beginning, replay}
use Rattle.kte_core.specs.declared.event.Event.{Event}
use Rattle.kte_desk.specs.declared.beginning.Beginning.{Beginning}

abbrev pub Sees : Type 0
Sees = Known Event Beginning

-- whose event it is
abbrev pub seat_of : Event → ℕ
seat_of event = event.seat

-- the state that a core begins in
abbrev pub first_state : Beginning → State
first_state origin = beginning origin.loaded origin.limit

-- the state after what the pass has seen
abbrev pub seen_state : Beginning → Sees → State
seen_state origin sees = replay (first_state origin) sees.seen

-- this holds of what the pass's core began from
abbrev pub FromOrigin : Sees → (Beginning → Type 0) → Type 0
FromOrigin sees P = (origin : Beginning) → sees.origin ≡ Some origin → P origin

-- .. and this of the state that the pass has seen last
abbrev pub SeesState : Sees → (State → Type 0) → Type 0
SeesState sees P = FromOrigin sees (λ origin. P (seen_state origin sees))
