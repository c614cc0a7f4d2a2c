-- What each kind of step tells the pass that makes it, and the views that it leaves. This project's
-- own.
-- A step tells of the number that it found and of the pass after it, which is a view and what it
-- holds of the slots.
use Rattle.std.specs.Prelude.{◌≡◌, ◌≢◌, ℕ, ◌+◌, ◌-◌, ◌%◌, ◌^◌, ◌<◌, ◌≤◌, List, [], ◌∷◌, ◌++◌, Option, None, Some}
use mathlib.Core.List.{IsPrefix}
use Rattle.atomic_table.specs.Table.{Me, Step, rest}
use Rattle.kte_turn.specs.declared.view.View.{View}
use Rattle.kte_turn.specs.declared.view.Stage.{Stage}
use Rattle.kte_turn.specs.declared.view.Stage.TheVariants.{Idle, Waits, Serves}
use Rattle.kte_turn.specs.Known.{events_of, longer, shorter}
use Rattle.kte_turn.specs.Sums.{times}

module _ {E O : Type 0} where
  abbrev pub staged : Stage → View E O → View E O
  staged stage v = record v { stage = stage }

  abbrev pub knowing : List E → View E O → View E O
  knowing past v = record v { seen = past }

  abbrev pub counting : E → View E O → View E O
  counting e v = record v { seen = v.seen ++ e ∷ []; own = v.own ++ e ∷ [] }

  abbrev pub leaving : View E O → View E O
  leaving v = record v { stage = Idle; turns = v.turns + 1 }

  -- the view that is split, and the new one
  abbrev pub cut : View E O → View E O
  cut v = record v { share = v.share - 1 }

  abbrev pub another_view : View E O → View E O
  another_view v = record {
    seats = v.seats;
    numbers = (v.seats - v.share + 1) ∷ [];
    share = 1;
    turns = 0;
    origin = v.origin;
    seen = v.seen;
    told = [];
    own = [];
    stage = Idle;
  }

  -- the view that joins, and what is left of the joined one
  abbrev pub merged : View E O → View E O → View E O
  merged v w = record v {
    numbers = v.numbers ++ w.numbers;
    share = v.share + w.share;
    seen = longer v.seen w.seen;
    told = shorter v.seen w.seen;
    own = v.own ++ w.own;
  }

  abbrev pub spent : View E O
  spent = record {
    seats = 0;
    numbers = [];
    share = 0;
    turns = 0;
    origin = record { marker = record {}; value = None };
    seen = [];
    told = [];
    own = [];
    stage = Idle;
  }

module _ {V E O : Type 0} (seat_of : E → ℕ) (origin : V → O) (story : V → List E) where
  abbrev Sat : Type 0
  Sat = Me (Option V) (View E O)

  -- draw: it waits with its ticket, of which the word had the remainder
  abbrev pub drew : Step (Option V) → Sat → ℕ → Sat → Type 0
  drew st m r n = (t : ℕ) × (t % 2 ^ 64 ≡ r) × (n ≡ (staged (Waits t) m.0, m.1))

  -- what a pass finds in the slot
  pub record Found (v : View E O) (value : V) : Type 0 where
    pub origin_is : v.origin.value ≡ Some (origin value)
    pub seen_is : IsPrefix v.seen (story value)
    pub own_is : (k : ℕ) → 0 < times k v.numbers
        → (events_of seat_of k (story value) ≡ events_of seat_of k v.own)
        × (events_of seat_of k v.seen ≡ events_of seat_of k v.own)

  -- look: where its ticket is served it holds the slot and has seen the value's story, and else
  -- nothing has changed
  abbrev pub looked : Step (Option V) → Sat → ℕ → Sat → Type 0
  looked st m r n =
      (t : ℕ) → m.0.stage ≡ Waits t
      → (t % 2 ^ 64 ≡ r → (value : V)
      × (n ≡ (staged (Serves t) (knowing (story value) m.0), (0, Some value) ∷ m.1))
      × Found m.0 value)
      × (t % 2 ^ 64 ≢ r → n ≡ m)

  -- count: its event is the last one of the story, and of what it has seen and made
  abbrev pub counted : Option E → Step (Option V) → Sat → ℕ → Sat → Type 0
  counted said st m r n = (e : E) × (said ≡ Some e) × (n ≡ (counting e m.0, m.1))

  -- serve: it has given the slot back, and made one turn more
  abbrev pub gave_back : Step (Option V) → Sat → ℕ → Sat → Type 0
  gave_back st m r n = n ≡ (leaving m.0, rest m.1)

  -- the second load of a join: the shorter of what both had seen is a prefix of the longer, and no
  -- number is there twice
  abbrev pub settled : Step (Option V) → Sat → ℕ → Sat → Type 0
  settled st m r n =
      IsPrefix m.0.told m.0.seen × ((k : ℕ) → times k m.0.numbers ≤ 1)
      × (n ≡ (record m.0 { told = [] }, m.1))

-- the last event of a story
abbrev pub last_of : {E : Type 0} → List E → Option E
last_of [] = None
last_of (e ∷ []) = Some e
last_of (e ∷ x ∷ xs) = last_of (x ∷ xs)
