-- What a pass knows of its turn, and how the calls of a turn change that. This project's own.
use Rattle.std.specs.Prelude.{ℕ, ◌+◌, ◌-◌, ◌==◌, List, [], ◌∷◌, ◌++◌, length, drop, filter, Contains, Option, Some, nat_lt, cond}

-- the events of one seat, in order
abbrev pub events_of : {E : Type 0} → (E → ℕ) → ℕ → List E → List E
events_of seat_of seat story = filter (λ event. seat_of event == seat) story

-- what stands in a story after what was seen of it
abbrev pub news : {E : Type 0} → List E → List E → List E
news seen story = drop (length seen) story

-- the longer and the shorter of two lists; of two that are as long, the first and the second
abbrev pub longer : {E : Type 0} → List E → List E → List E
longer xs ys = cond (nat_lt (length xs) (length ys)) ys xs

abbrev pub shorter : {E : Type 0} → List E → List E → List E
shorter xs ys = cond (nat_lt (length xs) (length ys)) xs ys

pub record Known (E O : Type 0) : Type 0 where
  -- how many seats the turn has, those without a pass of their own included
  pub seats : ℕ
  -- the number of its own seat
  pub seat : ℕ
  -- the numbers of the seats of all passes that it has joined
  pub joined : List ℕ
  -- for how many of the seats it stands: its own, those joined, and those still to be split off
  pub share : ℕ
  -- how many turns it has made
  pub turns : ℕ
  -- what the turn's value started from; a pass always has one
  pub origin : Option O
  -- what it has seen of the story, which is a prefix of it
  pub seen : List E
  -- the events that it made itself, and those of the passes that it has joined
  pub own : List E

module _ {E O : Type 0} where
  -- the pass has this seat, or has joined the one that has it
  abbrev pub StandsFor : Known E O → ℕ → Type 0
  StandsFor pass seat = Contains (pass.seat ∷ pass.joined) seat

  -- the events of this seat that the pass made or took over, in order
  abbrev pub own_calls : (E → ℕ) → ℕ → Known E O → List E
  own_calls seat_of seat pass = events_of seat_of seat pass.own

  -- of the first pass of a turn
  abbrev pub first : ℕ → O → Known E O
  first seats origin =
      record {
        seats = seats;
        seat = 0;
        joined = [];
        share = seats;
        turns = 0;
        origin = Some origin;
        seen = [];
        own = [];
      }

  -- of the pass that is split off
  abbrev pub another : Known E O → Known E O
  another pass = record {
    seats = pass.seats;
    seat = pass.seats - pass.share + 1;
    joined = [];
    share = 1;
    turns = 0;
    origin = pass.origin;
    seen = pass.seen;
    own = [];
  }

  -- after a turn that left this story
  abbrev pub left : List E → Known E O → Known E O
  left story pass =
      record pass { seen = story; own = pass.own ++ news pass.seen story; turns = pass.turns + 1 }

  -- of a pass that has joined another one
  abbrev pub joined_with : Known E O → Known E O → Known E O
  joined_with pass other = record pass {
    joined = pass.joined ++ other.seat ∷ other.joined;
    share = pass.share + other.share;
    seen = longer pass.seen other.seen;
    own = pass.own ++ other.own;
  }
