-- What clauses say of a turn, of its passes and of a stay. This project's own.
use Rattle.std.specs.Prelude.{◌≡◌, ℕ, drop}
use Rattle.atomic_table.specs.Seated.{TableId}
use Rattle.kte_turn.specs.declared.storied.Storied.{Ghosts}
use Rattle.kte_turn.specs.declared.view.View.{View}
use Rattle.kte_turn.specs.declared.pass.Pass.{Pass}
use Rattle.kte_turn.specs.declared.pass.Stay.{Stay}
use Rattle.kte_turn.specs.declared.turn.Turn.{Turn}
use Rattle.kte_turn.specs.Known.{Known}

-- what a view shows of the pass with this seat
abbrev pub known : {E O : Type 0} → ℕ → View E O → Known E O
known seat view = record {
  seats = view.seats;
  seat = seat;
  joined = drop 1 view.numbers;
  share = view.share;
  turns = view.turns;
  origin = view.origin.value;
  seen = view.seen;
  own = view.own;
}

-- which turn it is, and which one a pass or a stay belongs to
abbrev pub turn_id : {V E O : Type 0} → Turn V E O → TableId
turn_id turn = turn.table.shared.table_id

module _ {V E O : Type 0} {g : Ghosts V E O} where
  abbrev pub pass_turn : Pass V E O g → TableId
  pass_turn pass = pass.token.table_id

  abbrev pub stay_turn : Stay V E O g → TableId
  stay_turn stay = stay.token.table_id

  abbrev pub IsPassOf : Turn V E O → Pass V E O g → Type 0
  IsPassOf turn pass = pass_turn pass ≡ turn_id turn

  abbrev pub IsStayOf : Turn V E O → Stay V E O g → Type 0
  IsStayOf turn stay = stay_turn stay ≡ turn_id turn

  -- what it knows
  abbrev pub pass_known : Pass V E O g → Known E O
  pass_known pass = known pass.number pass.token.me.0

  abbrev pub stay_known : Stay V E O g → Known E O
  stay_known stay = known stay.number stay.token.me.0
