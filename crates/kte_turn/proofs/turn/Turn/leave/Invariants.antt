use Rattle.kte_turn.specs.Steps.{last_of}
use Rattle.kte_turn.proofs.turn.Turn.leave.Given as goal

-- the event that is counted is the last one of the value's story
abbrev pub ghosts-counted : goal.ghosts-counted
ghosts-counted g a = record { event = last_of (g.V.Storied.story a.value.now) }
