use Rattle.kte_causes.proofs.Parts.{Consumes-more}
use Rattle.kte_causes.proofs.whole.read_whole.Goals as goal

pub returns-then-count-room-clause-taken : goal.returns-then-count-room-clause-taken
returns-then-count-room-clause-taken g c =
    (_, Consumes-more _ _ _ _ _ c.loop-bytes.invariant.bytes c.in_ok-count.ensures.bytes)

pub returns-in_err-extend_from_slice-clause-taken :
    goal.returns-in_err-extend_from_slice-clause-taken
returns-in_err-extend_from_slice-clause-taken g c =
    (_, Consumes-more _ _ _ _ _ c.loop-bytes.invariant.bytes c.in_ok-count.ensures.bytes)
