use Rattle.std.proofs.Common.{◌≡◌, ◌≤◌, ◌-◌, ℕ, List, length, drop}
use Rattle.kte_record.specs.declared.header.TheConstants.{HEADER_LENGTH}
use Rattle.kte_recover.specs.Replay.{IsPlain, Stands}
use Rattle.kte_recover.proofs.replay.Replay.run.Given as goal

-- the records in front of the offset are replayed
abbrev pub invariant-loop-at : goal.invariant-loop-at
invariant-loop-at l = record {
  from : HEADER_LENGTH ≤ l.at;
  within : l.at ≤ length l.swap;
  few : l.self.done ≤ l.at;
  plain : IsPlain l.self.buffer;
  stands : (text : List (List ℕ))
      → Stands l.fn.self text (drop HEADER_LENGTH l.swap) (drop HEADER_LENGTH l.swap)
      → Stands l.self text (drop HEADER_LENGTH l.swap) (drop l.at l.swap);
}

abbrev pub decreases-loop-at : goal.decreases-loop-at
decreases-loop-at l = length l.swap - l.at
