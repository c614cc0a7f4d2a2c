use Rattle.std.proofs.Common.{◌≡◌, length, vec_len}
use Rattle.kte_recover.specs.Inverse.{CanUndo, undone}
use Rattle.kte_recover.specs.Replay.{HasNoCursors}
use Rattle.kte_recover.proofs.replay.Replay.close.Given as goal

-- what is left to take back can be taken back, and leads to the same text
abbrev pub invariant-loop-primitive : goal.invariant-loop-primitive
invariant-loop-primitive l = record {
  can_undo : CanUndo l.self.undo.items l.self.buffer.text;
  cursors : HasNoCursors l.self.buffer;
  undone_is : undone l.self.undo.items l.self.buffer.text ≡ undone l.fn.self.undo.items l.fn.self.buffer.text;
}

abbrev pub decreases-loop-primitive : goal.decreases-loop-primitive
decreases-loop-primitive l = vec_len l.self.undo
