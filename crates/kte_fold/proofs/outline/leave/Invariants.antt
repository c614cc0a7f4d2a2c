use Rattle.std.proofs.Common.{◌≡◌, ℕ, ◌<◌, ◌≤◌, slice_index}
use Rattle.kte_fold.specs.Inside.{Left}
use Rattle.kte_fold.proofs.outline.leave.Given as goal

-- the counts up to this place were judged
abbrev pub invariant-loop-k : goal.invariant-loop-k
invariant-loop-k l = record {
  done : (m : ℕ) → m < l.k → Left l.at m (slice_index l.initial.inside m) (slice_index l.inside m);
  left : (m : ℕ) → l.k ≤ m → slice_index l.inside m ≡ slice_index l.initial.inside m;
}
