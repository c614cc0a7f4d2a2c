use Rattle.std.proofs.Common.{◌≡◌, ℕ, ◌<◌, ◌≤◌, ◌++◌, length, slice_index, take, drop, arith}
use Rattle.kte_fold.specs.Inside.{Left}
use Rattle.std.proofs.lemmas.List.{take_at}
use Rattle.kte_fold.proofs.EditLemmas.{outline_gone, tree_gone, folds_gone}
use Rattle.kte_fold.proofs.folds.Folds.remove.Goals as goal
use Rattle.kte_fold.proofs.folds.Folds.remove.Goals.{After-remove-2}

same_length : (c : After-remove-2) → length c.leave.new.inside ≡ length c.self.inside.inside.items
same_length c = let h = c.leave.auto.inside in omega (arith, c.as_mut_slice.ensures.len, c.self.inside.inside.ok.0)

there : (c : After-remove-2) → c.in-Some.at < length c.self.inside.numbers.items
there c = rw c.as_slice.ensures.value at c.in-Some.ensures.found.0

is_there : (c : After-remove-2) → slice_index c.self.inside.numbers.items c.in-Some.at ≡ c.args.id
is_there c = rw c.as_slice.ensures.value at c.in-Some.ensures.found.1

before : (c : After-remove-2) (k : ℕ) → k < c.in-Some.at → Left c.in-Some.at k (slice_index c.self.inside.inside.items k) (slice_index c.leave.new.inside k)
before c k h = rw c.as_mut_slice.ensures.value at (c.leave.ensures.before k h)

after : (c : After-remove-2) (k : ℕ) → c.in-Some.at ≤ k → slice_index c.leave.new.inside k ≡ slice_index c.self.inside.inside.items k
after c k h = rw c.as_mut_slice.ensures.value at (c.leave.ensures.after k h)

lent : (c : After-remove-2) → take c.self.inside.inside.len (c.leave.new.inside ++ drop (length c.leave.new.inside) c.self.inside.inside.items) ≡ c.leave.new.inside
lent c = take_at c.leave.new.inside (drop (length c.leave.new.inside) c.self.inside.inside.items) c.self.inside.inside.len (omega (arith, same_length c, c.self.inside.inside.ok.0))

pub invariant_of-self : goal.invariant_of-self
invariant_of-self c =
    rw (c.remove.ensures.items, c.remove-2.ensures.items, lent c)
    (outline_gone c.self.inside.numbers.items c.self.inside.inside.items c.leave.new.inside c.in-Some.at c.self.invariant
    (there c) (same_length c) (before c) (after c))

pub returns-clause-removed : goal.returns-clause-removed
returns-clause-removed c =
    rw (c.remove.ensures.items, ← c.self.view_is)
    (λ n. folds_gone c.self.inside.numbers.items c.self.inside.inside.items c.leave.new.inside c.in-Some.at c.self.invariant
    (there c) (same_length c) (before c) (after c) c.args.id n (is_there c))

pub returns-clause-tree : goal.returns-clause-tree
returns-clause-tree c =
    rw (c.remove.ensures.items, c.remove-2.ensures.items, lent c, ← c.self.view_is)
    (tree_gone c.self.inside.numbers.items c.self.inside.inside.items c.leave.new.inside c.in-Some.at c.self.invariant
    (there c) (same_length c) (before c) (after c))
