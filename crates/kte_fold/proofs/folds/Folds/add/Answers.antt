use Rattle.std.proofs.Common.{◌≡◌, ◌-◌, ◌++◌, false, length, take, drop, Some, sym, ◌∙◌, arith}
use Rattle.std.specs.FinMap.{get}
use Rattle.std.specs.List.{insert}
use Rattle.kte_fold.specs.Folds.{is_fold}
use Rattle.kte_fold.specs.Tree.{KeepsTree}
use Rattle.kte_fold.specs.Inside.{Descended, LieInside, Follow}
use Rattle.std.proofs.lemmas.List.{take_at}
use Rattle.kte_fold.proofs.EditLemmas.{outline_come, tree_come, folds_come}
use Rattle.kte_fold.proofs.folds.Folds.add.Given.{Over}
use Rattle.kte_fold.proofs.folds.Folds.add.Goals as goal
use Rattle.kte_fold.proofs.folds.Folds.add.Goals.{After-unwrap-2}

same_length : (g : Over) (c : After-unwrap-2 g) → length c.find_seat-seat.new.inside ≡ length c.self.inside.inside.items
same_length g c = let h = c.find_seat-seat.auto.inside in omega (arith, c.as_mut_slice.ensures.len, c.self.inside.inside.ok.0)

lent : (g : Over) (c : After-unwrap-2 g) → take c.self.inside.inside.len (c.find_seat-seat.new.inside ++ drop (length c.find_seat-seat.new.inside) c.self.inside.inside.items) ≡ c.find_seat-seat.new.inside
lent g c = take_at c.find_seat-seat.new.inside (drop (length c.find_seat-seat.new.inside) c.self.inside.inside.items) c.self.inside.inside.len (omega (arith, same_length g c, c.self.inside.inside.ok.0))

numbers_are : (g : Over) (c : After-unwrap-2 g) → c.insert.new.self.items ≡ insert c.self.inside.numbers.items c.find_seat-seat.result.at c.args.id
numbers_are g c = c.insert.ensures.items ∙ rw c.unwrap.ensures

counts_are : (g : Over) (c : After-unwrap-2 g) → c.insert-2.new.self.items ≡ insert c.find_seat-seat.new.inside c.find_seat-seat.result.at (c.end_of_inner-next.result - c.find_seat-seat.result.at)
counts_are g c = c.insert-2.ensures.items ∙ rw (c.unwrap-2.ensures, lent g c)

found : (g : Over) (c : After-unwrap-2 g) → Descended (g.S.Spanned.spans c.args.spans.now) c.self.inside.numbers.items c.self.inside.inside.items c.find_seat-seat.new.inside c.unwrap-span.result c.find_seat-seat.result.at c.find_seat-seat.result.end
found g c = rw (c.as_slice.ensures.value, c.as_mut_slice.ensures.value) at c.find_seat-seat.ensures.found

inner : (g : Over) (c : After-unwrap-2 g) → LieInside (g.S.Spanned.spans c.args.spans.now) c.self.inside.numbers.items c.find_seat-seat.new.inside c.unwrap-span.result c.find_seat-seat.result.at c.end_of_inner-next.result
inner g c = rw (c.as_slice-2.ensures.value, c.as_slice-3.ensures.value, lent g c) at c.end_of_inner-next.ensures.inner

outer : (g : Over) (c : After-unwrap-2 g) → Follow (g.S.Spanned.spans c.args.spans.now) c.self.inside.numbers.items c.unwrap-span.result c.end_of_inner-next.result c.find_seat-seat.result.end
outer g c = rw c.as_slice-2.ensures.value at c.end_of_inner-next.ensures.outer

is_span : (g : Over) (c : After-unwrap-2 g) → get (g.S.Spanned.spans c.args.spans.now) c.args.id ≡ Some c.unwrap-span.result
is_span g c = sym c.span.ensures ∙ c.unwrap-span.ensures

kept : (g : Over) (c : After-unwrap-2 g) → KeepsTree (g.S.Spanned.spans c.args.spans.now) c.self.inside.numbers.items c.self.inside.inside.items
kept g c = rw (← c.self.view_is) at c.requires.tree

new : (g : Over) (c : After-unwrap-2 g) → is_fold c.self.inside.numbers.items c.args.id ≡ false
new g c = rw (← c.self.view_is) at c.requires.new

pub invariant_of-self : goal.invariant_of-self
invariant_of-self g c =
    rw (numbers_are g c, counts_are g c)
    (outline_come (g.S.Spanned.spans c.args.spans.now) c.self.inside.numbers.items c.self.inside.inside.items
    c.find_seat-seat.new.inside c.unwrap-span.result c.args.id c.find_seat-seat.result.at c.find_seat-seat.result.end
    c.end_of_inner-next.result c.self.invariant (kept g c) (found g c) c.end_of_inner-next.ensures.after
    c.end_of_inner-next.ensures.bounded (inner g c) (outer g c) (is_span g c) (new g c))

pub returns-clause-added : goal.returns-clause-added
returns-clause-added g c =
    rw (numbers_are g c, ← c.self.view_is)
    (folds_come (g.S.Spanned.spans c.args.spans.now) c.self.inside.numbers.items c.self.inside.inside.items
    c.find_seat-seat.new.inside c.unwrap-span.result c.args.id c.find_seat-seat.result.at c.find_seat-seat.result.end
    c.end_of_inner-next.result c.self.invariant (kept g c) (found g c) c.end_of_inner-next.ensures.after
    c.end_of_inner-next.ensures.bounded (inner g c) (outer g c) (is_span g c) (new g c))

pub returns-clause-tree : goal.returns-clause-tree
returns-clause-tree g c =
    rw (numbers_are g c, counts_are g c)
    (tree_come (g.S.Spanned.spans c.args.spans.now) c.self.inside.numbers.items c.self.inside.inside.items
    c.find_seat-seat.new.inside c.unwrap-span.result c.args.id c.find_seat-seat.result.at c.find_seat-seat.result.end
    c.end_of_inner-next.result c.self.invariant (kept g c) (found g c) c.end_of_inner-next.ensures.after
    c.end_of_inner-next.ensures.bounded (inner g c) (outer g c) (is_span g c) (new g c))
