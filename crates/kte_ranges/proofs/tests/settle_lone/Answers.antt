use Rattle.std.proofs.Common.{◌≡◌, ℕ, Some, Contains, inl, subst}
use Rattle.kte_place.specs.declared.span.Empty.TheVariants.{Allow}
use Rattle.kte_ranges.specs.Cursors.{Hangs, StartIsReady}
use Rattle.kte_ranges.specs.Starts.{IsNearOrSettled}
use Rattle.kte_ranges.proofs.Pegs.{lone_apart, lone_info, holds_two}
use Rattle.kte_ranges.proofs.tests.settle_lone.Goals as goal

first_of : {pair : ℕ × ℕ} → Some (0, 1) ≡ Some pair → 0 ≡ pair.0
first_of is = cc

pub settle-requires-clause-hang : goal.settle-requires-clause-hang
settle-requires-clause-hang g c =
    rw (c.make-id.ensures.ranges, c.info.ensures, c.in_ok-reserve.ensures.ranges, c.new-table.ensures.ranges)
    (lone_info (Hangs _) _ _ c.requires.hang)

pub settle-requires-clause-apart : goal.settle-requires-clause-apart
settle-requires-clause-apart g c =
    rw (c.make-id.ensures.ranges, c.info.ensures, c.in_ok-reserve.ensures.ranges, c.new-table.ensures.ranges)
    (lone_apart _ _ (holds_two Allow))

pub settle-requires-clause-ready : goal.settle-requires-clause-ready
settle-requires-clause-ready g c =
    rw (c.make-id.ensures.ranges, c.info.ensures, c.in_ok-reserve.ensures.ranges, c.new-table.ensures.ranges)
    (lone_info (StartIsReady _ _) _ _ c.requires.ready)

pub settle_near-requires-clause-hang : goal.settle_near-requires-clause-hang
settle_near-requires-clause-hang g c =
    rw (c.make-id.ensures.ranges, c.info.ensures, c.in_ok-reserve.ensures.ranges, c.new-table.ensures.ranges)
    (lone_info (Hangs _) _ _ c.requires.hang)

pub settle_near-requires-clause-apart : goal.settle_near-requires-clause-apart
settle_near-requires-clause-apart g c =
    rw (c.make-id.ensures.ranges, c.info.ensures, c.in_ok-reserve.ensures.ranges, c.new-table.ensures.ranges)
    (lone_apart _ _ (holds_two Allow))

pub settle_near-requires-clause-ready : goal.settle_near-requires-clause-ready
settle_near-requires-clause-ready g c =
    rw (c.make-id.ensures.ranges, c.info.ensures, c.in_ok-reserve.ensures.ranges, c.new-table.ensures.ranges)
    (lone_info (StartIsReady _ _) _ _ c.requires.ready)

pub settle_near-requires-clause-others : goal.settle_near-requires-clause-others
settle_near-requires-clause-others g c =
    rw (c.make-id.ensures.ranges, c.info.ensures, c.in_ok-reserve.ensures.ranges, c.new-table.ensures.ranges)
    (lone_info (IsNearOrSettled _ _) _ _ (λ pair is. inl (subst (Contains _) (first_of is) c.requires.near)))
