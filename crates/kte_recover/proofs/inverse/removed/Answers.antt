use Rattle.std.proofs.Common.{◌≡◌, ◌+◌, ◌-◌, ℕ, take, drop, subst, sym, arith}
use Rattle.kte_text.specs.Units.{IsLine}
use Rattle.kte_text.proofs.LineLemmas.{IsLine-between}
use Rattle.kte_recover.proofs.inverse.removed.Goals as goal

pub of_units-requires : goal.of_units-requires
of_units-requires c =
    let count : c.args.column + c.args.length - c.args.column ≡ c.args.length = omega arith in
    subst (λ (n : ℕ). IsLine (take n (drop c.args.column c.args.units.now))) (sym count)
    (IsLine-between c.args.units.now c.args.column c.args.length c.requires.line c.requires.first c.requires.last)
