use Rattle.std.proofs.Common.{◌≡◌, ℕ, zero, suc, All, replicate, arith, rules}
use Rattle.std.proofs.lemmas.List.Elements.{All-nil, All-cons}
use Rattle.kte_text.specs.Units.{IsPrintable}
use Rattle.kte_text.proofs.LineLemmas.{IsLine-printable}
use Rattle.kte_text.proofs.tests.letters.Goals as goal

printable : (n : ℕ) → All IsPrintable (replicate n 0x61)
printable zero = All-nil IsPrintable
printable (suc n) = All-cons IsPrintable 0x61 (replicate n 0x61) (omega arith, omega arith) (printable n)

pub of_units-requires : goal.of_units-requires
of_units-requires c =
    let units : c.in_ok-units.units.items ≡ replicate c.args.count 0x61 = search rules in
    rw (c.deref.ensures.value, units) (IsLine-printable (replicate c.args.count 0x61) (printable c.args.count))
