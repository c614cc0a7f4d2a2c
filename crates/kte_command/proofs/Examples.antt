-- Worked examples of the definitions.
use Rattle.std.proofs.Common.{[], false, arith}
use Rattle.kte_place.specs.Examples.{span}
use Rattle.kte_command.specs.Commands.{InRange}
use Rattle.kte_command.specs.declared.command.Command.TheVariants.{SetRange, ShowRange, All}

-- a place is at most at line and column 2^30
far : InRange (SetRange 1 (span 0 0 1073741824 1073741824))
far = record { start = (omega arith, omega arith); end = (omega arith, omega arith) }

too_far : ¬ (InRange (SetRange 1 (span 0 0 0 1073741825)))
too_far within = omega (arith, within.end.1)

any_number : InRange (ShowRange 0)
any_number = tt

-- a search for nothing may not be made
nothing_sought : ¬ (InRange (All (record { pattern = []; fold_case = false; whole = false })))
nothing_sought within = omega (arith, within)
