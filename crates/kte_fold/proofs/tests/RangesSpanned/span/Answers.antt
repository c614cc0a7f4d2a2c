use Rattle.std.proofs.Common.{refl, arith}
use Rattle.std.proofs.lemmas.Bool.Decides.{nat_tests}
use Rattle.kte_fold.proofs.SpanLemmas.{three_are}
use Rattle.kte_fold.proofs.tests.RangesSpanned.span.Goals as goal

pub returns-in-1 : goal.returns-in-1
returns-in-1 c = rw (three_are c.args.self.now.one c.args.self.now.two c.args.self.now.three c.args.id, c.in-1.is) refl

pub returns-in-2 : goal.returns-in-2
returns-in-2 c = rw (three_are c.args.self.now.one c.args.self.now.two c.args.self.now.three c.args.id, c.in-2.is) refl

pub returns-in-3 : goal.returns-in-3
returns-in-3 c = rw (three_are c.args.self.now.one c.args.self.now.two c.args.self.now.three c.args.id, c.in-3.is) refl

pub returns-in_default : goal.returns-in_default
returns-in_default c =
    rw (three_are c.args.self.now.one c.args.self.now.two c.args.self.now.three c.args.id) (grind (arith, nat_tests))
