use Rattle.std.proofs.Common.{◌≡◌, ◌∙◌, ◌++◌, ◌+◌, ◌-◌, ◌≤◌, ℕ, List, length, take, drop, Ok, true, false, refl, sym, ap, subst, arith}
use Rattle.kte_record.specs.Grammar.{Item, item_of, spelling, Begins, IsCutShort, FirstFault}
use Rattle.kte_record.specs.Reading.{Finds}
use Rattle.kte_recover.specs.Replay.{Stands}
use Rattle.kte_recover.proofs.RunLemmas.{rest_of, goes_on, ends_refused, ends_unknown, ends_cut, ends_open, ends_shut}
use Rattle.kte_recover.proofs.replay.Replay.run.Goals as goal

pub take-requires-clause-is_record : goal.take-requires-clause-is_record
take-requires-clause-is_record c = let found = rw c.in-Got.is at c.read.ensures.reads in found.0.is_record

pub returns-then-not-may_come-clause-ends : goal.returns-then-not-may_come-clause-ends
returns-then-not-may_come-clause-ends c = λ text start.
    let swap = c.args.swap.now in
    let at = c.loop-at.at in
    let found = rw c.in-Got.is at c.read.ensures.reads in
    let b = subst (λ (l : List ℕ). Begins l (item_of c.in-Got.item)) (rest_of swap at) found.0 in
    let inv = c.loop-at.invariant in
    let no = c.in_ok-may_come-in-Got.ensures.refused (ap Ok c.if-not-may_come.true) in
    ends_refused swap at c.loop-at.self c.take.new.self (item_of c.in-Got.item) text no.1 no.0 b inv.from inv.within (inv.stands text start)

pub returns-in-Part-clause-ends : goal.returns-in-Part-clause-ends
returns-in-Part-clause-ends c = λ text start.
    let swap = c.args.swap.now in
    let at = c.loop-at.at in
    let found = rw c.in-Part.is at c.read.ensures.reads in
    let inv = c.loop-at.invariant in
    ends_cut swap at c.loop-at.self text (subst IsCutShort (rest_of swap at) found) c.loop-at-test.true (inv.stands text start)

pub returns-in-Bad-clause-ends : goal.returns-in-Bad-clause-ends
returns-in-Bad-clause-ends c = λ text start.
    let swap = c.args.swap.now in
    let at = c.loop-at.at in
    let found = rw c.in-Bad.is at c.read.ensures.reads in
    let inv = c.loop-at.invariant in
    ends_unknown swap at c.in-Bad.at c.loop-at.self text (subst (λ (l : List ℕ). FirstFault l c.in-Bad.at) (rest_of swap at) found) inv.from inv.within (inv.stands text start)

pub overflow_add-at : goal.overflow_add-at
overflow_add-at c =
    let swap = c.args.swap.now in
    let at = c.loop-at.at in
    let found = rw c.in-Got.is at c.read.ensures.reads in
    let b = subst (λ (l : List ℕ). Begins l (item_of c.in-Got.item)) (rest_of swap at) found.0 in
    let next = goes_on swap at c.in-Got.used (item_of c.in-Got.item) b found.1 in
    let end = next.2 in
    omega arith

pub loop-at-smaller : goal.loop-at-smaller
loop-at-smaller c =
    let swap = c.args.swap.now in
    let at = c.loop-at.at in
    let found = rw c.in-Got.is at c.read.ensures.reads in
    let b = subst (λ (l : List ℕ). Begins l (item_of c.in-Got.item)) (rest_of swap at) found.0 in
    let next = goes_on swap at c.in-Got.used (item_of c.in-Got.item) b found.1 in
    omega (arith, next.1, next.2, c.loop-at-test.true)

pub loop-at-preserved : goal.loop-at-preserved
loop-at-preserved c =
    let swap = c.args.swap.now in
    let at = c.loop-at.at in
    let item = item_of c.in-Got.item in
    let found = rw c.in-Got.is at c.read.ensures.reads in
    let b = subst (λ (l : List ℕ). Begins l item) (rest_of swap at) found.0 in
    let next = goes_on swap at c.in-Got.used item b found.1 in
    let inv = c.loop-at.invariant in
    let took = c.in_ok-may_come-in-Got.ensures.took (ap Ok c.if-not-may_come.false) in
    record {
      from = omega (arith, inv.from);
      within = next.2;
      few = omega (arith, inv.few, c.in_ok-may_come-in-Got.ensures.count, next.1);
      plain = c.in_ok-may_come-in-Got.ensures.plain;
      stands = λ text start.
          took text (drop 46 swap) (drop (at + c.in-Got.used) swap)
          (subst (Stands c.loop-at.self text (drop 46 swap)) next.0 (inv.stands text start));
    }

pub returns-then-self-clause-ends : goal.returns-then-self-clause-ends
returns-then-self-clause-ends c = λ text start.
    ends_open c.args.swap.now c.loop-at.at c.loop-at.self text c.loop-at-test.false c.if-self.true (c.loop-at.invariant.stands text start)

pub returns-clause-ends : goal.returns-clause-ends
returns-clause-ends c = λ text start.
    ends_shut c.args.swap.now c.loop-at.at c.loop-at.self text c.loop-at-test.false c.if-self.false (c.loop-at.invariant.stands text start)
