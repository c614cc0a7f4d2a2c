use Rattle.std.proofs.Common.{ℕ, List, ◌≡◌, ◌≤◌, ◌+◌, ◌-◌, ◌++◌, [], length, take, drop, arith, refl, sym, append-nil, append_assoc}
use Rattle.kte_text.specs.Units.{IsLine, IsBoundary, utf8_of}
use Rattle.kte_text.specs.Inside.{Gathers}
use Rattle.kte_text.proofs.LineLemmas.{IsLine-between}
use Rattle.kte_text.proofs.Utf8Lemmas.{utf8-nil, utf8-take_more}
use Rattle.kte_text.proofs.hashing.Writer.put_line.Goals as goal

pub loop-next-init : goal.loop-next-init
loop-next-init c =
    (c.requires.inside, record { within = omega arith; whole = refl }, λ m held. rw (utf8-nil, append-nil) held)

pub put_run-requires-clause-line : goal.put_run-requires-clause-line
put_run-requires-clause-line c =
    let next = c.loop-next.next in
    let end = c.run_end-end.result in
    let e : next + (end - next) ≡ end = omega arith in
    IsLine-between c.args.units.now next (end - next) c.requires.line c.loop-next.invariant.1 (rw e c.run_end-end.ensures.boundary)

pub loop-next-preserved : goal.loop-next-preserved
loop-next-preserved c =
    let next = c.loop-next.next in
    let end = c.run_end-end.result in
    let units = c.args.units.now in
    let e : next + (end - next) ≡ end = omega arith in
    let more = rw e at (utf8-take_more units next (end - next) c.requires.line c.loop-next.invariant.1) in (
      c.put_run.ensures.inside,
      c.run_end-end.ensures.boundary,
      λ m held. rw (sym more, sym (append_assoc m (utf8_of (take next units)) (utf8_of (take (end - next) (drop next units)))))
          (c.put_run.ensures.added (m ++ utf8_of (take next units)) (c.loop-next.invariant.2 m held)),
    )
