use Rattle.std.proofs.Common.{◌≡◌, ◌≤◌, ℕ, refl, ap, subst, rules}
use Rattle.kte_words.specs.Words.{FirstMisfit}
use Rattle.kte_words.specs.declared.TheConstants.{MAX_WORKERS}
use Rattle.kte_words.specs.declared.words.Words.TheVariants as command
use Rattle.kte_words.specs.declared.parsing.BadWords.{BadWords}
use Rattle.kte_words.proofs.CallerLemmas.{count-within, workers-within}
use Rattle.kte_run.specs.declared.status.Status.TheVariants as status
use Rattle.kte_run.specs.Generate.{IsGeneration}
use Rattle.kte_run.specs.Run.{IsEdit, outside}
use Rattle.kte_run.proofs.program.run.Goals as goal

pub returns-in-Err-clause-bad_words : goal.returns-in-Err-clause-bad_words
returns-in-Err-clause-bad_words g c = λ at. (
  λ is. let same : c.in-Err.fault.at ≡ at = cc is in subst (λ (n : _). FirstMisfit c.args.words.now n) same ((c.parse.ensures.misfit c.in-Err.fault).0 c.in-Err.is),
  λ misfit.
      let bad : BadWords = record { at = at } in
      let other = (c.parse.ensures.misfit bad).1 misfit in
      let same : c.in-Err.fault ≡ bad = cc (c.in-Err.is, other) in
      ap (λ (fault : BadWords). status.BadWords fault.at) same,
)

pub returns-in-Ok-Edit-clause-recover : goal.returns-in-Ok-Edit-clause-recover
returns-in-Ok-Edit-clause-recover g c = λ file spells.
    let other = (c.parse.ensures.command (command.Recover file)).1 spells in
    absurd (cc (c.in-Ok-Edit.is, c.in-Ok-Edit.field-0-is, other))

pub returns-in-Ok-Recover-clause-edit : goal.returns-in-Ok-Recover-clause-edit
returns-in-Ok-Recover-clause-edit g c = λ file spells.
    let other = (c.parse.ensures.command (command.Edit file)).1 spells in
    absurd (cc (c.in-Ok-Recover.is, c.in-Ok-Recover.field-0-is, other))

pub returns-in-Err-clause-edit : goal.returns-in-Err-clause-edit
returns-in-Err-clause-edit g c = λ file spells.
    let other = (c.parse.ensures.command (command.Edit file)).1 spells in
    absurd (cc (c.in-Err.is, other))

pub returns-in-Err-clause-recover : goal.returns-in-Err-clause-recover
returns-in-Err-clause-recover g c = λ file spells.
    let other = (c.parse.ensures.command (command.Recover file)).1 spells in
    absurd (cc (c.in-Err.is, other))

pub generate-requires-clause-some : goal.generate-requires-clause-some
generate-requires-clause-some g c =
    let spells = (c.parse.ensures.command (command.Gen c.in-Ok-Gen.number c.in-Ok-Gen.count)).0 (cc (c.in-Ok-Gen.is, c.in-Ok-Gen.field-0-is)) in
    (count-within c.args.words.now c.in-Ok-Gen.number c.in-Ok-Gen.count spells).0

pub generate-requires-clause-most : goal.generate-requires-clause-most
generate-requires-clause-most g c =
    let spells = (c.parse.ensures.command (command.Gen c.in-Ok-Gen.number c.in-Ok-Gen.count)).0 (cc (c.in-Ok-Gen.is, c.in-Ok-Gen.field-0-is)) in
    (count-within c.args.words.now c.in-Ok-Gen.number c.in-Ok-Gen.count spells).1

pub returns-in-Ok-Gen-clause-generate : goal.returns-in-Ok-Gen-clause-generate
returns-in-Ok-Gen-clause-generate g c = λ number count spells.
    let other = (c.parse.ensures.command (command.Gen number count)).1 spells in
    let same_number : c.in-Ok-Gen.number ≡ number = cc (c.in-Ok-Gen.is, c.in-Ok-Gen.field-0-is, other) in
    let same_count : c.in-Ok-Gen.count ≡ count = cc (c.in-Ok-Gen.is, c.in-Ok-Gen.field-0-is, other) in
    let got = g.O.Sink.got c.args.out.now in
    let now = g.O.Sink.got c.generate.new.out in
    let faults = g.O.Sink.faults c.args.out.now in
    let later = g.O.Sink.faults c.generate.new.out in (
      refl {a = c.args.script.now},
      refl {a = c.args.disk.now},
      subst (λ (n : ℕ). IsGeneration n count got now faults later c.generate.result) same_number
          (subst (λ (k : ℕ). IsGeneration c.in-Ok-Gen.number k got now faults later c.generate.result) same_count c.generate.ensures),
    )

pub returns-in-Ok-Gen-clause-edit : goal.returns-in-Ok-Gen-clause-edit
returns-in-Ok-Gen-clause-edit g c = λ file spells.
    let other = (c.parse.ensures.command (command.Edit file)).1 spells in
    absurd (cc (c.in-Ok-Gen.is, c.in-Ok-Gen.field-0-is, other))

pub returns-in-Ok-Gen-clause-recover : goal.returns-in-Ok-Gen-clause-recover
returns-in-Ok-Gen-clause-recover g c = λ file spells.
    let other = (c.parse.ensures.command (command.Recover file)).1 spells in
    absurd (cc (c.in-Ok-Gen.is, c.in-Ok-Gen.field-0-is, other))

pub returns-in-Ok-Edit-clause-generate : goal.returns-in-Ok-Edit-clause-generate
returns-in-Ok-Edit-clause-generate g c = λ number count spells.
    let other = (c.parse.ensures.command (command.Gen number count)).1 spells in
    absurd (cc (c.in-Ok-Edit.is, c.in-Ok-Edit.field-0-is, other))

pub returns-in-Ok-Recover-clause-generate : goal.returns-in-Ok-Recover-clause-generate
returns-in-Ok-Recover-clause-generate g c = λ number count spells.
    let other = (c.parse.ensures.command (command.Gen number count)).1 spells in
    absurd (cc (c.in-Ok-Recover.is, c.in-Ok-Recover.field-0-is, other))

pub returns-in-Err-clause-generate : goal.returns-in-Err-clause-generate
returns-in-Err-clause-generate g c = λ number count spells.
    let other = (c.parse.ensures.command (command.Gen number count)).1 spells in
    absurd (cc (c.in-Err.is, other))

pub edit_checked-requires-clause-some : goal.edit_checked-requires-clause-some
edit_checked-requires-clause-some g c =
    let spells = (c.parse.ensures.command (command.Check c.in-Ok-Check.workers c.in-Ok-Check.field-0-1)).0 (cc (c.in-Ok-Check.is, c.in-Ok-Check.field-0-is)) in
    let within : 1 ≤ c.in-Ok-Check.workers = (workers-within c.args.words.now c.in-Ok-Check.workers c.in-Ok-Check.field-0-1 spells).0 in
    search (rules, within)

pub edit_checked-requires-clause-most : goal.edit_checked-requires-clause-most
edit_checked-requires-clause-most g c =
    let spells = (c.parse.ensures.command (command.Check c.in-Ok-Check.workers c.in-Ok-Check.field-0-1)).0 (cc (c.in-Ok-Check.is, c.in-Ok-Check.field-0-is)) in
    let within : c.in-Ok-Check.workers ≤ MAX_WORKERS = (workers-within c.args.words.now c.in-Ok-Check.workers c.in-Ok-Check.field-0-1 spells).1 in
    search (rules, within)

pub returns-in-Ok-Check-clause-check : goal.returns-in-Ok-Check-clause-check
returns-in-Ok-Check-clause-check g c = λ workers file spells.
    let other = (c.parse.ensures.command (command.Check workers file)).1 spells in
    let same : c.in-Ok-Check.workers ≡ workers = cc (c.in-Ok-Check.is, c.in-Ok-Check.field-0-is, other) in
    subst (λ (n : ℕ). IsEdit n
    (outside (g.S.Source.left c.args.script.now) (g.S.Source.faults c.args.script.now) (g.D.Disk.moments c.args.disk.now) (g.D.Disk.faults c.args.disk.now) (g.O.Sink.got c.args.out.now) (g.O.Sink.faults c.args.out.now))
    (outside (g.S.Source.left c.edit_checked.new.script) (g.S.Source.faults c.edit_checked.new.script) (g.D.Disk.moments c.edit_checked.new.disk) (g.D.Disk.faults c.edit_checked.new.disk) (g.O.Sink.got c.edit_checked.new.out) (g.O.Sink.faults c.edit_checked.new.out))
    (c.edit_checked.new.disk ≡ c.args.disk.now) (c.edit_checked.new.out ≡ c.args.out.now) c.edit_checked.result) same c.edit_checked.ensures

pub returns-in-Ok-Check-clause-edit : goal.returns-in-Ok-Check-clause-edit
returns-in-Ok-Check-clause-edit g c = λ file spells.
    let other = (c.parse.ensures.command (command.Edit file)).1 spells in
    absurd (cc (c.in-Ok-Check.is, c.in-Ok-Check.field-0-is, other))

pub returns-in-Ok-Check-clause-recover : goal.returns-in-Ok-Check-clause-recover
returns-in-Ok-Check-clause-recover g c = λ file spells.
    let other = (c.parse.ensures.command (command.Recover file)).1 spells in
    absurd (cc (c.in-Ok-Check.is, c.in-Ok-Check.field-0-is, other))

pub returns-in-Ok-Check-clause-generate : goal.returns-in-Ok-Check-clause-generate
returns-in-Ok-Check-clause-generate g c = λ number count spells.
    let other = (c.parse.ensures.command (command.Gen number count)).1 spells in
    absurd (cc (c.in-Ok-Check.is, c.in-Ok-Check.field-0-is, other))

pub returns-in-Ok-Edit-clause-check : goal.returns-in-Ok-Edit-clause-check
returns-in-Ok-Edit-clause-check g c = λ workers file spells.
    let other = (c.parse.ensures.command (command.Check workers file)).1 spells in
    absurd (cc (c.in-Ok-Edit.is, c.in-Ok-Edit.field-0-is, other))

pub returns-in-Ok-Recover-clause-check : goal.returns-in-Ok-Recover-clause-check
returns-in-Ok-Recover-clause-check g c = λ workers file spells.
    let other = (c.parse.ensures.command (command.Check workers file)).1 spells in
    absurd (cc (c.in-Ok-Recover.is, c.in-Ok-Recover.field-0-is, other))

pub returns-in-Ok-Gen-clause-check : goal.returns-in-Ok-Gen-clause-check
returns-in-Ok-Gen-clause-check g c = λ workers file spells.
    let other = (c.parse.ensures.command (command.Check workers file)).1 spells in
    absurd (cc (c.in-Ok-Gen.is, c.in-Ok-Gen.field-0-is, other))

pub returns-in-Err-clause-check : goal.returns-in-Err-clause-check
returns-in-Err-clause-check g c = λ workers file spells.
    let other = (c.parse.ensures.command (command.Check workers file)).1 spells in
    absurd (cc (c.in-Err.is, other))
