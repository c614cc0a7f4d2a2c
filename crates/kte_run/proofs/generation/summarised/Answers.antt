use Rattle.std.proofs.Common.{◌≡◌, ◌∙◌, ℕ, List, [], ◌∷◌, ◌++◌, length, Some, ap, sym, subst, arith}
use Rattle.kte_causes.specs.Moments.{Moment}
use Rattle.kte_causes.specs.Shelf.{first_moment}
use Rattle.kte_text.specs.Digests.{digest_of}
use Rattle.kte_text.specs.Files.{Loads}
use Rattle.kte_swap.specs.Swap.{SwapView}
use Rattle.kte_swap.specs.declared.causes.SwapState.TheVariants.{Guarded}
use Rattle.kte_core.specs.Replay.{beginning, present}
use Rattle.kte_report.specs.Report.{summary}
use Rattle.kte_run.specs.Outcomes.{Begins, Keeps}
use Rattle.kte_run.proofs.GenerateLemmas.{empty-loads, not_refused, summarises}
use Rattle.kte_run.proofs.generation.summarised.Goals as goal

pub carry_out-requires-clause-can : goal.carry_out-requires-clause-can
carry_out-requires-clause-can c = record {
  in_range = c.in_ok-commands.ensures.in_range;
  few = omega (arith, c.in_ok-commands.ensures.counted, c.requires.most);
  guarded = ap (λ (swap : SwapView). swap.state) c.new-swap.ensures.new;
}

pub returns : goal.returns
returns c =
    let first = c.in_ok-core.core in
    let last = c.carry_out.new.core in
    let ran = c.in_ok-carry_out.ensures in
    let empty : c.deref.result.now ≡ [] = c.deref.ensures.value ∙ c.new-file.ensures.items in
    let disk_is : c.new-disk.result ≡ first_moment [] [] ∷ [] =
    c.new-disk.ensures ∙ ap (λ (saved : List ℕ). first_moment saved c.new-2.result.items ∷ []) c.new.ensures.items
    ∙ ap (λ (swap : List ℕ). first_moment [] swap ∷ []) c.new-2.ensures.items in
    summarises c.args.number c.args.count c.in_ok-commands.commands.items c.in-Ok.loaded c.new-swap.result first last c.carry_out.new.disk
    c.in_ok-recovered.recovered c.push_summary.new.out.items
    c.in_ok-commands.ensures.spelled c.in_ok-commands.ensures.counted
    (subst (λ (bytes : List ℕ). Loads bytes c.in-Ok.loaded) empty c.in-Ok.ensures.loaded)
    empty-loads
    (c.new-swap.ensures.new ∙ ap (λ (base : List ℕ). record { base = base; state = Guarded; count = 0 })
    (c.digest.ensures ∙ ap (λ (bytes : List ℕ). digest_of bytes) (c.deref-2.ensures.value ∙ c.new-file.ensures.items)))
    c.in_ok-core.ensures ran.schedule ran.begun ran.tells.counted
    (subst (λ (moments : List Moment). (file : List ℕ) → Begins file first.loaded c.new-swap.result (Some moments)
    → Keeps file (beginning first.loaded first.limit) last.events (Some c.carry_out.new.disk)) disk_is ran.tells.keeps)
    c.in_ok-recovered.ensures
    (c.in_ok-push_summary.ensures.ok ∙ ap (λ (bytes : List ℕ). bytes ++ summary c.args.count (length last.events) (present last) c.in_ok-recovered.recovered) c.new-output.ensures.items)

-- an empty file is not refused
pub unreachable-requires : goal.unreachable-requires
unreachable-requires c =
    not_refused c.deref.result.now c.load.result c.in-Err-LongFile.field-0 (c.deref.ensures.value ∙ c.new-file.ensures.items)
    (λ none. let both = sym c.in-Err-LongFile.field-0-is ∙ none in cc) c.load.ensures.refused c.in-Err-LongFile.is

pub unreachable-requires-in-Err-NotUtf8 : goal.unreachable-requires-in-Err-NotUtf8
unreachable-requires-in-Err-NotUtf8 c =
    not_refused c.deref.result.now c.load.result c.in-Err-NotUtf8.field-0 (c.deref.ensures.value ∙ c.new-file.ensures.items)
    (λ none. let both = sym c.in-Err-NotUtf8.field-0-is ∙ none in cc) c.load.ensures.refused c.in-Err-NotUtf8.is

pub unreachable-requires-in-Err-TooLarge : goal.unreachable-requires-in-Err-TooLarge
unreachable-requires-in-Err-TooLarge c =
    not_refused c.deref.result.now c.load.result c.in-Err-TooLarge.field-0 (c.deref.ensures.value ∙ c.new-file.ensures.items)
    (λ none. let both = sym c.in-Err-TooLarge.field-0-is ∙ none in cc) c.load.ensures.refused c.in-Err-TooLarge.is
