use Rattle.std.proofs.Common.{rules, ◌≡◌, ◌≤◌, Bool, true, length, map, All, Option, Some, IsSome, vec_capacity, sym, ap, ◌∙◌, subst, arith}
use Rattle.std.specs.Prelude.{is_some}
use Rattle.std.proofs.lemmas.Option.{same_Some}
use Rattle.kte_desk.specs.Passes.{editor_known}
use Rattle.kte_desk.specs.Seen.{Sees}
use Rattle.kte_desk.specs.declared.pass.EditorPass.{EditorPass}
use Rattle.kte_run.specs.declared.status.Status.{Status}
use Rattle.kte_run.specs.Beside.{CanEdit, Edits, IsNew}
use Rattle.kte_run.specs.Crew.{is_done, pass_of}
use Rattle.kte_run.specs.Run.{Outer, outer}
use Rattle.kte_run.proofs.BesideLemmas.{begins-few, begins-knowing}
use Rattle.kte_run.proofs.CrewLemmas.{EachChecks, acts_at, all_of, all_there, carried, checkers_length, each_checks, fresh_free, lent_back}
use Rattle.kte_run.proofs.crew.carry_out_beside.Goals as goal

pub outfitted-checkers-requires-clause-free : goal.outfitted-checkers-requires-clause-free
outfitted-checkers-requires-clause-free g c = fresh_free (editor_known c.in-Ok.pass) c.in-Ok.passes.items c.in-Ok.ensures.checkers

-- the editor may begin with the pass that it gets
pub act_all-ending-requires-clause-can : goal.act_all-ending-requires-clause-can
act_all-ending-requires-clause-can g c =
    let sees : Sees = editor_known c.in-Ok.pass in
    let starts = c.in-Ok.ensures.editor in
    let new : IsNew sees = record { seen = ap (λ (s : Sees). s.seen) starts; own = ap (λ (s : Sees). s.own) starts } in
    let can : CanEdit c.in-Ok.desk c.in-Ok.pass c.new-editor.result =
    record {
      own = c.in-Ok.ensures.all.editor_of;
      origin = ap (λ (s : Sees). is_some s.origin) starts;
      few = begins-few c.args.commands.items c.args.swap sees c.new-editor.result c.new-editor.ensures c.requires.can.few new;
      knows = begins-knowing c.args.commands.items c.args.swap sees c.new-editor.result c.new-editor.ensures c.requires.can.guarded new;
    } in
    λ lifetimes lives. can

pub gathered-are_done-requires-clause-there : goal.gathered-are_done-requires-clause-there
gathered-are_done-requires-clause-there g c =
    let passes = c.in-Ok.passes.items in
    let checkers = c.outfitted-checkers.result.items in
    let afters = c.act_all-ending.new.checkers in
    let long : length afters ≡ length checkers = search rules in
    let back = lent_back checkers afters c.outfitted-checkers.result.len (search rules) long in
    let acts = acts_at c.as_mut_slice.result.now checkers afters c.as_mut_slice.ensures.value c.act_all-ending.ensures.checkers in
    subst (All (λ checker. IsSome (pass_of checker))) (sym back) (all_there checkers afters passes c.outfitted-checkers.ensures long acts)

pub gathered-are_done-requires-clause-room : goal.gathered-are_done-requires-clause-room
gathered-are_done-requires-clause-room g c =
    let checkers = c.outfitted-checkers.result.items in
    let afters = c.act_all-ending.new.checkers in
    let long : length afters ≡ length checkers = search rules in
    let back = lent_back checkers afters c.outfitted-checkers.result.len (search rules) long in
    let count = checkers_length checkers c.in-Ok.passes.items c.outfitted-checkers.ensures in
    let room : length c.in-Ok.passes.items ≤ vec_capacity c.in_ok-back.back = search rules in
    (c.in_ok-back.ensures.items, subst (λ l. length l ≤ vec_capacity c.in_ok-back.back) (sym back) (omega (arith, long, count, room)))

pub close-core-requires : goal.close-core-requires
close-core-requires g c =
    let passes = c.in-Ok.passes.items in
    let checkers = c.outfitted-checkers.result.items in
    let afters = c.act_all-ending.new.checkers in
    let long : length afters ≡ length checkers = search rules in
    let back = lent_back checkers afters c.outfitted-checkers.result.len (search rules) long in
    let acts = acts_at c.as_mut_slice.result.now checkers afters c.as_mut_slice.ensures.value c.act_all-ending.ensures.checkers in
    let edited = c.act_all-ending.ensures.editor in
    let pass = c.unwrap.result in
    let is : edited.0 ≡ pass = same_Some edited.0 pass (sym edited.1 ∙ c.unwrap.ensures) in
    let edits = subst (λ (p : EditorPass). Edits c.new-editor.result c.in-Ok.pass p c.act_all-ending.result
    (outer (g.D.Disk.moments c.args.disk.now) (g.D.Disk.faults c.args.disk.now))
    (outer (g.D.Disk.moments c.act_all-ending.new.disk) (g.D.Disk.faults c.act_all-ending.new.disk))) is edited.2 in
    let laters = c.gathered-are_done.result.1.items in
    let done = c.gathered-are_done.result.0 in
    let checks : EachChecks done passes laters =
    each_checks done checkers afters passes laters c.outfitted-checkers.ensures (c.gathered-are_done.ensures.passes ∙ ap (λ l. map pass_of l) back) long
    (λ finished. subst (All (λ checker. is_done checker ≡ true)) back (c.gathered-are_done.ensures.done finished)) acts in
    all_of c.in-Ok.desk done c.in-Ok.pass pass passes laters c.in-Ok.ensures.all edits.later (edits.desk ∙ c.in-Ok.ensures.all.editor_of) checks

pub returns-in-Some-clause-carried : goal.returns-in-Some-clause-carried
returns-in-Some-clause-carried g c =
    let passes = c.in-Ok.passes.items in
    let checkers = c.outfitted-checkers.result.items in
    let afters = c.act_all-ending.new.checkers in
    let long : length afters ≡ length checkers = search rules in
    let back = lent_back checkers afters c.outfitted-checkers.result.len (search rules) long in
    let acts = acts_at c.as_mut_slice.result.now checkers afters c.as_mut_slice.ensures.value c.act_all-ending.ensures.checkers in
    let edited = c.act_all-ending.ensures.editor in
    let pass = c.unwrap.result in
    let is : edited.0 ≡ pass = same_Some edited.0 pass (sym edited.1 ∙ c.unwrap.ensures) in
    let edits = subst (λ (p : EditorPass). Edits c.new-editor.result c.in-Ok.pass p c.act_all-ending.result
    (outer (g.D.Disk.moments c.args.disk.now) (g.D.Disk.faults c.args.disk.now))
    (outer (g.D.Disk.moments c.act_all-ending.new.disk) (g.D.Disk.faults c.act_all-ending.new.disk))) is edited.2 in
    let laters = c.gathered-are_done.result.1.items in
    let done = c.gathered-are_done.result.0 in
    let checks : EachChecks done passes laters =
    each_checks done checkers afters passes laters c.outfitted-checkers.ensures (c.gathered-are_done.ensures.passes ∙ ap (λ l. map pass_of l) back) long
    (λ finished. subst (All (λ checker. is_done checker ≡ true)) back (c.gathered-are_done.ensures.done finished)) acts in
    let before : Outer = outer (g.D.Disk.moments c.args.disk.now) (g.D.Disk.faults c.args.disk.now) in
    let after : Outer = outer (g.D.Disk.moments c.act_all-ending.new.disk) (g.D.Disk.faults c.act_all-ending.new.disk) in
    (carried c.args.commands.items c.args.swap c.args.workers c.args.core c.close-core.result c.in-Some.ending before after c.in-Ok.pass pass passes laters
    (record {
      part = c.new-editor.result;
      part_is = c.new-editor.ensures;
      guarded = c.requires.can.guarded;
      some = c.requires.some;
      starts = c.in-Ok.ensures.editor;
      count = c.in-Ok.ensures.count;
      begin = c.in-Ok.ensures.checkers;
      edits = subst (λ (o : Option Status). Edits c.new-editor.result c.in-Ok.pass pass o before after) c.in-Some.is edits;
      checks = subst (λ (b : Bool). EachChecks b passes laters) c.if-are_done.true checks;
    })
    (record {
      origin = c.close-core.ensures.origin;
      legal = c.close-core.ensures.legal;
      editor_seen = c.close-core.ensures.editor_seen;
      seen = c.close-core.ensures.seen;
      calls = c.close-core.ensures.calls;
    }))

pub returns-in-Some-clause-goes_on : goal.returns-in-Some-clause-goes_on
returns-in-Some-clause-goes_on g c = c.act_all-ending.ensures.editor.2.goes_on

pub returns-clause-goes_on : goal.returns-clause-goes_on
returns-clause-goes_on g c = c.act_all-ending.ensures.editor.2.goes_on
