-- How much is left to do once memory has run out: the close, if it was not asked for.
use Rattle.std.proofs.Common.{◌≡◌, ◌∙◌, ℕ, zero, suc, ◌+◌, ◌*◌, ◌≤◌, Bool, true, false, List, [], ◌∷◌, ◌++◌, length, map, replicate, Option, Some, None, if◌then◌else◌, inl, inr, refl, ap, arith, length-append}
use Rattle.std.proofs.lemmas.Bool.{cases_Bool}
use Rattle.kte_command.specs.declared.command.Command.{Command}
use Rattle.kte_command.specs.declared.command.Command.TheVariants.{End}
use Rattle.kte_core.specs.declared.request.Request.{Request}
use Rattle.kte_core.specs.declared.request.Request.TheVariants.{Cmd, Close}
use Rattle.kte_desk.specs.Schedule.{asked_from, depth_after, depth_by}
use Rattle.kte_run.specs.declared.editor.Told.{Told}
use Rattle.kte_run.specs.Editor.{Part, asked, asked_after, asked_left, asked_next, first_of, left, next_after, next_of, owed_count, work}
use Rattle.kte_run.proofs.AskLemmas.{none-closed, none-owed}

-- how many requests are left once memory has run out, where the session is closed or not
abbrev closes : Bool → ℕ
closes closed = if closed then 0 else 1

some-left : (requests : List Request) → 1 ≤ length (requests ++ Close ∷ [])
some-left requests = omega (arith, length-append requests (Close ∷ []))

-- nothing but the close is left then
length-failed : (part : Part) → part.failed ≡ true → length (left part) ≡ closes part.closed
length-failed part failed =
    elim (cases_Bool part.closed) [
      | inl t ↦ rw t refl
      | inr f ↦ rw (f, failed) refl
    ]

-- .. and that is left of any part
least-left : (part : Part) → closes part.closed ≤ length (left part)
least-left part =
    elim (cases_Bool part.closed) [
      | inl t ↦ rw t (omega arith)
      | inr f ↦ elim (cases_Bool part.failed) [
        | inl t ↦ rw (f, t) (omega arith)
        | inr e ↦ rw (f, e) (some-left (map Cmd (part.commands ++ replicate (depth_after part.depth part.commands) End)))
      ]
    ]

next-less : (commands : List Command) (depth : ℕ) (part : Part) → part.closed ≡ false
    → 2 * closes (asked_next commands depth part).closed + 1 ≤ 2 * length (asked_from depth commands)
next-less (command ∷ commands) depth part still_open =
    let more = some-left (map Cmd (commands ++ replicate (depth_after (depth_by depth command) commands) End)) in
    let one : closes part.closed ≡ 1 = ap closes still_open in
    omega arith
next-less [] (suc depth) part still_open =
    let more = some-left (map Cmd (replicate depth End)) in
    let one : closes part.closed ≡ 1 = ap closes still_open in
    omega arith
next-less [] zero part still_open = omega arith

left-less : (part : Part) (request : Request) → first_of (left part) ≡ Some request
    → 2 * closes (asked_left part).closed + 1 ≤ 2 * length (left part)
left-less part request first =
    elim (cases_Bool part.closed) [
      | inl t ↦ let none : first_of [] ≡ Some request = rw t at first in absurd (cc)
      | inr f ↦ elim (cases_Bool part.failed) [
        | inl t ↦ rw (f, t) (omega arith)
        | inr e ↦ rw (f, e) (next-less part.commands part.depth (record part { closed = false; failed = false }) refl)
      ]
    ]

-- what was asked for is less than what was left, whatever is not left now
asked-less : (part : Part) (request : Request) → next_of part ≡ Some request → 2 * closes (asked part).closed + 1 ≤ work part
asked-less part request next = by part.owed refl next where
  by : (owed : Option Told) → part.owed ≡ owed → next_after (left part) owed ≡ Some request
      → 2 * closes (asked_after owed (record part { asking = None })).closed + 1 ≤ work part
  by (Some told) is first = omega (arith, least-left part, ap owed_count is)
  by None is first = omega (arith, left-less (record part { asking = None }) request first, ap owed_count is)

-- nothing is owed once the next request was asked for
pick-owed : (b : Bool) (first second : Part) → first.owed ≡ None → second.owed ≡ None → (if b then first else second).owed ≡ None
pick-owed true first second one other = one
pick-owed false first second one other = other

next-owed : (commands : List Command) (depth : ℕ) (part : Part) → part.owed ≡ None → (asked_next commands depth part).owed ≡ None
next-owed (command ∷ commands) depth part none = none
next-owed [] (suc depth) part none = none
next-owed [] zero part none = none

after-owed : (owed : Option Told) (part : Part) → part.owed ≡ owed → (asked_after owed part).owed ≡ None
after-owed (Some told) part is = refl
after-owed None part is =
    pick-owed part.closed part (if part.failed then record part { closed = true } else asked_next part.commands part.depth part) is
    (pick-owed part.failed (record part { closed = true }) (asked_next part.commands part.depth part) is
    (next-owed part.commands part.depth part is))

asked-owed : (part : Part) → (asked part).owed ≡ None
asked-owed part = after-owed part.owed (record part { asking = None }) refl

-- memory ran out after a request: less is left
pub work-fails : (part mid later : Part) (request : Request) → next_of part ≡ Some request → mid ≡ asked part → later.failed ≡ true
    → later.owed ≡ mid.owed → later.closed ≡ mid.closed → work later + 1 ≤ work part
work-fails part mid later request next is failed owed closed =
    let left_is : length (left later) ≡ closes (asked part).closed =
    length-failed later failed ∙ ap closes (closed ∙ ap (λ (p : Part). p.closed) is) in
    let none : owed_count later.owed ≡ 0 = ap owed_count (owed ∙ ap (λ (p : Part). p.owed) is ∙ asked-owed part) in
    omega (arith, asked-less part request next, left_is, none)

-- where nothing comes next, asking changes nothing of what is left
pub asked-none : (part : Part) → next_of part ≡ None → asked part ≡ record part { asking = None }
asked-none part none =
    ap (λ (owed : Option Told). asked_after owed (record part { asking = None })) (none-owed part none)
    ∙ rw (none-closed part none) refl
