-- The lines of a script, and reading them one after another.
use denote.Ref.{Bor}
use Rattle.std.proofs.Common.{◌≡◌, ℕ, ◌+◌, ◌-◌, ◌<◌, Bool, true, false, eqb, List, [], ◌∷◌, ◌++◌, length, Option, None, Some, Result, Ok, Err, refl, sym, ap, ◌∙◌, append_assoc, append-nil, arith, inl, inr, ◌⊎◌}
use Rattle.std.specs.List.{slice_split, onto_first}
use Rattle.std.specs.Str.{is_utf8, IsUtf8}
use Rattle.std.specs.Str.Lossy.{utf8_valid_len}
use Rattle.std.proofs.lemmas.List.Splits.{slice_split-cons_yes, slice_split-cons_no}
use Rattle.std.proofs.lemmas.Str.{is_utf8-from_IsUtf8, IsUtf8-from_is_utf8}
use Rattle.std.proofs.lemmas.Bool.Decides.{nat_tests}
use Rattle.kte_command.specs.declared.command.Command.{Command}
use Rattle.kte_script.specs.declared.fault.ScriptFault.{ScriptFault}
use Rattle.kte_script.specs.declared.fault.ScriptFault.TheVariants as faults
use Rattle.kte_script.specs.Ends.{is_end, parts_of, FirstPart}
use Rattle.kte_script.specs.Words.{skip}
use Rattle.kte_script.specs.Reading.{command_at}
use Rattle.kte_script.specs.Script.{without_cr, ended, lines_of, Nothing, Says, Faulty, is_skipped, meaning, before_all, read_from, after_all, FirstLine, FailsScript}

decide : (b : Bool) → (b ≡ true) ⊎ (b ≡ false)
decide true = inl refl
decide false = inr refl

-- there is always a part
some_part : (bytes : List ℕ)
    → (first : List ℕ) × (others : List (List ℕ)) × (slice_split is_end bytes ≡ first ∷ others)
some_part [] = ([], [], refl)
some_part (byte ∷ bytes) =
    let p = some_part bytes in
    elim (decide (is_end byte)) [
      | inl e ↦ ([], slice_split is_end bytes, slice_split-cons_yes is_end byte bytes e)
      | inr e ↦
          (byte ∷ p.0, p.1, slice_split-cons_no is_end byte bytes e ∙ ap (λ (parts : List (List ℕ)). onto_first byte parts) p.2)
    ]

ended-cons : (line bytes : List ℕ)
    → ended (line ∷ slice_split is_end bytes) ≡ without_cr line ∷ lines_of bytes
ended-cons line bytes = let p = some_part bytes in rw p.2 refl

pub first_line : (bytes part line rest : List ℕ) → parts_of bytes ≡ part ∷ parts_of rest
    → line ≡ without_cr part → lines_of bytes ≡ line ∷ lines_of rest
first_line bytes part line rest parts is = rw (parts, is) (ended-cons part rest)

pub ended_line : (bytes part line : List ℕ) (more : Option (Bor (List ℕ))) (rest : Bor (List ℕ)) → FirstPart bytes part more
    → more ≡ Some rest → line ≡ without_cr part → FirstLine bytes line (Some rest)
ended_line bytes part line more rest first is e =
    let f = rw is at first in
    (first_line bytes part line rest.now f.0 e, omega (arith, f.1))

pub last_line : (bytes line : List ℕ) → parts_of bytes ≡ line ∷ [] → lines_of bytes ≡ line ∷ []
last_line bytes line parts = rw parts refl

-- ---- what a line says

pub bad_text : (line : List ℕ) (n : ℕ) → ¬ (IsUtf8 line) → n ≡ utf8_valid_len line
    → meaning line ≡ Faulty (n + 1)
unfolding meaning
bad_text line n none is =
    elim (decide (is_utf8 line)) [
      | inl e ↦ absurd (none (IsUtf8-from_is_utf8 line e))
      | inr e ↦ rw (e, is) refl
    ]

pub skipped : (line : List ℕ) → IsUtf8 line → is_skipped (skip line) ≡ true → meaning line ≡ Nothing
unfolding meaning
skipped line text e = rw (is_utf8-from_IsUtf8 line text, e) refl

pub says : (line : List ℕ) (command : Command) → IsUtf8 line → is_skipped (skip line) ≡ false
    → command_at line ≡ Ok command → meaning line ≡ Says command
unfolding meaning
says line command text e read = rw (is_utf8-from_IsUtf8 line text, e, read) refl

pub misfits : (line : List ℕ) (left : ℕ) → IsUtf8 line → is_skipped (skip line) ≡ false
    → command_at line ≡ Err left → meaning line ≡ Faulty (length line - left + 1)
unfolding meaning
misfits line left text e read = rw (is_utf8-from_IsUtf8 line text, e, read) refl

-- ---- one line after another

pub at_start : (read : Result (List Command) ScriptFault) → after_all [] read ≡ read
at_start (Ok commands) = refl
at_start (Err fault) = refl

regroup : (front : List Command) (command : Command) (read : Result (List Command) ScriptFault)
    → after_all front (before_all command read) ≡ after_all (front ++ command ∷ []) read
regroup front command (Ok commands) = ap (λ (cs : List Command). Ok cs) (simp append_assoc)
regroup front command (Err fault) = refl

unequal : (m n : ℕ) → n < m → eqb m n ≡ false
unequal m n h = grind (arith, nat_tests)

pub past_command : (front : List Command) (number room : ℕ) (line : List ℕ) (command : Command)
    (lines : List (List ℕ)) → meaning line ≡ Says command → 0 < room
    → after_all (front ++ command ∷ []) (read_from (number + 1) (room - 1) lines)
    ≡ after_all front (read_from number room (line ∷ lines))
past_command front number room line command lines e h =
    let some : eqb room 0 ≡ false = unequal room 0 h in
    rw (e, some) (sym (regroup front command (read_from (number + 1) (room - 1) lines)))

some_line : (bytes line : List ℕ) (more : Option (Bor (List ℕ))) → FirstLine bytes line more
    → (others : List (List ℕ)) × (lines_of bytes ≡ line ∷ others)
some_line bytes line None h = ([], h)
some_line bytes line (Some rest) h = (lines_of rest.now, h.0)

-- a fault of a line is the fault of all of them
pub fails : (given : ScriptFault) (front : List Command) (number room : ℕ) (rest line : List ℕ)
    (more : Option (Bor (List ℕ))) (total : Result (List Command) ScriptFault)
    → FirstLine rest line more
    → ((lines : List (List ℕ)) → FailsScript given (read_from number room (line ∷ lines)))
    → after_all front (read_from number room (lines_of rest)) ≡ total → FailsScript given total
fails faults.NoMemory front number room rest line more total first h so_far = tt
fails (faults.Bad l column) front number room rest line more total first h so_far =
    let p = some_line rest line more first in
    sym so_far ∙ ap (λ ls. after_all front (read_from number room ls)) p.1 ∙ ap (after_all front) (h p.0)
fails (faults.TooMany l) front number room rest line more total first h so_far =
    let p = some_line rest line more first in
    sym so_far ∙ ap (λ ls. after_all front (read_from number room ls)) p.1 ∙ ap (after_all front) (h p.0)
fails faults.TooLong front number room rest line more total first h so_far =
    let p = some_line rest line more first in
    sym so_far ∙ ap (λ ls. after_all front (read_from number room ls)) p.1 ∙ ap (after_all front) (h p.0)

-- the last line ends it
pub all_read : (front new : List Command) (number room later : ℕ) (rest line : List ℕ)
    (more : Option (Bor (List ℕ))) (total : Result (List Command) ScriptFault)
    → FirstLine rest line more → more ≡ None
    → ((lines : List (List ℕ)) → after_all new (read_from (number + 1) later lines)
    ≡ after_all front (read_from number room (line ∷ lines)))
    → after_all front (read_from number room (lines_of rest)) ≡ total → total ≡ Ok new
all_read front new number room later rest line None total first is h so_far =
    sym so_far ∙ ap (λ ls. after_all front (read_from number room ls)) first ∙ sym (h [])
    ∙ ap (λ (cs : List Command). Ok cs) (append-nil new)
all_read front new number room later rest line (Some x) total first is h so_far = absurd cc
