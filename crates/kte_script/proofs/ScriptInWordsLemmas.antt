-- A whole script in words.
use Rattle.std.proofs.Common.{◌≡◌, ◌↔◌, ℕ, suc, ◌+◌, ◌-◌, ◌≤◌, ◌<◌, Bool, true, false, nat_eq, nat_lt, List, [], ◌∷◌, ◌++◌, length, Result, Ok, Err, refl, sym, ap, subst, arith, inl, inr, ◌⊎◌}
use Rattle.std.proofs.lemmas.Bool.{ltb-false, le-ltb, eqb-true}
use Rattle.std.proofs.lemmas.Bool.Decides.{nat_tests}
use Rattle.kte_command.specs.declared.command.Command.{Command}
use Rattle.kte_script.specs.declared.TheConstants.{MAX_SCRIPT_LENGTH, MAX_COMMANDS}
use Rattle.kte_script.specs.declared.fault.ScriptFault.{ScriptFault}
use Rattle.kte_script.specs.declared.fault.ScriptFault.TheVariants as faults
use Rattle.kte_script.specs.Script.{Meaning, Nothing, Says, Faulty, meaning, before_all, with_line, read_from, lines_of, script_of}
use Rattle.kte_script.specs.ScriptInWords.{AllSay, Comes, IsScript, IsBad, HasTooMany}

abbrev Read : Type 0
Read = Result (List Command) ScriptFault

abbrev all_read : List Command → Read
all_read commands = Ok commands

abbrev fails : ScriptFault → Read
fails fault = Err fault

list_same : (a b : List Command) → all_read a ≡ Ok b → a ≡ b
list_same a b e = cc

fault_same : (a b : ScriptFault) → fails a ≡ Err b → a ≡ b
fault_same a b e = cc

refused : (fault : ScriptFault) (commands : List Command) → fails fault ≡ Ok commands → ⊥
refused fault commands e = cc

accepted : (commands : List Command) (fault : ScriptFault) → all_read commands ≡ Err fault → ⊥
accepted commands fault e = cc

decide : (b : Bool) → (b ≡ true) ⊎ (b ≡ false)
decide true = inl refl
decide false = inr refl

no_zero : (n : ℕ) → nat_eq n 0 ≡ false → 0 < n
no_zero n e = grind (arith, nat_tests)

some_room : (n : ℕ) → 0 < n → nat_eq n 0 ≡ false
some_room n e = grind (arith, nat_tests)

-- what these lines give, where room for so many commands is left
pub record Good (lines : List (List ℕ)) (room : ℕ) (commands : List Command) : Type 0 where
  pub said : AllSay lines commands
  pub few : length commands ≤ room

-- a fault in these lines, of which the first has this number
pub record At (lines : List (List ℕ)) (number room : ℕ) (at : ℕ) (line : List ℕ) (commands : List Command) : Type 0 where
  pub before : List (List ℕ)
  pub after : List (List ℕ)
  pub parts : lines ≡ before ++ line ∷ after
  pub counted : at ≡ number + length before
  pub said : AllSay before commands
  pub few : length commands ≤ room

abbrev Faults : List (List ℕ) → ℕ → ℕ → ScriptFault → Type 0
Faults lines number room (faults.Bad at column) =
    (line : List ℕ) × (commands : List Command) × At lines number room at line commands × (meaning line ≡ Faulty column)
Faults lines number room (faults.TooMany at) =
    (line : List ℕ) × (commands : List Command) × (command : Command) × At lines number room at line commands
    × (length commands ≡ room) × (meaning line ≡ Says command)
Faults lines number room faults.TooLong = ⊥
Faults lines number room faults.NoMemory = ⊥

-- ---- commands

before_ok : (command : Command) (read : Read) (commands : List Command) → before_all command read ≡ Ok commands
    → (others : List Command) × (read ≡ Ok others) × (commands ≡ command ∷ others)
before_ok command (Ok others) commands e = (others, refl, sym (list_same (command ∷ others) commands e))
before_ok command (Err fault) commands e = absurd (refused fault commands e)

before_err : (command : Command) (read : Read) (fault : ScriptFault) → before_all command read ≡ Err fault → read ≡ Err fault
before_err command (Ok others) fault e = absurd (accepted (command ∷ others) fault e)
before_err command (Err f) fault e = e

good_line : (number room : ℕ) (line : List ℕ) (lines : List (List ℕ)) (commands : List Command) (meant : Meaning)
    → meaning line ≡ meant
    → ((n r : ℕ) (cs : List Command) → read_from n r lines ≡ Ok cs → Good lines r cs)
    → with_line number room meant (λ left. read_from (number + 1) left lines) ≡ Ok commands → Good (line ∷ lines) room commands
good_line number room line lines commands Nothing is later e =
    let g = later (number + 1) room commands e in
    record { said = inl (is, g.said); few = g.few }
good_line number room line lines commands (Says command) is later e =
    elim (decide (nat_eq room 0)) [
      | inl full ↦ absurd (refused (faults.TooMany number) commands (rw full at e))
      | inr some ↦
          let p = before_ok command (read_from (number + 1) (room - 1) lines) commands (rw some at e) in
          let g = later (number + 1) (room - 1) p.0 p.1 in
          let room' = no_zero room some in
          record { said = inr (command, p.0, p.2, is, g.said); few = rw p.2 (omega (arith, g.few, room')) }
    ]
good_line number room line lines commands (Faulty column) is later e = absurd (refused (faults.Bad number column) commands e)

goods : (lines : List (List ℕ)) (number room : ℕ) (commands : List Command) → read_from number room lines ≡ Ok commands
    → Good lines room commands
goods [] number room commands e =
    let is : [] ≡ commands = list_same [] commands e in
    record { said = sym is; few = rw (← is) (omega arith) }
goods (line ∷ lines) number room commands e =
    good_line number room line lines commands (meaning line) refl (λ n r cs f. goods lines n r cs f) e

goods_back : (lines : List (List ℕ)) (number room : ℕ) (commands : List Command) → AllSay lines commands
    → length commands ≤ room → read_from number room lines ≡ Ok commands
goods_back [] number room commands said few = rw said refl
goods_back (line ∷ lines) number room commands (inl p) few = rw p.0 (goods_back lines (number + 1) room commands p.1 few)
goods_back (line ∷ lines) number room commands (inr (command, others, is, says, said)) few =
    let size : length commands ≡ suc (length others) = ap length is in
    let some = some_room room (omega (arith, size, few)) in
    let later = goods_back lines (number + 1) (room - 1) others said (omega (arith, size, few)) in
    rw (says, some, later, is) refl

-- ---- faults

-- a line that says nothing, or a command, before the others
past_nothing : (line : List ℕ) (lines : List (List ℕ)) (number room at : ℕ) (l : List ℕ) (cs : List Command)
    → meaning line ≡ Nothing → At lines (number + 1) room at l cs → At (line ∷ lines) number room at l cs
past_nothing line lines number room at l cs is a = record {
  before = line ∷ a.before;
  after = a.after;
  parts = ap (λ (ls : List (List ℕ)). line ∷ ls) a.parts;
  counted = omega (arith, a.counted);
  said = inl (is, a.said);
  few = a.few;
}

past_command : (line : List ℕ) (lines : List (List ℕ)) (number room at : ℕ) (l : List ℕ) (c : Command) (cs : List Command)
    → meaning line ≡ Says c → 0 < room → At lines (number + 1) (room - 1) at l cs → At (line ∷ lines) number room at l (c ∷ cs)
past_command line lines number room at l c cs is some a = record {
  before = line ∷ a.before;
  after = a.after;
  parts = ap (λ (ls : List (List ℕ)). line ∷ ls) a.parts;
  counted = omega (arith, a.counted);
  said = inr (c, cs, refl, is, a.said);
  few = omega (arith, a.few);
}

here : (line : List ℕ) (lines : List (List ℕ)) (number room : ℕ) → At (line ∷ lines) number room number line []
here line lines number room = record { before = []; after = lines; parts = refl; counted = omega arith; said = refl; few = omega arith }

later_nothing : (line : List ℕ) (lines : List (List ℕ)) (number room : ℕ) (fault : ScriptFault) → meaning line ≡ Nothing
    → Faults lines (number + 1) room fault → Faults (line ∷ lines) number room fault
later_nothing line lines number room (faults.Bad at column) is f = (f.0, f.1, past_nothing line lines number room at f.0 f.1 is f.2, f.3)
later_nothing line lines number room (faults.TooMany at) is f = (f.0, f.1, f.2, past_nothing line lines number room at f.0 f.1 is f.3, f.4, f.5)
later_nothing line lines number room faults.TooLong is f = absurd f
later_nothing line lines number room faults.NoMemory is f = absurd f

later_command : (line : List ℕ) (lines : List (List ℕ)) (number room : ℕ) (c : Command) (fault : ScriptFault) → meaning line ≡ Says c
    → 0 < room → Faults lines (number + 1) (room - 1) fault → Faults (line ∷ lines) number room fault
later_command line lines number room c (faults.Bad at column) is some f = (f.0, c ∷ f.1, past_command line lines number room at f.0 c f.1 is some f.2, f.3)
later_command line lines number room c (faults.TooMany at) is some f = (f.0, c ∷ f.1, f.2, past_command line lines number room at f.0 c f.1 is some f.3, omega (arith, f.4), f.5)
later_command line lines number room c faults.TooLong is some f = absurd f
later_command line lines number room c faults.NoMemory is some f = absurd f

fault_line : (number room : ℕ) (line : List ℕ) (lines : List (List ℕ)) (fault : ScriptFault) (meant : Meaning)
    → meaning line ≡ meant
    → ((n r : ℕ) (f : ScriptFault) → read_from n r lines ≡ Err f → Faults lines n r f)
    → with_line number room meant (λ left. read_from (number + 1) left lines) ≡ Err fault → Faults (line ∷ lines) number room fault
fault_line number room line lines fault Nothing is later e = later_nothing line lines number room fault is (later (number + 1) room fault e)
fault_line number room line lines fault (Says command) is later e =
    elim (decide (nat_eq room 0)) [
      | inl full ↦
          subst (λ (f : ScriptFault). Faults (line ∷ lines) number room f) (fault_same (faults.TooMany number) fault (rw full at e))
          (line, [], command, here line lines number room, sym (eqb-true _ _ full), is)
      | inr some ↦
          later_command line lines number room command fault is (no_zero room some)
          (later (number + 1) (room - 1) fault (before_err command (read_from (number + 1) (room - 1) lines) fault (rw some at e)))
    ]
fault_line number room line lines fault (Faulty column) is later e =
    subst (λ (f : ScriptFault). Faults (line ∷ lines) number room f) (fault_same (faults.Bad number column) fault e)
    (line, [], here line lines number room, is)

faulty : (lines : List (List ℕ)) (number room : ℕ) (fault : ScriptFault) → read_from number room lines ≡ Err fault
    → Faults lines number room fault
faulty [] number room fault e = absurd (accepted [] fault e)
faulty (line ∷ lines) number room fault e =
    fault_line number room line lines fault (meaning line) refl (λ n r f h. faulty lines n r f h) e

-- lines that say commands come before others
before_others : (before others : List (List ℕ)) (number room : ℕ) (commands : List Command) (fault : ScriptFault)
    → AllSay before commands → length commands ≤ room
    → read_from (number + length before) (room - length commands) others ≡ Err fault
    → read_from number room (before ++ others) ≡ Err fault
before_others [] others number room commands fault said few e =
    let n : number + 0 ≡ number = omega arith in
    let none : length commands ≡ 0 = ap length said in
    let r : room - length commands ≡ room = omega arith in
    rw (n, r) at e
before_others (line ∷ before) others number room commands fault (inl p) few e =
    let n : number + suc (length before) ≡ number + 1 + length before = omega arith in
    rw p.0 (before_others before others (number + 1) room commands fault p.1 few (rw n at e))
before_others (line ∷ before) others number room commands fault (inr (command, cs, is, says, said)) few e =
    let size : length commands ≡ suc (length cs) = ap length is in
    let some = some_room room (omega (arith, size, few)) in
    let n : number + suc (length before) ≡ number + 1 + length before = omega arith in
    let r : room - length commands ≡ room - 1 - length cs = omega arith in
    let rest = before_others before others (number + 1) (room - 1) cs fault said (omega (arith, size, few)) (rw (n, r) at e) in
    rw (says, some, rest) refl

bad_back : (lines : List (List ℕ)) (number room at column : ℕ) (line : List ℕ) (commands : List Command)
    → At lines number room at line commands → meaning line ≡ Faulty column → read_from number room lines ≡ Err (faults.Bad at column)
bad_back lines number room at column line commands a f =
    rw a.parts
    (before_others a.before (line ∷ a.after) number room commands (faults.Bad at column) a.said a.few (rw (f, a.counted) refl))

many_back : (lines : List (List ℕ)) (number room at : ℕ) (line : List ℕ) (commands : List Command) (command : Command)
    → At lines number room at line commands → length commands ≡ room → meaning line ≡ Says command
    → read_from number room lines ≡ Err (faults.TooMany at)
many_back lines number room at line commands command a full f =
    let none : room - length commands ≡ 0 = omega arith in
    rw a.parts
    (before_others a.before (line ∷ a.after) number room commands (faults.TooMany at) a.said a.few (rw (f, none, a.counted) refl))

-- ---- whole scripts

long_test : (bytes : List ℕ) → length bytes ≤ MAX_SCRIPT_LENGTH → nat_lt MAX_SCRIPT_LENGTH (length bytes) ≡ false
long_test bytes short = le-ltb _ _ short

whole_ok : (bytes : List ℕ) (commands : List Command) → script_of bytes ≡ Ok commands → IsScript bytes commands
whole_ok bytes commands e =
    elim (decide (nat_lt MAX_SCRIPT_LENGTH (length bytes))) [
      | inl long ↦ absurd (refused faults.TooLong commands (rw long at e))
      | inr short ↦
          let g = goods (lines_of bytes) 1 MAX_COMMANDS commands (rw short at e) in
          record { short = ltb-false _ _ short; said = g.said; few = g.few }
    ]

ok_whole : (bytes : List ℕ) (commands : List Command) → IsScript bytes commands → script_of bytes ≡ Ok commands
ok_whole bytes commands is = rw (long_test bytes is.short) (goods_back (lines_of bytes) 1 MAX_COMMANDS commands is.said is.few)

too_long_apart : (number column : ℕ) → faults.TooLong ≡ faults.Bad number column → ⊥
too_long_apart number column e = cc

too_long_many : (number : ℕ) → faults.TooLong ≡ faults.TooMany number → ⊥
too_long_many number e = cc

whole_bad : (bytes : List ℕ) (number column : ℕ) → script_of bytes ≡ Err (faults.Bad number column) → IsBad bytes number column
whole_bad bytes number column e =
    elim (decide (nat_lt MAX_SCRIPT_LENGTH (length bytes))) [
      | inl long ↦ absurd (too_long_apart number column (fault_same faults.TooLong (faults.Bad number column) (rw long at e)))
      | inr short ↦
          let f = faulty (lines_of bytes) 1 MAX_COMMANDS (faults.Bad number column) (rw short at e) in
          record {
            short = ltb-false _ _ short;
            line = f.0;
            commands = f.1;
            comes = record { before = f.2.before; after = f.2.after; parts = f.2.parts; counted = omega (arith, f.2.counted); said = f.2.said };
            few = f.2.few;
            faulty = f.3;
          }
    ]

at_of : (lines : List (List ℕ)) (number : ℕ) (line : List ℕ) (commands : List Command) → Comes lines number line commands
    → length commands ≤ MAX_COMMANDS → At lines 1 MAX_COMMANDS number line commands
at_of lines number line commands c few = record {
  before = c.before;
  after = c.after;
  parts = c.parts;
  counted = omega (arith, c.counted);
  said = c.said;
  few = few;
}

bad_whole : (bytes : List ℕ) (number column : ℕ) → IsBad bytes number column → script_of bytes ≡ Err (faults.Bad number column)
bad_whole bytes number column is =
    rw (long_test bytes is.short)
    (bad_back (lines_of bytes) 1 MAX_COMMANDS number column is.line is.commands (at_of (lines_of bytes) number is.line is.commands is.comes is.few) is.faulty)

whole_many : (bytes : List ℕ) (number : ℕ) → script_of bytes ≡ Err (faults.TooMany number) → HasTooMany bytes number
whole_many bytes number e =
    elim (decide (nat_lt MAX_SCRIPT_LENGTH (length bytes))) [
      | inl long ↦ absurd (too_long_many number (fault_same faults.TooLong (faults.TooMany number) (rw long at e)))
      | inr short ↦
          let f = faulty (lines_of bytes) 1 MAX_COMMANDS (faults.TooMany number) (rw short at e) in
          record {
            short = ltb-false _ _ short;
            line = f.0;
            commands = f.1;
            comes = record { before = f.3.before; after = f.3.after; parts = f.3.parts; counted = omega (arith, f.3.counted); said = f.3.said };
            full = f.4;
            command = f.2;
            says = f.5;
          }
    ]

many_whole : (bytes : List ℕ) (number : ℕ) → HasTooMany bytes number → script_of bytes ≡ Err (faults.TooMany number)
many_whole bytes number is =
    rw (long_test bytes is.short)
    (many_back (lines_of bytes) 1 MAX_COMMANDS number is.line is.commands is.command
    (at_of (lines_of bytes) number is.line is.commands is.comes (omega (arith, is.full))) is.full is.says)

pub scripts_in_words : (bytes : List ℕ) (commands : List Command) → (script_of bytes ≡ Ok commands) ↔ IsScript bytes commands
scripts_in_words bytes commands = (whole_ok bytes commands, ok_whole bytes commands)

pub bad_in_words : (bytes : List ℕ) (number column : ℕ) → (script_of bytes ≡ Err (faults.Bad number column)) ↔ IsBad bytes number column
bad_in_words bytes number column = (whole_bad bytes number column, bad_whole bytes number column)

pub too_many_in_words : (bytes : List ℕ) (number : ℕ) → (script_of bytes ≡ Err (faults.TooMany number)) ↔ HasTooMany bytes number
too_many_in_words bytes number = (whole_many bytes number, many_whole bytes number)
