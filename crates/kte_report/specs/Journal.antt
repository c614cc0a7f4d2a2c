-- The text of a journal. This project's own form
use Rattle.std.specs.Prelude.{◌≡◌, ℕ, ◌<◌, ◌≤◌, ◌^◌, ◌⊎◌, true, List, ◌∷◌, ◌++◌, length, map, codes}
use Rattle.std.specs.Fmt.{decimal}
use Rattle.std.specs.List.{AllByRecursion}
use Rattle.kte_core.specs.declared.event.Event.{Event}
use Rattle.kte_report.specs.declared.fault.JournalFault.{JournalFault}
use Rattle.kte_report.specs.declared.fault.JournalFault.TheVariants.{Bad, NoMemory}
use Rattle.kte_report.specs.Lines.{is_in_line, text_of_lines}
use Rattle.kte_report.specs.Faults.{IsBadLine}
use Rattle.kte_report.specs.Events.{event_text, IsHeld}

-- `journal N`
abbrev pub head : ℕ → List ℕ
head count = codes "journal " ++ decimal count

-- the number of events, and then a line for each
abbrev pub journal_lines : List Event → List (List ℕ)
journal_lines events = head (length events) ∷ map event_text events

-- the text of a journal: each of its lines ends by LF
abbrev pub journal_text : List Event → List ℕ
journal_text events = text_of_lines (journal_lines events)

-- events that a journal can hold: the types hold each of them, and their number is below 2^64
pub record AreHeld (events : List Event) : Type 0 where
  pub each : AllByRecursion IsHeld events
  pub few : length events < 2 ^ 64

-- the bytes are the text of a journal
pub record IsJournal (bytes : List ℕ) : Type 0 where
  pub events : List Event
  pub held : AreHeld events
  pub text : bytes ≡ journal_text events

-- the text of a journal begins with these bytes
pub record BeginsJournal (bytes : List ℕ) : Type 0 where
  pub events : List Event
  pub more : List ℕ
  pub held : AreHeld events
  pub text : journal_text events ≡ bytes ++ more

-- The bytes are no journal's text, and the line of this number, from 1, is at fault: it has the
-- first byte that no journal's text has after the bytes before it, or it is the line in which the
-- bytes end too early
pub record IsBadJournal (bytes : List ℕ) (number : ℕ) : Type 0 where
  pub none : ¬ (IsJournal bytes)
  pub bad : IsBadLine BeginsJournal bytes number

-- So far a journal of so many events was read, and these are the first of them
pub record HasRead (bytes rest : List ℕ) (count : ℕ) (events : List Event) : Type 0 where
  pub small : count < 2 ^ 64
  pub few : length events ≤ count
  pub each : AllByRecursion IsHeld events
  pub parts : bytes ≡ text_of_lines (head count ∷ map event_text events) ++ rest

-- the bytes begin with the line of this event, and these follow its end
pub record HasEvent (bytes : List ℕ) (event : Event) (after : List ℕ) : Type 0 where
  pub held : IsHeld event
  pub parts : bytes ≡ event_text event ++ 10 ∷ after

-- the first line of these bytes is no event's, or they end in it
abbrev pub HasNoEvent : List ℕ → Type 0
HasNoEvent bytes =
    (is_in_line bytes ≡ true)
    ⊎ ((line : List ℕ) × (after : List ℕ) × (bytes ≡ line ++ 10 ∷ after) × (is_in_line line ≡ true)
    × ((event : Event) → IsHeld event → ¬ (event_text event ≡ line)))

-- a fault names a line of which this holds, or memory ran out
abbrev pub Names : JournalFault → (ℕ → Type 0) → Type 0
Names (Bad line) P = P line
Names NoMemory P = Unit {0}
