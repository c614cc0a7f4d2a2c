-- The parts of a report, one after another.
use Rattle.std.specs.Prelude.{OnErr}
use Rattle.std.proofs.Common.{◌≡◌, ℕ, List, ◌++◌, Result, Ok, Err, length, codes, ap, ◌∙◌, append_assoc}
use Rattle.std.specs.FinMap.{entries}
use Rattle.kte_doc.specs.Documents.{Document}
use Rattle.kte_core.specs.Editing.{text_of, saved_form}
use Rattle.kte_core.specs.State.{State}
use Rattle.kte_core.specs.Shown.{IsOf}
use Rattle.kte_script.specs.Spelled.{Keeps}
use Rattle.kte_report.specs.Report.{number_line, size_lines, group_lines, count_lines, range_lines, hidden_text, hidden_lines, digest_line, text_lines, report, summary}
use Rattle.kte_report.specs.Shown.{shown_lines}
use Rattle.kte_report.proofs.RangeLemmas.{shown}
pub use Rattle.kte_script.proofs.CallerLemmas.{keeps, keeps_three, keeps_four}

-- what was in front of two parts is in front of what comes after them; and of five
pub keeps_two : (old s t a b new : List ℕ) → a ≡ old ++ s → b ≡ a ++ t → Keeps b new → Keeps old new
keeps_two old s t a b new p q h = keeps old s a new p (keeps a t b new q h)

pub keeps_five : (old s t u v w a b c d e new : List ℕ) → a ≡ old ++ s → b ≡ a ++ t → c ≡ b ++ u → d ≡ c ++ v → e ≡ d ++ w
    → Keeps e new → Keeps old new
keeps_five old s t u v w a b c d e new p q r x y h = keeps_four old s t u v a b c d new p q r x (keeps d w e new y h)

-- these lemmas together
pub ruleset keeps_all = (keeps, keeps_two, keeps_three, keeps_four, keeps_five)

-- an error after three parts, four and five leaves what was in front of them
after_err : {E : Type 0} (r : Result (Unit {0}) E) (P : Type 0) → P → OnErr r P
after_err (Ok value) P h = tt
after_err (Err error) P h = h

pub fails_three : {E : Type 0} (r : Result (Unit {0}) E) (old s t u a b c new : List ℕ) → a ≡ old ++ s → b ≡ a ++ t → c ≡ b ++ u
    → Keeps c new → OnErr r (Keeps old new)
fails_three r old s t u a b c new p q w h = after_err r (Keeps old new) (keeps_three old s t u a b c new p q w h)

pub fails_four : {E : Type 0} (r : Result (Unit {0}) E) (old s t u v a b c d new : List ℕ) → a ≡ old ++ s → b ≡ a ++ t → c ≡ b ++ u
    → d ≡ c ++ v → Keeps d new → OnErr r (Keeps old new)
fails_four r old s t u v a b c d new p q w x h = after_err r (Keeps old new) (keeps_four old s t u v a b c d new p q w x h)

pub fails_five : {E : Type 0} (r : Result (Unit {0}) E) (old s t u v w a b c d e new : List ℕ) → a ≡ old ++ s → b ≡ a ++ t → c ≡ b ++ u
    → d ≡ c ++ v → e ≡ d ++ w → Keeps e new → OnErr r (Keeps old new)
fails_five r old s t u v w a b c d e new p q x y z h = after_err r (Keeps old new) (keeps_five old s t u v w a b c d e new p q x y z h)

-- six parts, one after another
pub six_parts : (start s t u v w x a b c d e last : List ℕ) → a ≡ start ++ s → b ≡ a ++ t → c ≡ b ++ u → d ≡ c ++ v → e ≡ d ++ w → last ≡ e ++ x
    → last ≡ start ++ (s ++ t ++ u ++ v ++ w ++ x)
six_parts start s t u v w x a b c d e last p q r y z l = rw (l, z, y, r, q, p) (simp append_assoc)

pub reported : (state : State) (document : Document) (start a b c d e last : List ℕ) → IsOf state document
    → a ≡ start ++ codes "report\n" → b ≡ a ++ count_lines state → c ≡ b ++ shown_lines document.ranges
    → d ≡ c ++ hidden_text (hidden_lines state) → e ≡ d ++ digest_line (saved_form state.editing)
    → last ≡ e ++ text_lines document.text → last ≡ start ++ report state
reported state document start a b c d e last is a_is b_is c_is d_is e_is last_is =
    six_parts start (codes "report\n") (count_lines state) (range_lines state) (hidden_text (hidden_lines state))
    (digest_line (saved_form state.editing)) (text_lines (text_of state.editing)) a b c d e last a_is b_is
    (c_is ∙ ap (λ (ranges : List ℕ). b ++ ranges) (shown state document is)) d_is e_is
    (last_is ∙ ap (λ (text : List (List ℕ)). e ++ text_lines text) is.came.text)

pub summed_up : (state : State) (commands events recovered : ℕ) (start a b c d e last : List ℕ)
    → a ≡ start ++ (number_line (codes "commands") commands ++ number_line (codes "events") events)
    → b ≡ a ++ size_lines state → c ≡ b ++ group_lines state
    → d ≡ c ++ number_line (codes "ranges") (length (entries state.ranges)) → e ≡ d ++ digest_line (saved_form state.editing)
    → last ≡ e ++ number_line (codes "recovered") recovered → last ≡ start ++ summary commands events state recovered
summed_up state commands events recovered start a b c d e last a_is b_is c_is d_is e_is last_is =
    six_parts start (number_line (codes "commands") commands ++ number_line (codes "events") events) (size_lines state)
    (group_lines state) (number_line (codes "ranges") (length (entries state.ranges))) (digest_line (saved_form state.editing))
    (number_line (codes "recovered") recovered) a b c d e last a_is b_is c_is d_is e_is last_is
