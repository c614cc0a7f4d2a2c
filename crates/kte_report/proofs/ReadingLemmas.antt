-- A line that is read is spelled again and compared.
use Rattle.std.proofs.Common.{◌≡◌, ℕ, ◌<◌, ◌^◌, true, false, List, [], ◌∷◌, Ok, Err, refl, sym, ap, ◌∙◌, append-nil, arith, lit<}
use Rattle.std.specs.Prelude.{codes}
use Rattle.std.specs.Fmt.{decimal}
use Rattle.std.specs.Str.{bytes_eq}
use Rattle.std.proofs.lemmas.Slice.Eq.{bytes_eq-Decides}
use Rattle.kte_script.specs.declared.limits.Limits.TheVariants.{Journal}
use Rattle.kte_script.specs.Words.{skip, behind}
use Rattle.kte_script.specs.Fields.{Long, Reading, number_at}
use Rattle.kte_script.proofs.AgainLemmas.{number_again, skip-word, behind-of}
use Rattle.kte_core.specs.declared.event.Event.{Event}
use Rattle.kte_report.specs.Events.{event_text, IsHeld}
use Rattle.kte_report.specs.EventReading.{event_at}
use Rattle.kte_report.specs.Journal.{head}
use Rattle.kte_report.proofs.AgainLemmas.{event_again}
use Rattle.kte_report.proofs.HeldLemmas.{first_same}

clash : {A : Type 0} (r : Reading A) (a : A × List ℕ) (left : ℕ) → r ≡ Ok a → r ≡ Err left → ⊥
clash r a left p q = cc

head_again : (count : ℕ) → count < 2 ^ 64 → number_at Journal Long (behind (skip (head count))) ≡ Ok (count, [])
head_again count small =
    let after : behind (skip (head count)) ≡ 32 ∷ decimal count =
    ap behind (skip-word (codes "journal") (32 ∷ decimal count) (record { some = lit< tt; whole = refl })) ∙ behind-of (codes "journal") (32 ∷ decimal count) refl refl in
    ap (number_at Journal Long) (after ∙ sym (append-nil (32 ∷ decimal count))) ∙ number_again Journal Long count [] (omega arith) refl

-- a first line that is not read tells no number of events
pub no_head : (line after : List ℕ) (left : ℕ) → after ≡ behind (skip line) → number_at Journal Long after ≡ Err left → (count : ℕ) → count < 2 ^ 64 → line ≡ head count → ⊥
no_head line after left a e count small is =
    clash (number_at Journal Long after) (count, []) left (ap (number_at Journal Long) (a ∙ ap (λ (xs : List ℕ). behind (skip xs)) is) ∙ head_again count small) e

-- .. nor does one that is read and spelled otherwise
pub other_head : (line after rest text : List ℕ) (read : ℕ) → after ≡ behind (skip line) → number_at Journal Long after ≡ Ok (read, rest) → text ≡ head read → (text ≡ line → ⊥) → (count : ℕ) → count < 2 ^ 64 → line ≡ head count → ⊥
other_head line after rest text read a e spelled differs count small is =
    let again : number_at Journal Long after ≡ Ok (count, []) = ap (number_at Journal Long) (a ∙ ap (λ (xs : List ℕ). behind (skip xs)) is) ∙ head_again count small in
    let same : read ≡ count = first_same read count rest [] (sym e ∙ again) in
    differs (spelled ∙ ap head same ∙ sym is)

pub no_event : (line : List ℕ) (left : ℕ) → event_at line ≡ Err left → (event : Event) → IsHeld event → event_text event ≡ line → ⊥
no_event line left e event held is = clash (event_at line) (event, []) left (ap event_at (sym is) ∙ event_again event held) e

pub other_event : (line rest text : List ℕ) (read : Event) → event_at line ≡ Ok (read, rest) → text ≡ event_text read → (text ≡ line → ⊥) → (event : Event) → IsHeld event → event_text event ≡ line → ⊥
other_event line rest text read e spelled differs event held is =
    let same : read ≡ event = first_same read event rest [] (sym e ∙ ap event_at (sym is) ∙ event_again event held) in
    differs (spelled ∙ ap event_text same ∙ is)

pub same_bytes : (a b : List ℕ) → true ≡ bytes_eq a b → a ≡ b
same_bytes a b e = (bytes_eq-Decides a b).0 (sym e)

no_test : false ≡ true → ⊥
no_test e = cc

pub other_bytes : (a b : List ℕ) → false ≡ bytes_eq a b → a ≡ b → ⊥
other_bytes a b e same = no_test (e ∙ (bytes_eq-Decides a b).1 same)
