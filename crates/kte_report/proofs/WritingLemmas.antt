-- What is appended, one part after another.
use Rattle.std.proofs.Common.{◌≡◌, ℕ, zero, suc, ◌+◌, List, [], ◌∷◌, ◌++◌, Some, map, take, Result, Ok, Err, sym, ap, ◌∙◌, append_assoc, append-nil, add-one}
use Rattle.std.specs.Prelude.{codes, OnOk}
use Rattle.std.specs.declared.alloc.AllocError.{AllocError}
use Rattle.std.specs.Fmt.{decimal}
use Rattle.std.specs.List.{slice_get}
use Rattle.std.proofs.lemmas.List.{map-append}
use Rattle.kte_core.specs.declared.event.Event.{Event}
pub use Rattle.kte_script.proofs.CallerLemmas.{keeps, two_parts, one_field, two_fields}
use Rattle.kte_report.specs.Lines.{text_of_lines}
use Rattle.kte_report.specs.Events.{request_spelling, reply_spelling, event_text}
use Rattle.kte_report.specs.Journal.{head}
use Rattle.kte_report.proofs.LineLemmas.{text-append}

take_suc : (events : List Event) (n : ℕ) (event : Event) → slice_get events n ≡ Some event → take (suc n) events ≡ take n events ++ event ∷ []
take_suc [] n event e = absurd cc
take_suc (x ∷ events) zero event e = let same : x ≡ event = cc in cc
take_suc (x ∷ events) (suc n) event e = ap (λ (xs : List Event). x ∷ xs) (take_suc events n event e)

take_more : (events : List Event) (n : ℕ) (event : Event) → slice_get events n ≡ Some event → take (n + 1) events ≡ take n events ++ event ∷ []
take_more events n event e = rw (add-one n) (take_suc events n event e)

-- the line of one more event
pub one_more : (count : ℕ) (old out new : List ℕ) (events : List Event) (n : ℕ) (event : Event) → slice_get events n ≡ Some event → out ≡ old ++ text_of_lines (head count ∷ map event_text (take n events)) → new ≡ out ++ (event_text event ++ 10 ∷ []) → new ≡ old ++ text_of_lines (head count ∷ map event_text (take (n + 1) events))
one_more count old out new events n event has p q =
    let lines : head count ∷ map event_text (take (n + 1) events) ≡ (head count ∷ map event_text (take n events)) ++ event_text event ∷ [] = ap (λ (xs : List (List ℕ)). head count ∷ xs) (ap (map event_text) (take_more events n event has) ∙ map-append event_text (take n events) (event ∷ [])) in
    let all : text_of_lines (head count ∷ map event_text (take (n + 1) events)) ≡ text_of_lines (head count ∷ map event_text (take n events)) ++ (event_text event ++ 10 ∷ []) =
    ap text_of_lines lines ∙ text-append (head count ∷ map event_text (take n events)) (event_text event ∷ []) ∙ ap (λ (xs : List ℕ). text_of_lines (head count ∷ map event_text (take n events)) ++ xs) (append-nil (event_text event ++ 10 ∷ [])) in
    q ∙ ap (λ (xs : List ℕ). xs ++ (event_text event ++ 10 ∷ [])) p ∙ append_assoc old (text_of_lines (head count ∷ map event_text (take n events))) (event_text event ++ 10 ∷ []) ∙ ap (λ (xs : List ℕ). old ++ xs) (sym all)

-- the seat, the request, ` = ` and the reply
event_parts : (old seat request equals reply a b c d e : List ℕ) → a ≡ old ++ seat → b ≡ a ++ 32 ∷ [] → c ≡ b ++ request → d ≡ c ++ equals → e ≡ d ++ reply → e ≡ old ++ (seat ++ 32 ∷ (request ++ (equals ++ reply)))
event_parts old seat request equals reply a b c d e p q r s t =
    rw (t, s, r, q, p) (simp append_assoc)

pub event_line : (event : Event) (old a b c d e : List ℕ) → a ≡ old ++ decimal event.seat → b ≡ a ++ 32 ∷ [] → c ≡ b ++ request_spelling event.request → d ≡ c ++ codes " = " → e ≡ d ++ reply_spelling event.reply → e ≡ old ++ event_text event
unfolding event_text
event_line event old a b c d e p q r s t = event_parts old (decimal event.seat) (request_spelling event.request) (codes " = ") (reply_spelling event.reply) a b c d e p q r s t

-- what follows from what holds where there is no error
pub then_ok : {P Q : Type 0} (r : Result (Unit {0}) AllocError) → (P → Q) → OnOk r P → OnOk r Q
then_ok (Ok x) f h = f h
then_ok (Err e) f h = tt
