-- Spans, one after another.
use Rattle.std.proofs.Common.{◌≡◌, ℕ, zero, suc, ◌≤◌, ◌<◌, true, false, List, [], ◌∷◌, ◌++◌, length, Ok, Err, refl, sym, ap, ◌∙◌, append_assoc, append-nil, arith}
use Rattle.kte_place.specs.Ends.{Ends}
use Rattle.kte_script.specs.declared.fault.ReadError.{ReadError}
use Rattle.kte_script.specs.declared.fault.ReadError.TheVariants as errors
use Rattle.kte_script.specs.declared.limits.Limits.{Limits}
use Rattle.kte_script.specs.Words.{skip}
use Rattle.kte_script.specs.Fields.{Reading, ◌>>=◌, span_at, starts_number, spans_from}
use Rattle.kte_script.specs.Reading.{Fails}
use Rattle.kte_script.proofs.FieldInWordsLemmas.{up_to, span_reads, span_shorter}

-- these spans, and those that are still read
abbrev pub after_spans : List Ends → Reading (List Ends) → Reading (List Ends)
after_spans front (Ok read) = Ok (front ++ read.0, read.1)
after_spans front (Err left) = Err left

pub at_start : (read : Reading (List Ends)) → after_spans [] read ≡ read
at_start (Ok read) = refl
at_start (Err left) = refl

-- how many may come is no matter, if it is enough
room_of : (limits : Limits) (n m : ℕ) (bytes : List ℕ) (read : Reading (List Ends)) → length bytes ≤ n → length bytes ≤ m
    → spans_from limits n bytes ≡ read → spans_from limits m bytes ≡ read
room_of limits n m bytes (Ok read) p q e =
    (up_to limits m).gives bytes read.0 read.1 q ((up_to limits n).takes bytes read.0 read.1 p e)
room_of limits n m bytes (Err left) p q e = (up_to limits m).misses bytes left q ((up_to limits n).stops bytes left p e)

same_room : (limits : Limits) (n m : ℕ) (bytes : List ℕ) → length bytes ≤ n → length bytes ≤ m
    → spans_from limits m bytes ≡ spans_from limits n bytes
same_room limits n m bytes p q = room_of limits n m bytes (spans_from limits n bytes) p q refl

regroup : (front : List Ends) (span : Ends) (read : Reading (List Ends))
    → after_spans (front ++ span ∷ []) read ≡ after_spans front (read >>= λ others. Ok (span ∷ others.0, others.1))
regroup front span (Ok read) = ap (λ (spans : List Ends). Ok (spans, read.1)) (append_assoc front (span ∷ []) read.0)
regroup front span (Err left) = refl

pub shorter : (limits : Limits) (bytes : List ℕ) (span : Ends) (rest : List ℕ) → span_at limits bytes ≡ Ok (span, rest)
    → length rest < length bytes
shorter limits bytes span rest e = span_shorter limits span bytes rest ((span_reads limits).takes bytes span rest e)

-- one span more
pub more_read : (limits : Limits) (front : List Ends) (bytes : List ℕ) (span : Ends) (rest : List ℕ) (total : Reading (List Ends))
    → starts_number (skip bytes) ≡ true → span_at limits bytes ≡ Ok (span, rest)
    → after_spans front (spans_from limits (length bytes) bytes) ≡ total
    → after_spans (front ++ span ∷ []) (spans_from limits (length rest) rest) ≡ total
more_read limits front bytes span rest total more e so_far =
    let lt = shorter limits bytes span rest e in
    let wide = same_room limits (length bytes) (suc (length bytes)) bytes (omega arith) (omega arith) in
    let later = same_room limits (length rest) (length bytes) rest (omega arith) (omega (arith, lt)) in
    let here : spans_from limits (suc (length bytes)) bytes ≡ (spans_from limits (length rest) rest >>= λ others. Ok (span ∷ others.0, others.1)) = rw (more, e, later) refl in
    regroup front span (spans_from limits (length rest) rest) ∙ ap (after_spans front) (sym here ∙ wide) ∙ so_far

none_read : (limits : Limits) (room : ℕ) (bytes : List ℕ) → starts_number (skip bytes) ≡ false
    → spans_from limits room bytes ≡ Ok ([], bytes)
none_read limits zero bytes none = refl
none_read limits (suc room) bytes none = rw none refl

-- no span is left
pub all_read : (limits : Limits) (front : List Ends) (bytes : List ℕ) (total : Reading (List Ends))
    → starts_number (skip bytes) ≡ false → after_spans front (spans_from limits (length bytes) bytes) ≡ total
    → total ≡ Ok (front, bytes)
all_read limits front bytes total none so_far =
    sym so_far ∙ ap (after_spans front) (none_read limits (length bytes) bytes none)
    ∙ ap (λ (spans : List Ends). Ok (spans, bytes)) (append-nil front)

-- a span is at fault
pub fault_read : (limits : Limits) (front : List Ends) (bytes : List ℕ) (error : ReadError) (total : Reading (List Ends))
    → starts_number (skip bytes) ≡ true → Fails error (span_at limits bytes)
    → after_spans front (spans_from limits (length bytes) bytes) ≡ total → Fails error total
fault_read limits front bytes errors.NoMemory total more e so_far = tt
fault_read limits front bytes (errors.Misfit left) total more e so_far =
    let wide = same_room limits (length bytes) (suc (length bytes)) bytes (omega arith) (omega arith) in
    let here : spans_from limits (suc (length bytes)) bytes ≡ Err left = rw (more, e) refl in
    sym so_far ∙ ap (after_spans front) (sym wide ∙ here)
