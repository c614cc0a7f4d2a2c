-- A journal has one text, and bytes have one bad line.
use Rattle.std.proofs.Common.{◌≡◌, ℕ, zero, suc, ◌+◌, ◌-◌, ◌<◌, ◌≤◌, ◌^◌, true, false, nat_eq, List, [], ◌∷◌, ◌++◌, length, map, replicate, refl, sym, ap, ◌∙◌, subst, append_assoc, arith, lit<, inl, inr, ◌⊎◌, length-append}
use Rattle.std.specs.Prelude.{codes}
use Rattle.std.specs.Fmt.{decimal}
use Rattle.std.specs.List.{AllByRecursion}
use Rattle.std.proofs.lemmas.List.{append-nil, length-map}
use Rattle.std.proofs.lemmas.Bool.{eqb-true}
use Rattle.std.proofs.lemmas.Fmt.{decimal_injective}
use Rattle.kte_core.specs.declared.event.Event.{Event}
use Rattle.kte_report.specs.declared.fault.JournalFault.{JournalFault}
use Rattle.kte_report.specs.declared.fault.JournalFault.TheVariants.{Bad, NoMemory}
use Rattle.kte_report.specs.Lines.{is_in_line, text_of_lines}
use Rattle.kte_report.specs.Events.{event_text, IsHeld}
use Rattle.kte_report.specs.Journal.{head, journal_lines, journal_text, AreHeld, IsJournal, BeginsJournal, IsBadJournal, HasRead, HasNoEvent, Names}
use Rattle.kte_report.proofs.LineLemmas.{both, decide, InLines, first_line, with_line, cut, text-append, InLines-append}
use Rattle.kte_report.proofs.FaultLemmas.{Closed}
use Rattle.kte_report.proofs.EventLemmas.{event_in_line, one_event, head_in_line, filler, filler_held}

no_lines : (line : List ℕ) (lines : List (List ℕ)) → [] ≡ text_of_lines (line ∷ lines) → ⊥
no_lines [] lines e = cc
no_lines (x ∷ line) lines e = cc

pub events_in_lines : (events : List Event) → AllByRecursion IsHeld events → InLines (map event_text events)
events_in_lines [] held = tt
events_in_lines (event ∷ events) held = (event_in_line event held.0, events_in_lines events held.1)

pub journal_in_lines : (count : ℕ) (events : List Event) → count < 2 ^ 64 → AllByRecursion IsHeld events → InLines (head count ∷ map event_text events)
journal_in_lines count events small held = (head_in_line count small, events_in_lines events held)

same_events : (a b : List Event) → AllByRecursion IsHeld a → AllByRecursion IsHeld b → map event_text a ≡ map event_text b → a ≡ b
same_events [] [] p q e = refl
same_events [] (y ∷ b) p q e = absurd cc
same_events (x ∷ a) [] p q e = absurd cc
same_events (x ∷ a) (y ∷ b) p q e =
    let first : event_text x ≡ event_text y = cc in
    let others : map event_text a ≡ map event_text b = cc in
    let one : x ≡ y = one_event x y p.0 q.0 first in
    let same : a ≡ b = same_events a b p.1 q.1 others in
    cc

nothing_more : (lines : List (List ℕ)) → [] ≡ text_of_lines lines → lines ≡ []
nothing_more [] e = refl
nothing_more (line ∷ lines) e = absurd (no_lines line lines e)

tail_same : (a b : List ℕ) (x y : List (List ℕ)) → a ∷ x ≡ b ∷ y → (a ≡ b) × (x ≡ y)
tail_same a b x y e = (cc, cc)

-- the lines of a journal whose text begins with whole lines
pub cut_journal : (events : List Event) (front : List (List ℕ)) (x : List ℕ) → AreHeld events → InLines front → journal_text events ≡ text_of_lines front ++ x → (others : List (List ℕ)) × (journal_lines events ≡ front ++ others) × (x ≡ text_of_lines others)
cut_journal events front x held p e = cut front (journal_lines events) x p (journal_in_lines (length events) events held.few held.each) e

pub one_journal : (a b : List Event) → AreHeld a → AreHeld b → journal_text a ≡ journal_text b → a ≡ b
one_journal a b p q e =
    let c = cut_journal a (journal_lines b) [] p (journal_in_lines (length b) b q.few q.each) (e ∙ sym (append-nil (journal_text b))) in
    let same : journal_lines a ≡ journal_lines b = c.1 ∙ ap (λ (xs : List (List ℕ)). journal_lines b ++ xs) (nothing_more c.0 c.2) ∙ append-nil (journal_lines b) in
    same_events a b p.each q.each (tail_same (head (length a)) (head (length b)) (map event_text a) (map event_text b) same).1

pub begins_closed : Closed BeginsJournal
begins_closed a b begun = record {
  events = begun.events;
  more = b ++ begun.more;
  held = begun.held;
  text = begun.text ∙ append_assoc a b begun.more;
}

pub begins_empty : BeginsJournal []
begins_empty = record {
  events = [];
  more = journal_text [];
  held = record { each = tt; few = lit< tt };
  text = refl;
}

-- ---- the events so far can be completed

all_filled : (n : ℕ) → AllByRecursion IsHeld (replicate n filler)
all_filled zero = tt
all_filled (suc n) = (filler_held, all_filled n)

all_append : (a b : List Event) → AllByRecursion IsHeld a → AllByRecursion IsHeld b → AllByRecursion IsHeld (a ++ b)
all_append [] b p q = q
all_append (x ∷ a) b p q = (p.0, all_append a b p.1 q)

map_append : (a b : List Event) → map event_text (a ++ b) ≡ map event_text a ++ map event_text b
map_append [] b = refl
map_append (x ∷ a) b = ap (λ (xs : List (List ℕ)). event_text x ∷ xs) (map_append a b)

length_replicate : (n : ℕ) → length (replicate n filler) ≡ n
length_replicate zero = refl
length_replicate (suc n) = let h = length_replicate n in omega arith

pub completed : (count : ℕ) (events : List Event) → count < 2 ^ 64 → length events ≤ count → AllByRecursion IsHeld events → BeginsJournal (text_of_lines (head count ∷ map event_text events))
completed count events small few each =
    let rest : List Event = replicate (count - length events) filler in
    let len : length (events ++ rest) ≡ count =
    let h : length (events ++ rest) ≡ length events + length rest = length-append events rest in
    let r : length rest ≡ count - length events = length_replicate (count - length events) in
    omega arith in
    let lines : journal_lines (events ++ rest) ≡ (head count ∷ map event_text events) ++ map event_text rest = rw (len, map_append events rest) refl in
    record {
      events = events ++ rest;
      more = text_of_lines (map event_text rest);
      held = record { each = all_append events rest each (all_filled (count - length events)); few = rw len small };
      text = ap text_of_lines lines ∙ text-append (head count ∷ map event_text events) (map event_text rest);
    }

-- ---- bad lines

-- a line with its end that begins no journal after these lines
stopped : (bytes : List ℕ) (number : ℕ) (before : List (List ℕ)) (line more : List ℕ) → bytes ≡ text_of_lines before ++ (line ++ 10 ∷ more) → number ≡ length before + 1 → InLines (line ∷ before) → BeginsJournal (text_of_lines before) → ¬ (BeginsJournal (text_of_lines before ++ (line ++ 10 ∷ []))) → IsBadJournal bytes number
stopped bytes number before line more parts counted lines begun stops =
    let regroup : text_of_lines before ++ (line ++ 10 ∷ more) ≡ (text_of_lines before ++ (line ++ 10 ∷ [])) ++ more = simp append_assoc in
    record {
      none = λ is. stops (record { events = is.events; more = more; held = is.held; text = sym is.text ∙ parts ∙ regroup });
      bad = record {
        before = before;
        line = line;
        rest = 10 ∷ more;
        parts = parts;
        counted = counted;
        lines = lines;
        begun = begun;
        stops = inr (more, refl, stops);
      };
    }

-- bytes that end in a line
unended : (bytes : List ℕ) (number : ℕ) (before : List (List ℕ)) (line : List ℕ) → bytes ≡ text_of_lines before ++ line → number ≡ length before + 1 → InLines (line ∷ before) → BeginsJournal (text_of_lines before) → ¬ (IsJournal bytes) → IsBadJournal bytes number
unended bytes number before line parts counted lines begun none = record {
  none = none;
  bad = record {
    before = before;
    line = line;
    rest = [];
    parts = parts ∙ ap (λ (xs : List ℕ). text_of_lines before ++ xs) (sym (append-nil line));
    counted = counted;
    lines = lines;
    begun = begun;
    stops = inl refl;
  };
}

end_in : (first more : List ℕ) → is_in_line (first ++ 10 ∷ more) ≡ true → ⊥
end_in [] more p = cc
end_in (x ∷ first) more p = end_in first more (both _ (is_in_line (first ++ 10 ∷ more)) p).1

has_end : (first more line : List ℕ) → is_in_line line ≡ true → line ≡ first ++ 10 ∷ more → ⊥
has_end first more line p e = end_in first more (subst (λ (xs : List ℕ). is_in_line xs ≡ true) e p)

-- what follows whole lines without an end is nothing
in_line_empty : (line : List ℕ) (lines : List (List ℕ)) → is_in_line line ≡ true → line ≡ text_of_lines lines → (line ≡ []) × (lines ≡ [])
in_line_empty line [] p e = (e, refl)
in_line_empty line (first ∷ lines) p e = absurd (has_end first (text_of_lines lines) line p (e ∙ append_assoc first (10 ∷ []) (text_of_lines lines)))

-- ---- the first line

pub bad_first : (bytes line more : List ℕ) → bytes ≡ line ++ 10 ∷ more → is_in_line line ≡ true → ((n : ℕ) → n < 2 ^ 64 → line ≡ head n → ⊥) → IsBadJournal bytes 1
bad_first bytes line more parts p other =
    stopped bytes 1 [] line more parts refl (p, tt) begins_empty (λ begun.
    let whole : head (length begun.events) ++ 10 ∷ text_of_lines (map event_text begun.events) ≡ line ++ 10 ∷ begun.more =
    sym (append_assoc (head (length begun.events)) (10 ∷ []) (text_of_lines (map event_text begun.events))) ∙ begun.text ∙ append_assoc line (10 ∷ []) begun.more in
    let r = first_line (head (length begun.events)) line (text_of_lines (map event_text begun.events)) begun.more (head_in_line (length begun.events) begun.held.few) p whole in
    other (length begun.events) begun.held.few (sym r.0))

pub unended_first : (bytes : List ℕ) → is_in_line bytes ≡ true → IsBadJournal bytes 1
unended_first bytes p =
    unended bytes 1 [] bytes refl refl (p, tt) begins_empty (λ is.
    has_end (head (length is.events)) (text_of_lines (map event_text is.events)) bytes p
    (is.text ∙ append_assoc (head (length is.events)) (10 ∷ []) (text_of_lines (map event_text is.events))))

-- ---- the lines of events

-- the number of lines so far
lines_before : (count : ℕ) (events : List Event) → length (head count ∷ map event_text events) ≡ length events + 1
lines_before count events = let h : length (map event_text events) ≡ length events = length-map events event_text in omega arith

after_word : (x y : List ℕ) → codes "journal " ++ x ≡ codes "journal " ++ y → x ≡ y
after_word x y e = cc

head_same : (count : ℕ) (events : List Event) (lines : List (List ℕ)) → AreHeld events → count < 2 ^ 64 → journal_lines events ≡ head count ∷ lines → (length events ≡ count) × (map event_text events ≡ lines)
head_same count events lines held small e =
    let h = tail_same (head (length events)) (head count) (map event_text events) lines e in
    (decimal_injective (length events) count held.few small (after_word (decimal (length events)) (decimal count) h.0), h.1)

-- some event has this text, if it comes among the lines of these
among : (events : List Event) (before : List (List ℕ)) (line : List ℕ) (others : List (List ℕ)) → AllByRecursion IsHeld events → map event_text events ≡ before ++ line ∷ others → (event : Event) × IsHeld event × (event_text event ≡ line)
among [] [] line others held e = absurd cc
among [] (x ∷ before) line others held e = absurd cc
among (event ∷ events) [] line others held e = (event, held.0, (tail_same (event_text event) line (map event_text events) others e).0)
among (event ∷ events) (x ∷ before) line others held e = among events before line others held.1 (tail_same (event_text event) x (map event_text events) (before ++ line ∷ others) e).1

-- the lines of a journal that begins with what was read, another line and its end
next_line : (bytes rest : List ℕ) (count : ℕ) (read : List Event) → HasRead bytes rest count read → (line : List ℕ) → is_in_line line ≡ true → (begun : BeginsJournal (text_of_lines (head count ∷ map event_text read) ++ (line ++ 10 ∷ []))) → (others : List (List ℕ)) × (length begun.events ≡ count) × (map event_text begun.events ≡ map event_text read ++ line ∷ others)
next_line bytes rest count read has line p begun =
    let before : List (List ℕ) = head count ∷ map event_text read in
    let all : List (List ℕ) = before ++ line ∷ [] in
    let whole : text_of_lines before ++ (line ++ 10 ∷ []) ≡ text_of_lines all = sym (text-append before (line ∷ []) ∙ ap (λ (xs : List ℕ). text_of_lines before ++ xs) (append-nil (line ++ 10 ∷ []))) in
    let inside : InLines all = InLines-append before (line ∷ []) (journal_in_lines count read has.small has.each) (p, tt) in
    let c = cut_journal begun.events all begun.more begun.held inside (begun.text ∙ ap (λ (xs : List ℕ). xs ++ begun.more) whole) in
    let s = head_same count begun.events (map event_text read ++ line ∷ c.0) begun.held has.small (c.1 ∙ append_assoc before (line ∷ []) c.0) in
    (c.0, s.0, s.1)

counted : (count : ℕ) (read : List Event) (number : ℕ) → number ≡ length read + 2 → number ≡ length (head count ∷ map event_text read) + 1
counted count read number e = let h : length (head count ∷ map event_text read) ≡ length read + 1 = lines_before count read in omega arith

-- a line that is no event's
pub bad_event : (bytes rest : List ℕ) (count : ℕ) (read : List Event) → HasRead bytes rest count read → (line more : List ℕ) → rest ≡ line ++ 10 ∷ more → is_in_line line ≡ true → ((event : Event) → IsHeld event → event_text event ≡ line → ⊥) → (number : ℕ) → number ≡ length read + 2 → IsBadJournal bytes number
bad_event bytes rest count read has line more e p other number n =
    let before : List (List ℕ) = head count ∷ map event_text read in
    let inside = journal_in_lines count read has.small has.each in
    stopped bytes number before line more (has.parts ∙ ap (λ (xs : List ℕ). text_of_lines before ++ xs) e) (counted count read number n) (p, inside) (completed count read has.small has.few has.each) (λ begun.
    let next = next_line bytes rest count read has line p begun in
    let a = among begun.events (map event_text read) line next.0 begun.held.each next.2 in
    other a.0 a.1 a.2)

-- a further line after all events
too_many : (bytes rest : List ℕ) (count : ℕ) (read : List Event) → HasRead bytes rest count read → length read ≡ count → (line : List ℕ) → is_in_line line ≡ true → BeginsJournal (text_of_lines (head count ∷ map event_text read) ++ (line ++ 10 ∷ [])) → ⊥
too_many bytes rest count read has full line p begun =
    let next = next_line bytes rest count read has line p begun in
    let a : length (map event_text begun.events) ≡ length begun.events = length-map begun.events event_text in
    let b : length (map event_text read) ≡ length read = length-map read event_text in
    let c : length (map event_text begun.events) ≡ length (map event_text read ++ line ∷ next.0) = ap length next.2 in
    let d : length (map event_text read ++ line ∷ next.0) ≡ length (map event_text read) + length (line ∷ next.0) = length-append (map event_text read) (line ∷ next.0) in
    let f : length begun.events ≡ count = next.1 in
    omega arith

pub bad_after : (bytes rest : List ℕ) (count : ℕ) (read : List Event) → HasRead bytes rest count read → length read ≡ count → (line more : List ℕ) → rest ≡ line ++ 10 ∷ more → is_in_line line ≡ true → (number : ℕ) → number ≡ length read + 2 → IsBadJournal bytes number
bad_after bytes rest count read has full line more e p number n =
    let before : List (List ℕ) = head count ∷ map event_text read in
    let inside = journal_in_lines count read has.small has.each in
    stopped bytes number before line more (has.parts ∙ ap (λ (xs : List ℕ). text_of_lines before ++ xs) e) (counted count read number n) (p, inside) (completed count read has.small has.few has.each) (too_many bytes rest count read has full line p)

-- bytes that end in a line: there are more events, or the line is not empty
pub unended_event : (bytes rest : List ℕ) (count : ℕ) (read : List Event) → HasRead bytes rest count read → is_in_line rest ≡ true → (rest ≡ [] → length read < count) → (number : ℕ) → number ≡ length read + 2 → IsBadJournal bytes number
unended_event bytes rest count read has p fewer number n =
    let before : List (List ℕ) = head count ∷ map event_text read in
    let inside = journal_in_lines count read has.small has.each in
    unended bytes number before rest has.parts (counted count read number n) (p, inside) (completed count read has.small has.few has.each) (λ is.
    let c = cut_journal is.events before rest is.held inside (sym is.text ∙ has.parts) in
    let z = in_line_empty rest c.0 p c.2 in
    let same : journal_lines is.events ≡ before = c.1 ∙ ap (λ (xs : List (List ℕ)). before ++ xs) z.1 ∙ append-nil before in
    let s = head_same count is.events (map event_text read) is.held has.small same in
    let a : length (map event_text is.events) ≡ length is.events = length-map is.events event_text in
    let b : length (map event_text read) ≡ length read = length-map read event_text in
    let l : length (map event_text is.events) ≡ length (map event_text read) = ap length s.1 in
    let f : length is.events ≡ count = s.0 in
    let less : length read < count = fewer z.0 in
    omega arith)

-- ---- what was read

pub read_head : (bytes rest : List ℕ) (count : ℕ) → count < 2 ^ 64 → bytes ≡ head count ++ 10 ∷ rest → HasRead bytes rest count []
read_head bytes rest count small e = record {
  small = small;
  few = omega arith;
  each = tt;
  parts = e ∙ sym (with_line (head count) [] rest);
}

regrouped : (before line more : List ℕ) → before ++ (line ++ 10 ∷ more) ≡ (before ++ ((line ++ 10 ∷ []) ++ [])) ++ more
regrouped before line more = rw append-nil (simp append_assoc)

pub read_event : (bytes rest : List ℕ) (count : ℕ) (read : List Event) → HasRead bytes rest count read → length read < count → (event : Event) (more : List ℕ) → IsHeld event → rest ≡ event_text event ++ 10 ∷ more → HasRead bytes more count (read ++ event ∷ [])
read_event bytes rest count read has fewer event more held e =
    let before : List (List ℕ) = head count ∷ map event_text read in
    let lines : head count ∷ map event_text (read ++ event ∷ []) ≡ before ++ event_text event ∷ [] = ap (λ (xs : List (List ℕ)). head count ∷ xs) (map_append read (event ∷ [])) in
    let all : text_of_lines (head count ∷ map event_text (read ++ event ∷ [])) ≡ text_of_lines before ++ ((event_text event ++ 10 ∷ []) ++ []) = ap text_of_lines lines ∙ text-append before (event_text event ∷ []) in
    let regroup : text_of_lines before ++ (event_text event ++ 10 ∷ more) ≡ (text_of_lines before ++ ((event_text event ++ 10 ∷ []) ++ [])) ++ more = regrouped (text_of_lines before) (event_text event) more in
    let len : length (read ++ event ∷ []) ≡ length read + 1 = length-append read (event ∷ []) in
    record {
      small = has.small;
      few = omega arith;
      each = all_append read (event ∷ []) has.each (held, tt);
      parts = has.parts ∙ ap (λ (xs : List ℕ). text_of_lines before ++ xs) e ∙ regroup ∙ ap (λ (xs : List ℕ). xs ++ more) (sym all);
    }

pub all_read : (bytes : List ℕ) (count : ℕ) (read : List Event) → HasRead bytes [] count read → length read ≡ count → bytes ≡ journal_text read
all_read bytes count read has full = has.parts ∙ append-nil (text_of_lines (head count ∷ map event_text read)) ∙ ap (λ n. text_of_lines (head n ∷ map event_text read)) (sym full)

-- ---- what the reader returns

lines_size : (lines : List (List ℕ)) → length lines ≤ length (text_of_lines lines)
lines_size [] = omega arith
lines_size (line ∷ lines) =
    let a : length (text_of_lines (line ∷ lines)) ≡ length (line ++ 10 ∷ []) + length (text_of_lines lines) = length-append (line ++ 10 ∷ []) (text_of_lines lines) in
    let b : length (line ++ 10 ∷ []) ≡ length line + 1 = length-append line (10 ∷ []) in
    let r : length lines ≤ length (text_of_lines lines) = lines_size lines in
    omega arith

-- each line takes a byte
pub read_size : (bytes rest : List ℕ) (count : ℕ) (read : List Event) → HasRead bytes rest count read → length read + 1 ≤ length bytes
read_size bytes rest count read has =
    let lines : List (List ℕ) = head count ∷ map event_text read in
    let a : length bytes ≡ length (text_of_lines lines) + length rest = ap length has.parts ∙ length-append (text_of_lines lines) rest in
    let b : length lines ≤ length (text_of_lines lines) = lines_size lines in
    let c : length lines ≡ length read + 1 = lines_before count read in
    omega arith

named_line : (bytes rest : List ℕ) (count : ℕ) (read : List Event) → HasRead bytes rest count read → length read < count → HasNoEvent rest → (number : ℕ) → number ≡ length read + 2 → IsBadJournal bytes number
named_line bytes rest count read has fewer (inl p) number n = unended_event bytes rest count read has p (λ nil. fewer) number n
named_line bytes rest count read has fewer (inr f) number n = bad_event bytes rest count read has f.0 f.1 f.2 f.3 f.4 number n

pub names_bad : (bytes rest : List ℕ) (count : ℕ) (read : List Event) → HasRead bytes rest count read → length read < count → (number : ℕ) → number ≡ length read + 2 → (fault : JournalFault) → Names fault (λ line. (line ≡ number) × HasNoEvent rest) → Names fault (IsBadJournal bytes)
names_bad bytes rest count read has fewer number n (Bad line) named = named_line bytes rest count read has fewer named.1 line (named.0 ∙ n)
names_bad bytes rest count read has fewer number n NoMemory named = tt

-- bytes are part of one line, or they begin with a line and its end
pub split_off : (bytes : List ℕ) → (is_in_line bytes ≡ true) ⊎ ((line : List ℕ) × (after : List ℕ) × (bytes ≡ line ++ 10 ∷ after) × (is_in_line line ≡ true))
split_off [] = inl refl
split_off (byte ∷ bytes) = elim (decide (nat_eq byte 10)) [
  | inl e ↦ inr ([], bytes, ap (λ (x : ℕ). x ∷ bytes) (eqb-true byte 10 e), refl)
  | inr e ↦ elim (split_off bytes) [
    | inl p ↦ inl (rw (e, p) refl)
    | inr f ↦ inr (byte ∷ f.0, f.1, ap (λ (xs : List ℕ). byte ∷ xs) f.2, rw (e, f.3) refl)
  ]
]

-- bytes are left after all events
pub left_over : (bytes rest : List ℕ) (count : ℕ) (read : List Event) → HasRead bytes rest count read → length read ≡ count → (rest ≡ [] → ⊥) → (number : ℕ) → number ≡ count + 2 → IsBadJournal bytes number
left_over bytes rest count read has full some number n =
    let m : number ≡ length read + 2 = omega arith in
    elim (split_off rest) [
      | inl p ↦ unended_event bytes rest count read has p (λ nil. absurd (some nil)) number m
      | inr f ↦ bad_after bytes rest count read has full f.0 f.1 f.2 f.3 number m
    ]

pub is_nothing : (rest : List ℕ) → true ≡ nat_eq (length rest) 0 → rest ≡ []
is_nothing [] e = refl
is_nothing (byte ∷ rest) e =
    let none : length (byte ∷ rest) ≡ 0 = eqb-true (length (byte ∷ rest)) 0 (sym e) in
    absurd (omega arith)

pub is_something : (rest : List ℕ) → false ≡ nat_eq (length rest) 0 → rest ≡ [] → ⊥
is_something [] e same = cc
is_something (byte ∷ rest) e same = cc
