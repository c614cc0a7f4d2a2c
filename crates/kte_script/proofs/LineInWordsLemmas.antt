-- A line in words: the word of a row, its fields, and nothing more.
use Rattle.std.proofs.Common.{◌≡◌, ◌↔◌, ℕ, Bool, true, false, cond, nat_eq, nat_lt, ◌&&◌, List, [], ◌∷◌, ◌++◌, length, Some, Result, Ok, Err, refl, sym, ap, ◌∙◌, subst, append-nil, arith, inl, inr}
use Rattle.std.specs.Prelude.{not}
use Rattle.std.specs.List.{list_all}
use Rattle.std.specs.Str.{bytes_eq}
use Rattle.std.proofs.lemmas.Bool.{and_parts, ltb-true}
use Rattle.std.proofs.lemmas.Bool.Decides.{nat_tests}
use Rattle.std.proofs.lemmas.Slice.Eq.{bytes_eq-Decides}
use Rattle.kte_command.specs.declared.command.Command.{Command}
use Rattle.kte_script.specs.declared.limits.Limits.TheVariants.{Script}
use Rattle.kte_script.specs.Words.{is_space, is_other, skip}
use Rattle.kte_script.specs.Fields.{Reading, ◌>>=◌, word_at}
use Rattle.kte_script.specs.Table.{Values, Row, table, row_in}
use Rattle.kte_script.specs.Reading.{read_fields, row_at, front_at, end_at, command_at}
use Rattle.kte_script.specs.InWords.{starts_otherwise, Begins, Misfits, HasFields, FailsFields, IsOneOf, IsWordOf, HasMore, IsCommandLine, IsFaultyLine}
use Rattle.kte_script.proofs.AgainLemmas.{IsWord}
use Rattle.kte_script.proofs.ReadsLemmas.{Reads, word_reads, meaning_front, spaces_of, skipped, starts-skip, skip-spaces, bind_ok, bind_err, done_same}
use Rattle.kte_script.proofs.FieldInWordsLemmas.{given, some_same, nothing, fields_reads}

-- ---- rows

pub row_sound : {A : Type 0} (rows : List (Row A)) (w : List ℕ) (row : Row A) → row_in rows w ≡ Some row
    → IsOneOf rows row × (w ≡ row.word)
row_sound {A} [] w row e = nothing {A = Row A} row e
row_sound {A} (first ∷ rows) w row e =
    elim (given w first.word first (row_in rows w) row e) [
      | inl p ↦
          let is : first ≡ row = some_same {A = Row A} first row p.1 in
          (inl (sym is), p.0 ∙ ap (λ (r : Row A). r.word) is)
      | inr e ↦
          let p = row_sound rows w row e in
          (inr p.0, p.1)
    ]

-- no row has this word
abbrev is_new : {A : Type 0} → List (Row A) → List ℕ → Bool
is_new [] w = true
is_new (row ∷ rows) w = not (bytes_eq row.word w) && is_new rows w

-- each row has a word, and no other row has it
abbrev are_apart : {A : Type 0} → List (Row A) → Bool
are_apart [] = true
are_apart (row ∷ rows) =
    nat_lt 0 (length row.word) && list_all is_other row.word && is_new rows row.word && are_apart rows

not_so : (b : Bool) → not b ≡ true → b ≡ false
not_so true e = absurd cc
not_so false e = refl

other_word : {A : Type 0} (rows : List (Row A)) (row : Row A) (w : List ℕ) → IsOneOf rows row → is_new rows w ≡ true
    → bytes_eq row.word w ≡ false
other_word [] row w is h = absurd is
other_word (first ∷ rows) row w (inl e) h =
    rw e (not_so (bytes_eq first.word w) (and_parts (not (bytes_eq first.word w)) (is_new rows w) h).0)
other_word (first ∷ rows) row w (inr is) h =
    other_word rows row w is (and_parts (not (bytes_eq first.word w)) (is_new rows w) h).1

-- a row is found by its word
row_found : {A : Type 0} (rows : List (Row A)) (row : Row A) → IsOneOf rows row → are_apart rows ≡ true
    → IsWord row.word × (row_in rows row.word ≡ Some row)
row_found [] row is h = absurd is
row_found (first ∷ rows) row (inl e) h =
    let p = and_parts (nat_lt 0 (length first.word) && list_all is_other first.word && is_new rows first.word) (are_apart rows) h in
    let q = and_parts (nat_lt 0 (length first.word) && list_all is_other first.word) (is_new rows first.word) p.0 in
    let r = and_parts (nat_lt 0 (length first.word)) (list_all is_other first.word) q.0 in
    rw (e, (bytes_eq-Decides first.word first.word).1 refl) (record { some = ltb-true _ _ r.0; whole = r.1 }, refl)
row_found (first ∷ rows) row (inr is) h =
    let p = and_parts (nat_lt 0 (length first.word) && list_all is_other first.word && is_new rows first.word) (are_apart rows) h in
    let q = and_parts (nat_lt 0 (length first.word) && list_all is_other first.word) (is_new rows first.word) p.0 in
    let later = row_found rows row is p.1 in
    (later.0, rw (other_word rows row first.word is q.1) later.1)

row_full : (w : List ℕ) (row : Row Command) → IsWordOf row w → IsWord w × (row_in table w ≡ Some row)
row_full w row is = rw is.1 (row_found table row is.0 refl)

word_of_row_reads : Reads (λ row. Begins (IsWordOf row)) (Misfits IsWordOf) (word_at (row_in table))
word_of_row_reads = word_reads IsWordOf _ (meaning_front IsWordOf (row_in table) (row_sound table) row_full)

-- ---- the end of a line

abbrev end_of : List ℕ → Result (Unit {0}) ℕ
end_of s = cond (nat_eq (length s) 0) (Ok tt) (Err (length s))

some_length : (byte : ℕ) (s : List ℕ) → nat_eq (length (byte ∷ s)) 0 ≡ false
some_length byte s = grind (arith, nat_tests)

abbrev unit_ok : Result (Unit {0}) ℕ
unit_ok = Ok tt

abbrev unit_err : ℕ → Result (Unit {0}) ℕ
unit_err n = Err n

apart : (n : ℕ) → unit_err n ≡ unit_ok → ⊥
apart n e = cc

same_err : (m n : ℕ) → unit_err m ≡ unit_err n → n ≡ m
same_err m n e = cc

over_of : (s bytes spaces : List ℕ) → bytes ≡ spaces ++ s → list_all is_space spaces ≡ true
    → end_of s ≡ unit_ok → list_all is_space bytes ≡ true
over_of [] bytes spaces parts only e = rw (parts, append-nil spaces) only
over_of (byte ∷ s) bytes spaces parts only e = absurd (apart (length (byte ∷ s)) (rw (some_length byte s) at e))

more_of : (s bytes spaces : List ℕ) (left : ℕ) → bytes ≡ spaces ++ s → list_all is_space spaces ≡ true
    → starts_otherwise s ≡ true → end_of s ≡ unit_err left → HasMore bytes left
more_of [] bytes spaces left parts only first e = absurd (apart left (sym e))
more_of (byte ∷ s) bytes spaces left parts only first e = record {
  spaces = spaces;
  byte = byte;
  others = s;
  parts = parts;
  only = only;
  first = first;
  count = same_err (length (byte ∷ s)) left (rw (some_length byte s) at e);
}

end_over : (bytes : List ℕ) → end_at bytes ≡ unit_ok → list_all is_space bytes ≡ true
unfolding end_at
end_over bytes e = over_of (skip bytes) bytes _ (skipped bytes) (spaces_of bytes) e

end_more : (bytes : List ℕ) (left : ℕ) → end_at bytes ≡ unit_err left → HasMore bytes left
unfolding end_at
end_more bytes left e = more_of (skip bytes) bytes _ left (skipped bytes) (spaces_of bytes) (starts-skip bytes) e

over_end : (bytes : List ℕ) → list_all is_space bytes ≡ true → end_at bytes ≡ unit_ok
unfolding end_at
over_end bytes h =
    let none : skip bytes ≡ [] = ap skip (sym (append-nil bytes)) ∙ skip-spaces bytes [] h refl in
    rw none refl

more_end : (bytes : List ℕ) (left : ℕ) → HasMore bytes left → end_at bytes ≡ unit_err left
unfolding end_at
more_end bytes left m =
    let some : skip bytes ≡ m.byte ∷ m.others = ap skip m.parts ∙ skip-spaces m.spaces (m.byte ∷ m.others) m.only m.first in
    rw (some, some_length m.byte m.others, m.count) refl

-- ---- a whole line

abbrev pub HasRow : Row Command → List ℕ → Command → List ℕ → Type 0
HasRow row after command end = (values : Values row.kinds) × HasFields Script row.kinds values after end × (command ≡ row.make values)

row_takes : (row : Row Command) (after : List ℕ) (command : Command) (end : List ℕ) → row_at Script row after ≡ Ok (command, end)
    → HasRow row after command end
unfolding row_at
row_takes row after command end e =
    let p = bind_ok (read_fields Script row.kinds after) (λ values. Ok (row.make values.0, values.1)) (command, end) e in
    let is : (row.make p.0.0, p.0.1) ≡ (command, end) = done_same {A = Command × List ℕ} (row.make p.0.0, p.0.1) (command, end) p.2 in
    let rest : p.0.1 ≡ end = ap (λ (z : Command × List ℕ). z.1) is in
    (p.0.0, subst (HasFields Script row.kinds p.0.0 after) rest ((fields_reads Script row.kinds).takes after p.0.0 p.0.1 p.1), sym (ap (λ (z : Command × List ℕ). z.0) is))

row_gives : (row : Row Command) (after : List ℕ) (values : Values row.kinds) (end : List ℕ) → HasFields Script row.kinds values after end
    → row_at Script row after ≡ Ok (row.make values, end)
unfolding row_at
row_gives row after values end h = rw ((fields_reads Script row.kinds).gives after values end h) refl

abbrev done_pair : Command × List ℕ → Reading Command
done_pair pair = Ok pair

abbrev done_command : Command → Result Command ℕ
done_command command = Ok command

command_ok : (command : Command) (left : ℕ) → done_command command ≡ Err left → ⊥
command_ok command left e = cc

pair_ok : (pair : Command × List ℕ) (left : ℕ) → done_pair pair ≡ Err left → ⊥
pair_ok pair left e = cc

row_stops : (row : Row Command) (after : List ℕ) (left : ℕ) → row_at Script row after ≡ Err left → FailsFields Script row.kinds after left
unfolding row_at
row_stops row after left e =
    elim (bind_err (read_fields Script row.kinds after) (λ values. Ok (row.make values.0, values.1)) left e) [
      | inl f ↦ (fields_reads Script row.kinds).stops after left f
      | inr p ↦ absurd (pair_ok (row.make p.0.0, p.0.1) left p.2)
    ]

row_misses : (row : Row Command) (after : List ℕ) (left : ℕ) → FailsFields Script row.kinds after left → row_at Script row after ≡ Err left
unfolding row_at
row_misses row after left f = rw ((fields_reads Script row.kinds).misses after left f) refl

line_takes : (line : List ℕ) (command : Command) → command_at line ≡ Ok command → IsCommandLine line command
unfolding command_at front_at
line_takes line command e =
    let p = bind_ok (word_at (row_in table) line >>= λ row. row_at Script row.0 row.1) (λ found. end_at found.1 >>= λ _. Ok found.0) command e in
    let q = bind_ok (end_at p.0.1) (λ _. Ok p.0.0) command p.2 in
    let is : p.0.0 ≡ command = done_same {A = Command} p.0.0 command q.2 in
    let w = bind_ok (word_at (row_in table) line) (λ row. row_at Script row.0 row.1) p.0 p.1 in
    let r = row_takes w.0.0 w.0.1 p.0.0 p.0.1 w.2 in
    record {
      row = w.0.0;
      values = r.0;
      after = w.0.1;
      end = p.0.1;
      named = word_of_row_reads.takes line w.0.0 w.0.1 w.1;
      has = r.1;
      over = end_over p.0.1 q.1;
      made = sym is ∙ r.2;
    }

line_gives : (line : List ℕ) (command : Command) → IsCommandLine line command → command_at line ≡ Ok command
unfolding command_at front_at
line_gives line command is =
    let named = word_of_row_reads.gives line is.row is.after is.named in
    let row = row_gives is.row is.after is.values is.end is.has in
    let over = over_end is.end is.over in
    rw (named, row, over, is.made) refl

line_stops : (line : List ℕ) (left : ℕ) → command_at line ≡ Err left → IsFaultyLine line left
unfolding command_at front_at
line_stops line left e =
    elim (bind_err (word_at (row_in table) line >>= λ row. row_at Script row.0 row.1) (λ found. end_at found.1 >>= λ _. Ok found.0) left e) [
      | inl f ↦ elim (bind_err (word_at (row_in table) line) (λ row. row_at Script row.0 row.1) left f) [
        | inl g ↦ inl (word_of_row_reads.stops line left g)
        | inr w ↦ inr (w.0.0, w.0.1, word_of_row_reads.takes line w.0.0 w.0.1 w.1, inl (row_stops w.0.0 w.0.1 left w.2))
      ]
      | inr p ↦
          let w = bind_ok (word_at (row_in table) line) (λ row. row_at Script row.0 row.1) p.0 p.1 in
          let r = row_takes w.0.0 w.0.1 p.0.0 p.0.1 w.2 in
          elim (bind_err (end_at p.0.1) (λ _. Ok p.0.0) left p.2) [
            | inl g ↦ inr (w.0.0, w.0.1, word_of_row_reads.takes line w.0.0 w.0.1 w.1, inr (r.0, p.0.1, r.1, end_more p.0.1 left g))
            | inr q ↦ absurd (command_ok p.0.0 left q.2)
          ]
    ]

line_misses : (line : List ℕ) (left : ℕ) → IsFaultyLine line left → command_at line ≡ Err left
unfolding command_at front_at
line_misses line left (inl m) = rw (word_of_row_reads.misses line left m) refl
line_misses line left (inr (row, after, named, inl f)) =
    rw (word_of_row_reads.gives line row after named, row_misses row after left f) refl
line_misses line left (inr (row, after, named, inr (values, end, has, more))) =
    rw (word_of_row_reads.gives line row after named, row_gives row after values end has, more_end end left more) refl

pub commands_in_words : (line : List ℕ) (command : Command) → (command_at line ≡ Ok command) ↔ IsCommandLine line command
commands_in_words line command = (line_takes line command, line_gives line command)

pub faults_in_words : (line : List ℕ) (left : ℕ) → (command_at line ≡ Err left) ↔ IsFaultyLine line left
faults_in_words line left = (line_stops line left, line_misses line left)
