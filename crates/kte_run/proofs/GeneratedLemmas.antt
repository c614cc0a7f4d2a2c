-- A generated script spells commands, each on a line of its own.
use Rattle.std.proofs.Common.{◌≡◌, ℕ, zero, suc, ◌+◌, ◌-◌, ◌*◌, ◌≤◌, ◌<◌, ◌==◌, Bool, true, false, nat_eq, nat_lt, if◌then◌else◌, List, [], ◌∷◌, ◌++◌, length, get_or, set, remove, All, Ok, refl, sym, ap, subst, ◌∙◌, append_assoc, append-nil, length-append, arith, inl, inr, ◌⊎◌}
use Rattle.std.specs.Prelude.{codes}
use Rattle.std.specs.Fmt.{decimal, digits}
use Rattle.std.specs.List.{flat_map, list_all, sum_by}
use Rattle.std.proofs.lemmas.Bool.Decides.{nat_tests}
use Rattle.std.proofs.lemmas.Fmt.{length-decimal-le}
use Rattle.std.proofs.lemmas.List.{length-set, flat_map_more}
use Rattle.std.proofs.lemmas.List.Edits.{length-insert, length-remove}
use Rattle.std.proofs.lemmas.List.Elements.{All-nil, All-cons, All-head, All-tail, All-append, All-weaker}
use Rattle.std.proofs.lemmas.List.Sums.{get_or-le-sum_by}
use Rattle.kte_text.specs.Texts.{IsText}
use Rattle.kte_text.specs.Units.{IsLine, IsPrintable, utf8_of}
use Rattle.kte_text.proofs.LineLemmas.{IsLine-printable}
use Rattle.kte_find.specs.declared.rule.Rule.TheVariants as rules
use Rattle.kte_place.specs.declared.span.Expand.{Expand}
use Rattle.kte_place.specs.declared.span.Empty.{Empty}
use Rattle.kte_place.specs.declared.span.Empty.TheVariants.{Allow, Void}
use Rattle.kte_place.specs.Ends.{SpanIsInReach}
use Rattle.kte_place.specs.Place.{at, is_at_or_before}
use Rattle.kte_place.specs.Span.{ends}
use Rattle.kte_search.specs.declared.query.Query.{Query}
use Rattle.kte_edit.specs.declared.change.Change.TheVariants as Change
use Rattle.kte_command.specs.declared.command.Command.{Command}
use Rattle.kte_command.specs.declared.command.Command.TheVariants.{Edit, MakeRange, Find, Check}
use Rattle.kte_command.specs.Commands.{InRange}
use Rattle.kte_script.specs.declared.limits.Limits.TheVariants.{Script}
use Rattle.kte_script.specs.Fields.{spell_number, spell_place, spell_span, spell_expand, spell_empty}
use Rattle.kte_script.specs.Fields as fields
use Rattle.kte_script.specs.Strings.{spell_byte, spell_text}
use Rattle.kte_script.specs.Spelled.{is_itself}
use Rattle.kte_script.specs.Table.{spelling}
use Rattle.kte_script.specs.Limits.{IsPlace, IsSpan, InLimits}
use Rattle.kte_script.specs.Script.{script_of}
use Rattle.kte_script.proofs.SpellingLemmas.{all_themselves}
use Rattle.kte_script.proofs.ScriptSpelledLemmas.{spelled, spelled_again}
use Rattle.kte_gen.specs.Draws.{next, drawn, skip, letters}
use Rattle.kte_gen.specs.Commands.{Generator, spell_numbers, line_of, room_of, column_of, count_of, wrapped, unwrapped, insertion, wrap, unwrap, removal, expand_word, empty_word, range, command_of, one_more, after_commands}
use Rattle.kte_gen.specs.Commands as generator
use Rattle.kte_gen.proofs.DrawLemmas.{drawn_less}
use Rattle.kte_gen.proofs.KeptLemmas.{Kept, kept_one_more}
use Rattle.kte_report.proofs.Ascii.{lossy-ascii}

decide : (b : Bool) → (b ≡ true) ⊎ (b ≡ false)
decide true = inl refl
decide false = inr refl

-- ---- letters

abbrev IsLetter : ℕ → Type 0
IsLetter byte = (97 ≤ byte) × (byte ≤ 122)

all_letters : (count x : ℕ) → All IsLetter (letters count x)
all_letters zero x = All-nil IsLetter
all_letters (suc count) x =
    let letter : ℕ = drawn 26 (skip (suc count) x) in
    let less : letter < 26 = drawn_less 26 (skip (suc count) x) (omega arith) in
    All-append IsLetter (letters count x) ((97 + letter) ∷ []) (all_letters count x)
    (All-cons IsLetter (97 + letter) [] (omega arith, omega (arith, less)) (All-nil IsLetter))

length_letters : (count x : ℕ) → length (letters count x) ≡ count
length_letters zero x = refl
length_letters (suc count) x =
    omega (arith, length-append (letters count x) ((97 + drawn 26 (skip (suc count) x)) ∷ []), length_letters count x)

letter_low : (byte : ℕ) → IsLetter byte → nat_lt byte 128 ≡ true
letter_low byte is = let le = is.1 in grind (arith, nat_tests, le)

letter_itself : (byte : ℕ) → IsLetter byte → is_itself byte ≡ true
letter_itself byte is = let a = is.0 in let b = is.1 in grind (arith, nat_tests, a, b)

passes : (p : ℕ → Bool) → ((byte : ℕ) → IsLetter byte → p byte ≡ true) → (bytes : List ℕ) → All IsLetter bytes
    → list_all p bytes ≡ true
passes p each [] all = refl
passes p each (byte ∷ bytes) all =
    rw (each byte (All-head IsLetter byte bytes all), passes p each bytes (All-tail IsLetter byte bytes all)) refl

spelled_letters : (word : List ℕ) → All IsLetter word → spell_text (word ∷ []) ≡ 32 ∷ 34 ∷ word ++ 34 ∷ []
unfolding spell_text
spelled_letters word all =
    let same : utf8_of word ≡ word = lossy-ascii word (passes (λ unit. nat_lt unit 128) letter_low word all) in
    let plain : flat_map spell_byte word ≡ word = all_themselves word (passes is_itself letter_itself word all) in
    rw (same, plain) refl

letters_text : (word : List ℕ) → All IsLetter word → length word ≤ 8 → IsText (word ∷ [])
letters_text word all short =
    let printable = All-weaker IsLetter IsPrintable (λ byte is. (omega (arith, is.0), omega (arith, is.1))) word all in
    record {
      whole = All-cons IsLine word [] (IsLine-printable word printable) (All-nil IsLine);
      some = omega arith;
      small = omega (arith, short);
    }

-- ---- places within the limits

abbrev IsSmall : ℕ → Type 0
IsSmall n = n ≤ 800000

small_place : (l c : ℕ) → IsSmall l → IsSmall c → IsPlace Script (at l c)
small_place l c small_l small_c = (omega (arith, small_l), omega (arith, small_c))

in_order : (l c d : ℕ) → c ≤ d → is_at_or_before (at l c) (at l d) ≡ true
in_order l c d le = grind (arith, nat_tests)

small_span : (l c d : ℕ) → IsSmall l → IsSmall d → c ≤ d → IsSpan Script (ends (at l c) (at l d))
small_span l c d small_l small_d le = record {
  start = small_place l c small_l (omega (arith, small_d, le));
  end = small_place l d small_l small_d;
  order = in_order l c d le;
}

small_reach : (l c d : ℕ) → IsSmall l → IsSmall d → c ≤ d → SpanIsInReach (ends (at l c) (at l d))
small_reach l c d small_l small_d le =
    let span = small_span l c d small_l small_d le in
    record { start = span.start; end = span.end }

number_size : (n : ℕ) → IsSmall n → length (decimal n) ≤ 6
number_size n small = length-decimal-le 6 n (omega arith) (omega (arith, small)) (omega (arith, small))

place_size : (l c : ℕ) → IsSmall l → IsSmall c → length (spell_place (at l c)) ≤ 14
place_size l c small_l small_c =
    omega (arith, length-append (spell_number l) (spell_number c), number_size l small_l, number_size c small_c)

span_size : (l c d : ℕ) → IsSmall l → IsSmall c → IsSmall d → length (spell_span (ends (at l c) (at l d))) ≤ 28
span_size l c d small_l small_c small_d =
    omega (
      arith,
      length-append (spell_place (at l c)) (spell_place (at l d)),
      place_size l c small_l small_c,
      place_size l d small_l small_d,
    )

-- ---- one line more

abbrev with_line : List ℕ → Command → List ℕ
with_line script command = script ++ (spelling command ++ 10 ∷ [])

-- the parts are put together from the left in a script, and by fields in a spelling
two_numbers : (script w a b end : List ℕ)
    → script ++ w ++ (a ++ (b ++ [])) ++ end ≡ script ++ ((w ++ ((a ++ b) ++ [])) ++ end)
two_numbers script w a b end = simp (append_assoc, append-nil)

four_numbers : (script w a b c d end : List ℕ)
    → script ++ w ++ (a ++ (b ++ (c ++ (d ++ [])))) ++ end
    ≡ script ++ ((w ++ (((a ++ b) ++ (c ++ d)) ++ [])) ++ end)
four_numbers script w a b c d end = simp (append_assoc, append-nil)

numbers_and_string : (script w a b mark word close end : List ℕ)
    → script ++ w ++ (a ++ (b ++ [])) ++ mark ++ word ++ (close ++ end)
    ≡ script ++ ((w ++ ((a ++ b) ++ ((mark ++ (word ++ close)) ++ []))) ++ end)
numbers_and_string script w a b mark word close end = simp (append_assoc, append-nil)

numbers_and_words : (script w a b c d x y end : List ℕ)
    → script ++ w ++ (a ++ (b ++ (c ++ (d ++ [])))) ++ x ++ (y ++ end)
    ≡ script ++ ((w ++ (((a ++ b) ++ (c ++ d)) ++ (x ++ (y ++ [])))) ++ end)
numbers_and_words script w a b c d x y end = simp (append_assoc, append-nil)

insertion_line : (script : List ℕ) (l c : ℕ) (word : List ℕ) → All IsLetter word
    → script ++ codes "insert" ++ spell_numbers (l ∷ c ∷ []) ++ codes " \"" ++ word ++ codes "\"\n"
    ≡ with_line script (Edit (Change.Insert (at l c) (word ∷ [])))
insertion_line script l c word all =
    rw (spelled_letters word all)
    (numbers_and_string script (codes "insert") (spell_number l) (spell_number c) (32 ∷ 34 ∷ []) word (34 ∷ []) (10 ∷ []))

wrap_line : (script : List ℕ) (l c : ℕ) → script ++ codes "wrap" ++ spell_numbers (l ∷ c ∷ []) ++ codes "\n"
    ≡ with_line script (Edit (Change.Wrap (at l c)))
wrap_line script l c = two_numbers script (codes "wrap") (spell_number l) (spell_number c) (10 ∷ [])

unwrap_line : (script : List ℕ) (l : ℕ) → script ++ codes "unwrap" ++ spell_numbers (l ∷ []) ++ codes "\n"
    ≡ with_line script (Edit (Change.Unwrap l))
unwrap_line script l = simp (append_assoc, append-nil)

removal_line : (script : List ℕ) (l c d : ℕ)
    → script ++ codes "remove" ++ spell_numbers (l ∷ c ∷ l ∷ d ∷ []) ++ codes "\n"
    ≡ with_line script (Edit (Change.Remove (ends (at l c) (at l d))))
removal_line script l c d =
    four_numbers script (codes "remove") (spell_number l) (spell_number c) (spell_number l) (spell_number d) (10 ∷ [])

range_line : (script : List ℕ) (l c d : ℕ) (expand : Expand) (empty : Empty)
    → script ++ codes "range" ++ spell_numbers (l ∷ c ∷ l ∷ d ∷ []) ++ spell_expand expand ++ (spell_empty empty ++ 10 ∷ [])
    ≡ with_line script (MakeRange (ends (at l c) (at l d)) expand empty)
range_line script l c d expand empty =
    numbers_and_words script (codes "range") (spell_number l) (spell_number c) (spell_number l) (spell_number d)
    (spell_expand expand) (spell_empty empty) (10 ∷ [])

-- the words of a range
expanded : (n : ℕ) → (expand : Expand) × (expand_word n ≡ spell_expand expand)
expanded n =
    elim (decide (nat_eq n 0)) [
      | inl e ↦ (record { left = false; right = false }, rw e refl)
      | inr e0 ↦ elim (decide (nat_eq n 1)) [
        | inl e ↦ (record { left = true; right = false }, rw (e0, e) refl)
        | inr e1 ↦ elim (decide (nat_eq n 2)) [
          | inl e ↦ (record { left = false; right = true }, rw (e0, e1, e) refl)
          | inr e2 ↦ (record { left = true; right = true }, rw (e0, e1, e2) refl)
        ]
      ]
    ]

emptied : (n : ℕ) → (empty : Empty) × (empty_word n ≡ spell_empty empty ++ 10 ∷ [])
emptied n =
    elim (decide (nat_eq n 0)) [
      | inl e ↦ (Allow, rw e refl)
      | inr e ↦ (Void, rw e refl)
    ]

expand_size : (left right : Bool) → length (fields.expand_word left right) ≤ 5
expand_size false false = omega arith
expand_size true false = omega arith
expand_size false true = omega arith
expand_size true true = omega arith

empty_size : (empty : Empty) → length (fields.empty_word empty) ≤ 5
empty_size Allow = omega arith
empty_size Void = omega arith

-- ---- one command more

-- lines that are neither none nor too many or too long
record Room (lengths : List ℕ) : Type 0 where
  some : 0 < length lengths
  few : length lengths ≤ 100001
  short : sum_by (λ n. n) lengths ≤ 800000

-- g has the script with one command more, and at most one line more
record IsMore (lengths script : List ℕ) (g : Generator) : Type 0 where
  command : Command
  within : InLimits command
  in_range : InRange command
  parts : g.script ≡ with_line script command
  short : length (spelling command) ≤ 99
  few : length g.lengths ≤ length lengths + 1

either : (lengths script : List ℕ) (test : Bool) (g h : Generator) → (test ≡ true → IsMore lengths script g)
    → (test ≡ false → IsMore lengths script h) → IsMore lengths script (if test then g else h)
either lengths script true g h p q = p refl
either lengths script false g h p q = q refl

line_inside : (x : ℕ) (lengths : List ℕ) → Room lengths → line_of x lengths < length lengths
line_inside x lengths room = drawn_less (length lengths) (next x) room.some

small_line : (x : ℕ) (lengths : List ℕ) → Room lengths → IsSmall (line_of x lengths)
small_line x lengths room = omega (arith, line_inside x lengths room, room.few)

small_room : (x : ℕ) (lengths : List ℕ) → Room lengths → IsSmall (room_of x lengths)
small_room x lengths room =
    omega (arith, get_or-le-sum_by (λ n. n) lengths (line_of x lengths) 0 (line_inside x lengths room), room.short)

column_inside : (x : ℕ) (lengths : List ℕ) → column_of x lengths ≤ room_of x lengths
column_inside x lengths = omega (arith, drawn_less (room_of x lengths + 1) (next (next x)) (omega arith))

small_column : (x : ℕ) (lengths : List ℕ) → Room lengths → IsSmall (column_of x lengths)
small_column x lengths room = omega (arith, column_inside x lengths, small_room x lengths room)

end_inside : (x : ℕ) (lengths : List ℕ) → column_of x lengths + count_of x lengths ≤ room_of x lengths
end_inside x lengths =
    omega (
      arith,
      column_inside x lengths,
      drawn_less (room_of x lengths - column_of x lengths + 1) (next (next (next x))) (omega arith),
    )

small_end : (x : ℕ) (lengths : List ℕ) → Room lengths → IsSmall (column_of x lengths + count_of x lengths)
small_end x lengths room = omega (arith, end_inside x lengths, small_room x lengths room)

insertion_size : (l c : ℕ) (word : List ℕ) → IsSmall l → IsSmall c → All IsLetter word → length word ≤ 8
    → length (spelling (Edit (Change.Insert (at l c) (word ∷ [])))) ≤ 99
insertion_size l c word small_l small_c all short =
    rw (spelled_letters word all)
    (omega (
      arith,
      length-append (spell_place (at l c)) ((32 ∷ 34 ∷ word ++ 34 ∷ []) ++ []),
      length-append (32 ∷ 34 ∷ word ++ 34 ∷ []) [],
      length-append word (34 ∷ []),
      place_size l c small_l small_c,
      short,
    ))

wrap_size : (l c : ℕ) → IsSmall l → IsSmall c → length (spelling (Edit (Change.Wrap (at l c)))) ≤ 99
wrap_size l c small_l small_c =
    omega (arith, length-append (spell_place (at l c)) [], place_size l c small_l small_c)

unwrap_size : (l : ℕ) → IsSmall l → length (spelling (Edit (Change.Unwrap l))) ≤ 99
unwrap_size l small_l = omega (arith, length-append (spell_number l) [], number_size l small_l)

removal_size : (l c d : ℕ) → IsSmall l → IsSmall c → IsSmall d
    → length (spelling (Edit (Change.Remove (ends (at l c) (at l d))))) ≤ 99
removal_size l c d small_l small_c small_d =
    omega (arith, length-append (spell_span (ends (at l c) (at l d))) [], span_size l c d small_l small_c small_d)

range_size : (l c d : ℕ) (expand : Expand) (empty : Empty) → IsSmall l → IsSmall c → IsSmall d
    → length (spelling (MakeRange (ends (at l c) (at l d)) expand empty)) ≤ 99
range_size l c d expand empty small_l small_c small_d =
    omega (
      arith,
      length-append (spell_span (ends (at l c) (at l d))) (spell_expand expand ++ (spell_empty empty ++ [])),
      length-append (spell_expand expand) (spell_empty empty ++ []),
      length-append (spell_empty empty) [],
      span_size l c d small_l small_c small_d,
      expand_size expand.left expand.right,
      empty_size empty,
    )

-- lengths with a line more
length_wrapped : (lengths : List ℕ) (l c : ℕ) → l < length lengths → length (wrapped lengths l c) ≡ length lengths + 1
length_wrapped lengths l c inside =
    omega (
      arith,
      length-set lengths l c,
      length-insert (set lengths l c) (l + 1) (get_or lengths l 0 - c) (omega (arith, length-set lengths l c, inside)),
    )

more_insertion : (x : ℕ) (lengths script : List ℕ) → Room lengths → IsMore lengths script (insertion x lengths script)
unfolding insertion
more_insertion x lengths script room =
    let l : ℕ = line_of x lengths in
    let c : ℕ = column_of x lengths in
    let from : ℕ = next (next (next x)) in
    let count : ℕ = 1 + drawn 8 from in
    let word : List ℕ = letters count from in
    let all = all_letters count from in
    let short : length word ≤ 8 = omega (arith, length_letters count from, drawn_less 8 from (omega arith)) in
    let small_l = small_line x lengths room in
    let small_c = small_column x lengths room in
    record {
      command = Edit (Change.Insert (at l c) (word ∷ []));
      within = (small_place l c small_l small_c, (letters_text word all short, tt));
      in_range = tt;
      parts = insertion_line script l c word all;
      short = insertion_size l c word small_l small_c all short;
      few = omega (arith, length-set lengths l (get_or lengths l 0 + count));
    }

-- a line is wrapped, and the state of the draws is this
more_wrapped : (x l c : ℕ) (lengths script : List ℕ) → l < length lengths → IsSmall l → IsSmall c
    → IsMore lengths script (generator.with_parts x (wrapped lengths l c) (script ++ codes "wrap" ++ spell_numbers (l ∷ c ∷ []) ++ codes "\n"))
more_wrapped x l c lengths script inside small_l small_c = record {
  command = Edit (Change.Wrap (at l c));
  within = (small_place l c small_l small_c, tt);
  in_range = tt;
  parts = wrap_line script l c;
  short = wrap_size l c small_l small_c;
  few = omega (arith, length_wrapped lengths l c inside);
}

more_wrap : (x : ℕ) (lengths script : List ℕ) → Room lengths → IsMore lengths script (wrap x lengths script)
unfolding wrap
more_wrap x lengths script room =
    more_wrapped (next (next x)) (line_of x lengths) (column_of x lengths) lengths script
    (line_inside x lengths room) (small_line x lengths room) (small_column x lengths room)

more_unwrapped : (x l : ℕ) (lengths script : List ℕ) → l < length lengths → IsSmall l
    → IsMore lengths script (generator.with_parts x (unwrapped lengths l) (script ++ codes "unwrap" ++ spell_numbers (l ∷ []) ++ codes "\n"))
more_unwrapped x l lengths script inside small_l = record {
  command = Edit (Change.Unwrap l);
  within = (omega (arith, small_l), tt);
  in_range = tt;
  parts = unwrap_line script l;
  short = unwrap_size l small_l;
  few =
      omega (
        arith,
        length-remove lengths l inside,
        length-set (remove lengths l) (l - 1) (get_or lengths (l - 1) 0 + get_or lengths l 0),
      );
}

more_unwrap : (x : ℕ) (lengths script : List ℕ) → Room lengths → IsMore lengths script (unwrap x lengths script)
unfolding unwrap
more_unwrap x lengths script room =
    either lengths script (length lengths == 1) _ _
    (λ is. more_wrapped x 0 0 lengths script room.some (omega arith) (omega arith))
    (λ no.
    let some = room.some in
    let more : 1 < length lengths = grind (arith, nat_tests, some, no) in
    let inside : 1 + drawn (length lengths - 1) (next x) < length lengths =
    omega (arith, drawn_less (length lengths - 1) (next x) (omega (arith, more)), more) in
    more_unwrapped (next x) (1 + drawn (length lengths - 1) (next x)) lengths script inside (omega (arith, inside, room.few)))

more_removal : (x : ℕ) (lengths script : List ℕ) → Room lengths → IsMore lengths script (removal x lengths script)
unfolding removal
more_removal x lengths script room =
    let l : ℕ = line_of x lengths in
    let c : ℕ = column_of x lengths in
    let count : ℕ = count_of x lengths in
    let small_l = small_line x lengths room in
    let small_c = small_column x lengths room in
    let small_d = small_end x lengths room in
    record {
      command = Edit (Change.Remove (ends (at l c) (at l (c + count))));
      within = (small_span l c (c + count) small_l small_d (omega arith), tt);
      in_range = tt;
      parts = removal_line script l c (c + count);
      short = removal_size l c (c + count) small_l small_c small_d;
      few = omega (arith, length-set lengths l (get_or lengths l 0 - count));
    }

more_range : (x : ℕ) (lengths script : List ℕ) → Room lengths → IsMore lengths script (range x lengths script)
unfolding range
more_range x lengths script room =
    let l : ℕ = line_of x lengths in
    let c : ℕ = column_of x lengths in
    let d : ℕ = c + count_of x lengths in
    let after : ℕ = next (next (next (next x))) in
    let expand = expanded (drawn 4 after) in
    let empty = emptied (drawn 2 (next after)) in
    let small_l = small_line x lengths room in
    let small_c = small_column x lengths room in
    let small_d = small_end x lengths room in
    record {
      command = MakeRange (ends (at l c) (at l d)) expand.0 empty.0;
      within = (small_span l c d small_l small_d (omega arith), (tt, (tt, tt)));
      in_range = small_reach l c d small_l small_d (omega arith);
      parts = rw (expand.1, empty.1) (range_line script l c d expand.0 empty.0);
      short = range_size l c d expand.0 empty.0 small_l small_c small_d;
      few = omega arith;
    }

more_check : (x : ℕ) (lengths script : List ℕ)
    → IsMore lengths script (generator.with_parts x lengths (script ++ codes "check repeat\n"))
more_check x lengths script = record {
  command = Check rules.Repeat;
  within = (tt, tt);
  in_range = tt;
  parts = refl;
  short = omega arith;
  few = omega arith;
}

-- a search for `a`
abbrev a_query : Query
a_query = record { pattern = 97 ∷ []; fold_case = false; whole = false }

letter_a : All IsLetter (97 ∷ [])
letter_a = All-cons IsLetter 97 [] (omega arith, omega arith) (All-nil IsLetter)

a_line : IsLine (97 ∷ [])
a_line = IsLine-printable (97 ∷ []) (All-cons IsPrintable 97 [] (omega arith, omega arith) (All-nil IsPrintable))

find_spelling : spelling (Find (at 0 0) a_query) ≡ codes "find 0 0 \"a\" case part"
unfolding digits
find_spelling = rw (spelled_letters (97 ∷ []) letter_a) refl

more_find : (x : ℕ) (lengths script : List ℕ)
    → IsMore lengths script (generator.with_parts x lengths (script ++ codes "find 0 0 \"a\" case part\n"))
more_find x lengths script = record {
  command = Find (at 0 0) a_query;
  within = (small_place 0 0 (omega arith) (omega arith), (record { whole = a_line; some = omega arith }, tt));
  in_range = (small_place 0 0 (omega arith) (omega arith), omega arith);
  parts = ap (λ (line : List ℕ). script ++ (line ++ 10 ∷ [])) (sym find_spelling);
  short = subst (λ (line : List ℕ). length line ≤ 99) (sym find_spelling) (omega arith);
  few = omega arith;
}

more_command : (k x : ℕ) (lengths script : List ℕ) → Room lengths → IsMore lengths script (command_of k x lengths script)
more_command k x lengths script room =
    either lengths script (nat_lt k 8) _ _ (λ _. more_insertion x lengths script room) λ _.
    either lengths script (nat_lt k 10) _ _ (λ _. more_wrap x lengths script room) λ _.
    either lengths script (k == 10) _ _ (λ _. more_unwrap x lengths script room) λ _.
    either lengths script (nat_lt k 13) _ _ (λ _. more_removal x lengths script room) λ _.
    either lengths script (k == 13) _ _ (λ _. more_range x lengths script room) λ _.
    either lengths script (k == 14) _ _ (λ _. more_check x lengths script) λ _. more_find x lengths script

more : (g : Generator) → Room g.lengths → IsMore g.lengths g.script (one_more g)
unfolding one_more
more g room = more_command (drawn 16 (next g.x)) (next g.x) g.lengths g.script room

-- ---- all commands

-- the script of a generator after so many commands
record IsSpelled (count : ℕ) (g : Generator) : Type 0 where
  commands : List Command
  within : All InLimits commands
  in_range : All InRange commands
  counted : length commands ≡ count
  parts : g.script ≡ spelled commands
  short : length g.script ≤ 100 * count
  kept : Kept (8 * count) g.lengths
  few : length g.lengths ≤ count + 1

spelled_more : (count : ℕ) (g : Generator) → count < 100000 → IsSpelled count g → IsSpelled (suc count) (one_more g)
spelled_more count g less s =
    let room : Room g.lengths = record { some = s.kept.0; few = omega (arith, s.few, less); short = omega (arith, s.kept.1, less) } in
    let m = more g room in
    let kept = kept_one_more (8 * count) g s.kept in
    record {
      commands = s.commands ++ m.command ∷ [];
      within = All-append InLimits s.commands (m.command ∷ []) s.within (All-cons InLimits m.command [] m.within (All-nil InLimits));
      in_range = All-append InRange s.commands (m.command ∷ []) s.in_range (All-cons InRange m.command [] m.in_range (All-nil InRange));
      counted = omega (arith, length-append s.commands (m.command ∷ []), s.counted);
      parts =
          m.parts ∙ ap (λ (front : List ℕ). front ++ (spelling m.command ++ 10 ∷ [])) s.parts
          ∙ flat_map_more (λ (command : Command). spelling command ++ 10 ∷ []) [] s.commands m.command;
      short =
          omega (
            arith,
            ap length m.parts,
            length-append g.script (spelling m.command ++ 10 ∷ []),
            length-append (spelling m.command) (10 ∷ []),
            m.short,
            s.short,
          );
      kept = (kept.0, omega (arith, kept.1));
      few = omega (arith, m.few, s.few);
    }

all_spelled : (number count : ℕ) → count ≤ 100000 → IsSpelled count (after_commands number count)
unfolding after_commands
all_spelled number zero le = record {
  commands = [];
  within = All-nil InLimits;
  in_range = All-nil InRange;
  counted = refl;
  parts = refl;
  short = omega arith;
  kept = (omega arith, omega arith);
  few = omega arith;
}
all_spelled number (suc count) le =
    spelled_more count (after_commands number count) (omega (arith, le)) (all_spelled number count (omega (arith, le)))

-- a generated script is read as commands in range, as many as were asked for
pub generated : (number count : ℕ) → 1 ≤ count → count ≤ 100000
    → (commands : List Command) × (script_of (generator.script_of number count) ≡ Ok commands)
    × (All InRange commands) × (length commands ≡ count)
generated number count some most =
    let s = all_spelled number count most in (
      s.commands,
      spelled_again s.commands (generator.script_of number count) s.within (omega (arith, s.counted, most)) s.parts
          (omega (arith, s.short, most)),
      s.in_range,
      s.counted,
    )
