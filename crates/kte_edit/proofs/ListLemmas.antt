-- The text that the primitives of an insertion and of a removal leave.
use Rattle.std.proofs.Common.{◌≡◌, ℕ, zero, suc, ◌+◌, ◌-◌, ◌<◌, ◌≤◌, ◌==◌, false, not, List, [], ◌∷◌, ◌++◌, length, take, drop, sym, refl, ap, ◌∙◌, inl, inr, append_assoc, length-append, append-nil, arith, add-zero, zero-add}
use Rattle.std.proofs.lemmas.Bool.{cases_Bool, eqb-true, eqb-false, ne_eqb}
use Rattle.std.proofs.lemmas.List.{take_at, drop_at, drop_all, length-take-le}
use Rattle.std.proofs.lemmas.List.Elements.{filter-append}
use Rattle.std.specs.Prelude.{Result, Ok, Err}
use Rattle.std.specs.Result.{OnOk}
use Rattle.std.specs.declared.alloc.AllocError.{AllocError}
use Rattle.kte_text.specs.Texts.{line_at}
use Rattle.kte_text.specs.Primitives.{after, after_all, is_empty}
use Rattle.kte_text.specs.declared.primitive.Primitive.{Primitive}
use Rattle.kte_text.specs.declared.primitive.Primitive.TheVariants.{Wrap, Unwrap, Insert, Remove}
use Rattle.kte_text.proofs.PrimitiveLemmas.{after_empty, after_all-append}
use Rattle.kte_text.proofs.FlatLemmas.{set_line}
use Rattle.kte_place.specs.Ends.{Ends}
use Rattle.kte_edit.specs.Steps.{without_empty, further, removed_lines, removal}
use Rattle.kte_text.proofs.AroundLemmas.{wrap_around, insert_around, remove_around, unwrap_around, emptied, take_next}

-- what inserts or removes nothing may be left out
pub after_all-without_empty : (primitives : List Primitive) (text : List (List ℕ))
    → after_all (without_empty primitives) text ≡ after_all primitives text
after_all-without_empty [] text = refl
after_all-without_empty (p ∷ ps) text =
    elim (cases_Bool (is_empty p)) [
      | inl t ↦ rw (t, after_empty p text t) (after_all-without_empty ps text)
      | inr f ↦ rw f (after_all-without_empty ps (after p text))
    ]

pub without_empty-append : (ps qs : List Primitive) → without_empty (ps ++ qs) ≡ without_empty ps ++ without_empty qs
without_empty-append ps qs = filter-append (λ primitive. not (is_empty primitive)) ps qs

-- lines between units before the first and units after the last
abbrev pub held : List ℕ → List (List ℕ) → List ℕ → List (List ℕ)
held units [] rest = (units ++ rest) ∷ []
held units (next ∷ lines) rest = units ∷ held next lines rest

-- one primitive, and then others
pub one_then : (p : Primitive) (ps : List Primitive) (text next last : List (List ℕ)) → after p text ≡ next → after_all ps next ≡ last
    → after_all (p ∷ ps) text ≡ last
one_then p ps text next last first second = ap (after_all ps) first ∙ second

pub after_further : (lines front : List (List ℕ)) (units rest : List ℕ) (back : List (List ℕ)) (n column : ℕ)
    → length front ≡ n → length units ≡ column
    → after_all (further n column lines) (front ++ (units ++ rest) ∷ back) ≡ front ++ held units lines rest ++ back
after_further [] front units rest back n column before is = sym (append_assoc front ((units ++ rest) ∷ []) back)
after_further (next ∷ lines) front units rest back n column before is =
    let wrapped : after (Wrap n column) (front ++ (units ++ rest) ∷ back) ≡ (front ++ units ∷ []) ++ rest ∷ back =
    wrap_around front (units ++ rest) back n column before
    ∙ rw (take_at units rest column is, drop_at units rest column is) (sym (append_assoc front (units ∷ []) (rest ∷ back))) in
    let long : length (front ++ units ∷ []) ≡ n + 1 = omega (arith, length-append front (units ∷ [])) in
    let inserted : after (Insert (n + 1) 0 next) ((front ++ units ∷ []) ++ rest ∷ back) ≡ (front ++ units ∷ []) ++ (next ++ rest) ∷ back =
    insert_around (front ++ units ∷ []) rest back (n + 1) 0 next long in
    one_then (Wrap n column) (Insert (n + 1) 0 next ∷ further (n + 1) (length next) lines) _ _ _ wrapped
    (one_then (Insert (n + 1) 0 next) (further (n + 1) (length next) lines) _ _ _ inserted
    (after_further lines (front ++ units ∷ []) next rest back (n + 1) (length next) long refl
    ∙ simp append_assoc))

-- an insertion leaves its lines between the two parts of the line at its place
pub after_insertion : (lines front : List (List ℕ)) (line : List ℕ) (back : List (List ℕ)) (units : List ℕ) (n column : ℕ)
    → length front ≡ n → column ≤ length line
    → after_all (Insert n column units ∷ further n (column + length units) lines) (front ++ line ∷ back)
    ≡ front ++ held (take column line ++ units) lines (drop column line) ++ back
after_insertion lines front line back units n column before within =
    one_then (Insert n column units) (further n (column + length units) lines) _ _ _ (insert_around front line back n column units before)
    (after_further lines front (take column line ++ units) (drop column line) back n (column + length units) before
    (omega (arith, length-append (take column line) units, length-take-le column line within)))

-- the lines after one line and before what is left of another are taken out
pub after_removed_lines : (text : List (List ℕ)) (rest : List ℕ) (back : List (List ℕ)) (line count : ℕ)
    → line + count < length text
    → after_all (removed_lines text line count) (take (line + count + 1) text ++ rest ∷ back)
    ≡ take (line + 1) text ++ rest ∷ back
after_removed_lines text rest back line zero inside = rw (add-zero line)
after_removed_lines text rest back line (suc count) inside =
    let m = line + suc count in
    let l = line_at text m in
    let front = take m text in
    let before : length front ≡ m = length-take-le m text (omega arith) in
    let first : after (Remove m 0 (length l)) (front ++ l ∷ rest ∷ back) ≡ front ++ [] ∷ rest ∷ back =
    remove_around front l (rest ∷ back) m 0 (length l) before ∙ ap (λ (new : List ℕ). front ++ new ∷ rest ∷ back) (emptied l) in
    let second : after (Unwrap (m + 1)) (front ++ [] ∷ rest ∷ back) ≡ front ++ rest ∷ back = unwrap_around front [] rest back m before in
    let e : m ≡ line + count + 1 = omega arith in
    let ih = after_removed_lines text rest back line count (omega arith) in
    ap (after_all (removed_lines text line (suc count))) (take_next text m (rest ∷ back) inside)
    ∙ one_then (Remove m 0 (length l)) (Unwrap (m + 1) ∷ removed_lines text line count) _ _ _ first
    (one_then (Unwrap (m + 1)) (removed_lines text line count) _ _ _ second
    (ap (λ k. after_all (removed_lines text line count) (take k text ++ rest ∷ back)) e ∙ ih))

-- the front of a line is removed
pub front_removed : (text : List (List ℕ)) (n column : ℕ) → n < length text
    → after (Remove n 0 column) text ≡ take n text ++ drop column (line_at text n) ∷ drop (n + 1) text
front_removed text n column inside =
    rw (zero-add column) (set_line text n (drop column (line_at text n)) inside)

-- the rest of a line is removed, and the next line is joined to it
pub rest_joined : (front : List (List ℕ)) (line rest : List ℕ) (back : List (List ℕ)) (n column : ℕ) → length front ≡ n
    → column ≤ length line
    → after_all (Remove n column (length line - column) ∷ Unwrap (n + 1) ∷ []) (front ++ line ∷ rest ∷ back)
    ≡ front ++ (take column line ++ rest) ∷ back
rest_joined front line rest back n column before within =
    let none : drop (column + (length line - column)) line ≡ [] = drop_all _ line (omega arith) in
    rw (remove_around front line (rest ∷ back) n column (length line - column) before, none, append-nil)
    (unwrap_around front (take column line) rest back n before)

-- first some lines, then the others
in_turn : (ps qs : List Primitive) (text next last : List (List ℕ)) → after_all ps text ≡ next → after_all qs next ≡ last
    → after_all (ps ++ qs) text ≡ last
in_turn ps qs text next last first second = after_all-append ps qs text ∙ ap (after_all qs) first ∙ second

-- a removal leaves the front of its first line and the rest of its last
pub after_removal : (span : Ends) (text : List (List ℕ)) → span.start.line ≤ span.end.line → span.end.line < length text
    → (span.start.line ≡ span.end.line → span.start.column ≤ span.end.column)
    → span.start.column ≤ length (line_at text span.start.line)
    → after_all (removal span text) text
    ≡ take span.start.line text
    ++ (take span.start.column (line_at text span.start.line) ++ drop span.end.column (line_at text span.end.line))
    ∷ drop (span.end.line + 1) text
after_removal span text order inside columns within =
    let a = span.start.line in
    let b = span.end.line in
    let c = span.start.column in
    elim (cases_Bool (a == b)) [
      | inl t ↦
          let same : a ≡ b = eqb-true a b t in
          let e : c + (span.end.column - c) ≡ span.end.column = let h = columns same in omega arith in
          rw (t, ← same, e) (set_line text a (take c (line_at text a) ++ drop span.end.column (line_at text a)) (omega arith))
      | inr f ↦
          let apart = eqb-false a b f in
          let count = b - a - 1 in
          let rest = drop span.end.column (line_at text b) in
          let back = drop (b + 1) text in
          let e : b ≡ a + count + 1 = omega arith in
          let between : after_all (removed_lines text a count) (take b text ++ rest ∷ back) ≡ take a text ++ line_at text a ∷ rest ∷ back =
          ap (λ n. after_all (removed_lines text a count) (take n text ++ rest ∷ back)) e
          ∙ after_removed_lines text rest back a count (omega arith)
          ∙ take_next text a (rest ∷ back) (omega arith) in
          let joined = Remove a c (length (line_at text a) - c) ∷ Unwrap (a + 1) ∷ [] in
          let last = rest_joined (take a text) (line_at text a) rest back a c (length-take-le a text (omega arith)) within in
          rw f
          (one_then (Remove b 0 span.end.column) (removed_lines text a count ++ joined) _ _ _ (front_removed text b span.end.column inside)
          (in_turn (removed_lines text a count) joined (take b text ++ rest ∷ back) _ _ between last))
    ]

-- the removal of the lines before one begins with the line just before it
pub removed_next : (text : List (List ℕ)) (first line next long : ℕ) → first < line → next ≡ line + 1 → long ≡ length (line_at text line)
    → without_empty (removed_lines text first (next - first - 1))
    ≡ without_empty (Remove line 0 long ∷ []) ++ Unwrap (line + 1) ∷ [] ++ without_empty (removed_lines text first (line - first - 1))
removed_next text first line next long order is len =
    let count = line - first - 1 in
    let e : next - first - 1 ≡ suc count = omega arith in
    let n : first + suc count ≡ line = omega arith in
    ap (λ k. without_empty (removed_lines text first k)) e
    ∙ ap (λ k. without_empty (Remove k 0 (length (line_at text k)) ∷ Unwrap (k + 1) ∷ removed_lines text first count)) n
    ∙ ap (λ k. without_empty (Remove line 0 k ∷ Unwrap (line + 1) ∷ removed_lines text first count)) (sym len)
    ∙ without_empty-append (Remove line 0 long ∷ []) (Unwrap (line + 1) ∷ removed_lines text first count)
    ∙ simp append_assoc

-- a removal over several lines, by its parts
pub removal_parts : (span : Ends) (text : List (List ℕ)) (long : ℕ) → (span.start.line ≡ span.end.line → ⊥)
    → long ≡ length (line_at text span.start.line)
    → without_empty (removal span text)
    ≡ without_empty (Remove span.end.line 0 span.end.column ∷ [])
    ++ without_empty (removed_lines text span.start.line (span.end.line - span.start.line - 1))
    ++ without_empty (Remove span.start.line span.start.column (long - span.start.column) ∷ [])
    ++ Unwrap (span.start.line + 1) ∷ []
removal_parts span text long apart len =
    let front = Remove span.end.line 0 span.end.column ∷ [] in
    let lines = removed_lines text span.start.line (span.end.line - span.start.line - 1) in
    let rest = Remove span.start.line span.start.column (long - span.start.column) ∷ [] in
    let join = Unwrap (span.start.line + 1) ∷ [] in
    let f : (span.start.line == span.end.line) ≡ false = ne_eqb _ _ apart in
    rw (f, ← len)
    (without_empty-append front (lines ++ (rest ++ join))
    ∙ ap (λ ps. without_empty front ++ ps) (without_empty-append lines (rest ++ join) ∙ ap (λ ps. without_empty lines ++ ps) (without_empty-append rest join))
    ∙ simp append_assoc)

-- a list that grew by four parts
pub grown : (start first second third last : List Primitive) (a b c d whole : List Primitive)
    → first ≡ start ++ a → second ≡ first ++ b → third ≡ second ++ c → last ≡ third ++ d → whole ≡ a ++ b ++ c ++ d
    → last ≡ start ++ whole
grown start first second third last a b c d whole one two three four all = rw (four, three, two, one, all) (simp append_assoc)

-- a list that grew by two parts of what was left
pub grown_by : (start first second : List Primitive) (a b left rest whole : List Primitive)
    → first ≡ start ++ a → second ≡ first ++ b → left ≡ a ++ b ++ rest → start ++ left ≡ whole → second ++ rest ≡ whole
grown_by start first second a b left rest whole one two split is =
    let e : second ++ rest ≡ start ++ (a ++ b ++ rest) = rw (two, one) (simp append_assoc) in
    e ∙ ap (λ ps. start ++ ps) (sym split) ∙ is

-- what holds of a success, from something else that does
pub on_ok : (result : Result (Unit {0}) AllocError) (P Q : Type 0) → (P → Q) → OnOk result P → OnOk result Q
on_ok (Ok u) P Q f h = f h
on_ok (Err e) P Q f h = h
