-- What is appended, one part after another.
use Rattle.std.proofs.Common.{◌≡◌, ℕ, ◌+◌, ◌≤◌, ◌<◌, true, map, List, [], ◌∷◌, ◌++◌, length, take, drop, get_or, Some, refl, sym, ap, ◌∙◌, append_assoc, append-nil, arith}
use Rattle.std.specs.List.{flat_map, join_with_byte, list_all}
use Rattle.std.proofs.lemmas.List.{length-append, length-map, length-take, length-take-le, map_more, take-take, take_all, take_at, drop_at, take-append-drop}
use Rattle.std.proofs.lemmas.List.{flat_map_more, take_more}
use Rattle.std.proofs.lemmas.Option.{get_or_from_slice_get}
use Rattle.std.specs.Prelude.{slice_get}
use Rattle.kte_place.specs.Ends.{Ends}
use Rattle.kte_script.specs.Fields.{spell_span, spell_spans, spell_pattern}
use Rattle.std.proofs.lemmas.Bool.{and_parts}
use Rattle.std.proofs.lemmas.Grind.{flat_map-append}
use Rattle.std.proofs.lemmas.Bool.Decides.{nat_tests}
use Rattle.kte_text.specs.Units.{utf8_of}
use Rattle.kte_text.specs.Texts.{line_at}
use Rattle.kte_script.specs.Strings.{spell_byte, utf8_of_text, spell_text}
use Rattle.kte_script.specs.Spelled.{Keeps, is_itself}

-- what was in front of a part is in front of what the part is in front of
pub keeps : (old s mid new : List ℕ) → mid ≡ old ++ s → take (length mid) new ≡ mid → take (length old) new ≡ old
keeps old s mid new e h =
    let le : length old ≤ length mid = rw e (omega (arith, length-append old s)) in
    let front : take (length old) (take (length mid) new) ≡ take (length old) new = take-take (length old) (length mid) new le in
    sym front ∙ ap (take (length old)) (h ∙ e) ∙ take_at old s (length old) refl

-- one part after another
pub two_parts : (old s t a b : List ℕ) → a ≡ old ++ s → b ≡ a ++ t → b ≡ old ++ (s ++ t)
two_parts old s t a b p q = q ∙ ap (λ (xs : List ℕ). xs ++ t) p ∙ append_assoc old s t

pub three_parts : (old s t u a b c : List ℕ) → a ≡ old ++ s → b ≡ a ++ t → c ≡ b ++ u → c ≡ old ++ (s ++ (t ++ u))
three_parts old s t u a b c p q r = two_parts old s (t ++ u) a c p (two_parts a t u b c q r)

-- a word and the fields after it
pub one_field : (old w f a b : List ℕ) → a ≡ old ++ w → b ≡ a ++ f → b ≡ old ++ (w ++ (f ++ []))
one_field old w f a b p q = q ∙ ap (λ (xs : List ℕ). xs ++ f) p ∙ simp (append_assoc, append-nil)

pub two_fields : (old w f g a b c : List ℕ) → a ≡ old ++ w → b ≡ a ++ f → c ≡ b ++ g
    → c ≡ old ++ (w ++ (f ++ (g ++ [])))
two_fields old w f g a b c p q r =
    r ∙ ap (λ (xs : List ℕ). xs ++ g) (q ∙ ap (λ (xs : List ℕ). xs ++ f) p) ∙ simp (append_assoc, append-nil)

pub three_fields : (old w f g h a b c d : List ℕ) → a ≡ old ++ w → b ≡ a ++ f → c ≡ b ++ g → d ≡ c ++ h
    → d ≡ old ++ (w ++ (f ++ (g ++ (h ++ []))))
three_fields old w f g h a b c d p q r s =
    s ∙ ap (λ (xs : List ℕ). xs ++ h) (r ∙ ap (λ (xs : List ℕ). xs ++ g) (q ∙ ap (λ (xs : List ℕ). xs ++ f) p))
    ∙ simp (append_assoc, append-nil)

pub four_fields : (old w f g h i a b c d e : List ℕ) → a ≡ old ++ w → b ≡ a ++ f → c ≡ b ++ g → d ≡ c ++ h → e ≡ d ++ i
    → e ≡ old ++ (w ++ (f ++ (g ++ (h ++ (i ++ [])))))
four_fields old w f g h i a b c d e p q r s t =
    t ∙ ap (λ (xs : List ℕ). xs ++ i) (s ∙ ap (λ (xs : List ℕ). xs ++ h) (r ∙ ap (λ (xs : List ℕ). xs ++ g) (q ∙ ap (λ (xs : List ℕ). xs ++ f) p)))
    ∙ simp (append_assoc, append-nil)

-- a word and three fields, of which the last is not appended
pub keeps_three : (old w f g a b c new : List ℕ) → a ≡ old ++ w → b ≡ a ++ f → c ≡ b ++ g
    → Keeps c new → Keeps old new
keeps_three old w f g a b c new p q r h = keeps old w a new p (keeps a f b new q (keeps b g c new r h))

-- .. and four fields
pub keeps_four : (old w f g h a b c d new : List ℕ) → a ≡ old ++ w → b ≡ a ++ f → c ≡ b ++ g → d ≡ c ++ h
    → Keeps d new → Keeps old new
keeps_four old w f g h a b c d new p q r s k = keeps_three old w f g a b c new p q r (keeps c h d new s k)

-- ---- strings

-- bytes that are spelled as themselves
itself : (byte : ℕ) → is_itself byte ≡ true → spell_byte byte ≡ byte ∷ []
unfolding spell_byte
itself byte h = grind (arith, nat_tests)

pub all_themselves : (bytes : List ℕ) → list_all is_itself bytes ≡ true → flat_map spell_byte bytes ≡ bytes
all_themselves [] h = refl
all_themselves (byte ∷ bytes) h =
    let p = and_parts (is_itself byte) (list_all is_itself bytes) h in
    rw (itself byte p.0, all_themselves bytes p.1) refl

-- nothing is to be replaced
pub none_replaced : (out bytes : List ℕ) (start : ℕ) → bytes ≡ drop start out
    → list_all is_itself bytes ≡ true → out ≡ take start out ++ flat_map spell_byte (drop start out)
none_replaced out bytes start is h =
    let same : flat_map spell_byte (drop start out) ≡ drop start out =
    all_themselves (drop start out) (ap (list_all is_itself) (sym is) ∙ h) in
    sym (rw same (take-append-drop start out))

-- what is in front stays there
pub front_stays : (old new more : List ℕ) (start : ℕ) → start ≤ length old → new ≡ take start old ++ more
    → take start new ≡ take start old
front_stays old new more start le e =
    let len : length (take start old) ≡ start = omega (arith, length-take start old) in
    ap (take start) e ∙ take_at (take start old) more start len

-- a line in UTF-8 whose bytes are spelled where they stand
pub line_appended : (old text raw new : List ℕ) → raw ≡ old ++ text
    → new ≡ take (length old) raw ++ flat_map spell_byte (drop (length old) raw) → new ≡ old ++ flat_map spell_byte text
line_appended old text raw new is_raw is_new =
    let front : take (length old) raw ≡ old = ap (take (length old)) is_raw ∙ take_at old text (length old) refl in
    let back : drop (length old) raw ≡ text = ap (drop (length old)) is_raw ∙ drop_at old text (length old) refl in
    is_new ∙ rw (front, back) refl

pub line_keeps : (old text raw new : List ℕ) → raw ≡ old ++ text
    → take (length old) new ≡ take (length old) raw → Keeps old new
line_keeps old text raw new is_raw h =
    h ∙ ap (take (length old)) is_raw ∙ take_at old text (length old) refl

-- ---- texts

join_more : (parts : List (List ℕ)) (part : List ℕ) → 0 < length parts
    → join_with_byte 10 (parts ++ part ∷ []) ≡ join_with_byte 10 parts ++ 10 ∷ part
join_more [] part some = absurd (omega arith)
join_more (first ∷ []) part some = refl
join_more (first ∷ next ∷ parts) part some =
    ap (λ (xs : List ℕ). first ++ 10 ∷ xs) (join_more (next ∷ parts) part (omega arith))
    ∙ sym (append_assoc first (10 ∷ join_with_byte 10 (next ∷ parts)) (10 ∷ part))

-- the spelling of the lines so far, between two marks
abbrev pub spell_lines : List (List ℕ) → List ℕ
spell_lines text = flat_map spell_byte (utf8_of_text text)

-- the first line
pub first_line : (text : List (List ℕ)) → 0 < length text
    → spell_lines (take 1 text) ≡ flat_map spell_byte (utf8_of (line_at text 0))
first_line [] some = absurd (omega arith)
first_line (line ∷ lines) some = refl

-- one line more
pub next_line : (text : List (List ℕ)) (n : ℕ) → 0 < n → n < length text
    → spell_lines (take (n + 1) text)
    ≡ (spell_lines (take n text) ++ 92 ∷ 110 ∷ []) ++ flat_map spell_byte (utf8_of (line_at text n))
unfolding spell_byte
next_line text n some there =
    let parts : List (List ℕ) = map utf8_of (take n text) in
    let few : length parts ≡ n = length-map (take n text) utf8_of ∙ length-take-le n text (omega arith) in
    let more : utf8_of_text (take (n + 1) text) ≡ utf8_of_text (take n text) ++ 10 ∷ utf8_of (line_at text n) =
    ap (join_with_byte 10) (map_more utf8_of text n [] there) ∙ join_more parts (utf8_of (line_at text n)) (omega (arith, few)) in
    ap (flat_map spell_byte) more
    ∙ flat_map-append spell_byte (utf8_of_text (take n text)) (10 ∷ utf8_of (line_at text n))
    ∙ sym (append_assoc (spell_lines (take n text)) (92 ∷ 110 ∷ []) (flat_map spell_byte (utf8_of (line_at text n))))

pub text_more : (old out mid new line : List ℕ) (text : List (List ℕ)) (n : ℕ) → 0 < n → n < length text
    → out ≡ old ++ 32 ∷ 34 ∷ spell_lines (take n text) → mid ≡ out ++ 92 ∷ 110 ∷ [] → line ≡ line_at text n
    → new ≡ mid ++ flat_map spell_byte (utf8_of line) → new ≡ old ++ 32 ∷ 34 ∷ spell_lines (take (n + 1) text)
text_more old out mid new line text n some there is_out is_mid is_line is_new =
    is_new ∙ rw (is_mid, is_out, is_line, next_line text n some there) (simp append_assoc)

-- the closing mark
pub text_closed : (old out new : List ℕ) (text : List (List ℕ)) (n : ℕ) → length text ≤ n
    → out ≡ old ++ 32 ∷ 34 ∷ spell_lines (take n text) → new ≡ out ++ 34 ∷ [] → new ≡ old ++ spell_text text
unfolding spell_text
text_closed old out new text n all is_out is_new =
    is_new ∙ rw (is_out, take_all n text all) (simp append_assoc)

-- a line as a string
pub pattern_closed : (old a b new line : List ℕ) → a ≡ old ++ 32 ∷ 34 ∷ []
    → b ≡ a ++ flat_map spell_byte (utf8_of line) → new ≡ b ++ 34 ∷ [] → new ≡ old ++ spell_pattern line
unfolding spell_text
pattern_closed old a b new line is_a is_b is_new = is_new ∙ rw (is_b, is_a) (simp append_assoc)

-- one span more
pub spans_more : (old out new : List ℕ) (spans : List Ends) (n : ℕ) (span : Ends) → slice_get spans n ≡ Some span
    → n < length spans → out ≡ old ++ spell_spans (take n spans) → new ≡ out ++ spell_span span
    → new ≡ old ++ spell_spans (take (n + 1) spans)
spans_more old out new spans n span is lt is_out is_new =
    let same : get_or spans n span ≡ span = get_or_from_slice_get spans n span span is in
    let more : take (n + 1) spans ≡ take n spans ++ span ∷ [] = take_more spans n span lt ∙ ap (λ (s : Ends). take n spans ++ s ∷ []) same in
    is_new ∙ ap (λ (xs : List ℕ). xs ++ spell_span span) is_out ∙ flat_map_more spell_span old (take n spans) span
    ∙ ap (λ (ss : List Ends). old ++ spell_spans ss) (sym more)

pub spans_all : (old out : List ℕ) (spans : List Ends) (n : ℕ) → length spans ≤ n
    → out ≡ old ++ spell_spans (take n spans) → out ≡ old ++ spell_spans spans
spans_all old out spans n all is_out = is_out ∙ ap (λ (ss : List Ends). old ++ spell_spans ss) (take_all n spans all)
