-- Strings in words: each byte stands for itself or is written by an escape.
use Rattle.std.proofs.Common.{◌≡◌, ◌≢◌, ℕ, ◌+◌, ◌*◌, ◌/◌, ◌%◌, ◌≤◌, ◌<◌, Bool, true, false, cond, nat_eq, nat_le, ◌&&◌, ◌-◌, List, [], ◌∷◌, ◌++◌, length, Option, None, Some, Ok, Err, refl, sym, ap, ◌∙◌, subst, append_assoc, arith, inl, inr, ◌⊎◌}
use Rattle.std.specs.Option.{option_and_then}
use Rattle.std.specs.Char.{is_ascii_digit}
use Rattle.std.proofs.lemmas.Bool.{eqb-true}
use Rattle.std.proofs.lemmas.Bool.Decides.{nat_tests}
use Rattle.std.proofs.lemmas.List.{length-append}
use Rattle.kte_text.specs.Units.{utf8_of}
use Rattle.kte_script.specs.Words.{ends_here}
use Rattle.kte_script.specs.Strings.{Mode, Plain, Escape, Code, Digit, Quoted, hex_value, hex_digit, is_coded, is_plain, with_byte, string_from, string_at, text_in, pattern_in, utf8_of_text}
use Rattle.kte_script.specs.Fields.{Reading, quoted, held}
use Rattle.kte_script.specs.InWords.{MaySpell, MaySpellAll, IsString, IsQuoted, IsQuotedPattern, starts_otherwise}
use Rattle.kte_script.proofs.StringLemmas.{first_plain}
use Rattle.kte_script.proofs.PartLemmas.{text_in-utf8_of_text, text_of_bytes, pattern_in-utf8_of, pattern_of_bytes}
use Rattle.kte_script.proofs.QuotedLemmas.{code_again}
use Rattle.kte_script.proofs.ReadsLemmas.{Front, done_same}

-- ---- what may be spelled is read

coded_small : (byte : ℕ) → is_coded byte ≡ true → byte < 32
coded_small byte h = grind (arith, nat_tests)

coded_no_cr : (byte : ℕ) → is_coded byte ≡ true → byte ≢ 13
coded_no_cr byte h is = absurd (grind (arith, nat_tests))

coded_no_lf : (byte : ℕ) → is_coded byte ≡ true → byte ≢ 10
coded_no_lf byte h is = absurd (grind (arith, nat_tests))

-- the byte is read from this spelling
abbrev IsReadFrom : ℕ → List ℕ → List ℕ → Type 0
IsReadFrom byte spelled more = string_from Plain (spelled ++ more) ≡ with_byte byte (string_from Plain more)

escaped_again : (byte escape : ℕ) (spelled more : List ℕ) → spelled ≡ 92 ∷ escape ∷ []
    → string_from Escape (escape ∷ more) ≡ with_byte byte (string_from Plain more)
    → IsReadFrom byte spelled more
unfolding string_from
escaped_again byte escape spelled more is e = rw is e

by_code : (byte : ℕ) (more : List ℕ) → is_coded byte ≡ true
    → string_from Plain (92 ∷ 120 ∷ hex_digit (byte / 16) ∷ hex_digit (byte % 16) ∷ more) ≡ with_byte byte (string_from Plain more)
unfolding string_from
by_code byte more h = code_again byte more (coded_small byte h) (coded_no_cr byte h) (coded_no_lf byte h)

as_n : (more : List ℕ) → string_from Escape (110 ∷ more) ≡ with_byte 10 (string_from Plain more)
unfolding string_from
as_n more = refl

as_t : (more : List ℕ) → string_from Escape (116 ∷ more) ≡ with_byte 9 (string_from Plain more)
unfolding string_from
as_t more = refl

as_mark : (more : List ℕ) → string_from Escape (34 ∷ more) ≡ with_byte 34 (string_from Plain more)
unfolding string_from
as_mark more = refl

as_slash : (more : List ℕ) → string_from Escape (92 ∷ more) ≡ with_byte 92 (string_from Plain more)
unfolding string_from
as_slash more = refl

piece_read : (byte : ℕ) (spelled more : List ℕ) → MaySpell byte spelled → IsReadFrom byte spelled more
piece_read byte spelled more (inl p) = rw p.1 (first_plain byte more p.0)
piece_read byte spelled more (inr (inl p)) = rw p.1 (by_code byte more p.0)
piece_read byte spelled more (inr (inr (inl p))) = escaped_again byte 110 spelled more p.1 (rw p.0 (as_n more))
piece_read byte spelled more (inr (inr (inr (inl p)))) = escaped_again byte 116 spelled more p.1 (rw p.0 (as_t more))
piece_read byte spelled more (inr (inr (inr (inr (inl p))))) = escaped_again byte 34 spelled more p.1 (rw p.0 (as_mark more))
piece_read byte spelled more (inr (inr (inr (inr (inr p))))) = escaped_again byte 92 spelled more p.1 (rw p.0 (as_slash more))

closing_read : (rest : List ℕ) → string_from Plain (34 ∷ rest) ≡ Some (record { text = []; rest = rest })
unfolding string_from
closing_read rest = refl

pieces_read : (bytes inside rest : List ℕ) → MaySpellAll bytes inside
    → string_from Plain (inside ++ 34 ∷ rest) ≡ Some (record { text = bytes; rest = rest })
pieces_read [] inside rest is = rw is (closing_read rest)
pieces_read (byte ∷ bytes) inside rest p =
    let same : inside ++ 34 ∷ rest ≡ p.0 ++ (p.1 ++ 34 ∷ rest) = rw p.2 (append_assoc p.0 p.1 (34 ∷ rest)) in
    ap (string_from Plain) same ∙ piece_read byte p.0 (p.1 ++ 34 ∷ rest) p.3
    ∙ ap (with_byte byte) (pieces_read bytes p.1 rest p.4)

-- ---- what is read may be spelled so

-- a byte, spelled by what comes before and these bytes, and then the other bytes and the mark
pub record Piece (before bytes : List ℕ) (quoted : Quoted) : Type 0 where
  pub byte : ℕ
  pub text : List ℕ
  pub first : List ℕ
  pub others : List ℕ
  pub read : quoted.text ≡ byte ∷ text
  pub parts : bytes ≡ first ++ (others ++ 34 ∷ quoted.rest)
  pub spelled : MaySpell byte (before ++ first)
  pub after : MaySpellAll text others

-- the bytes up to the mark
pub record Whole (bytes : List ℕ) (quoted : Quoted) : Type 0 where
  pub inside : List ℕ
  pub parts : bytes ≡ inside ++ 34 ∷ quoted.rest
  pub spelled : MaySpellAll quoted.text inside

abbrev Sound : Mode → List ℕ → Quoted → Type 0
Sound Plain bytes quoted = Whole bytes quoted
Sound Escape bytes quoted = Piece (92 ∷ []) bytes quoted
Sound Code bytes quoted = Piece (92 ∷ 120 ∷ []) bytes quoted
Sound (Digit high) bytes quoted =
    (digit : ℕ) → hex_value digit ≡ Some high → Piece (92 ∷ 120 ∷ digit ∷ []) bytes quoted

decide : (b : Bool) → (b ≡ true) ⊎ (b ≡ false)
decide true = inl refl
decide false = inr refl

abbrev no_value : Option ℕ
no_value = None

none_some : (value : ℕ) → no_value ≡ Some value → ⊥
none_some value e = cc

some_same : (a b : ℕ) → Some a ≡ Some b → a ≡ b
some_same a b e = cc

digit_back : (digit : ℕ) → is_ascii_digit digit ≡ true → (digit ≡ hex_digit (digit - 48)) × (digit - 48 < 16)
digit_back digit h = (grind (arith, nat_tests), grind (arith, nat_tests))

letter_back : (digit : ℕ) → (nat_le 97 digit && nat_le digit 102) ≡ true → (digit ≡ hex_digit (digit - 87)) × (digit - 87 < 16)
letter_back digit h = (grind (arith, nat_tests), grind (arith, nat_tests))

by_digit : (digit value : ℕ) → is_ascii_digit digit ≡ true → Some (digit - 48) ≡ Some value
    → (digit ≡ hex_digit value) × (value < 16)
by_digit digit value h e = rw (← some_same (digit - 48) value e) (digit_back digit h)

by_letter : (digit value : ℕ) → (nat_le 97 digit && nat_le digit 102) ≡ true → Some (digit - 87) ≡ Some value
    → (digit ≡ hex_digit value) × (value < 16)
by_letter digit value h e = rw (← some_same (digit - 87) value e) (letter_back digit h)

hex_back : (digit value : ℕ) → hex_value digit ≡ Some value → (digit ≡ hex_digit value) × (value < 16)
hex_back digit value e =
    elim (decide (is_ascii_digit digit)) [
      | inl yes' ↦ by_digit digit value yes' (rw yes' at e)
      | inr no' ↦ elim (decide (nat_le 97 digit && nat_le digit 102)) [
        | inl letter ↦ by_letter digit value letter (rw (no', letter) at e)
        | inr other ↦ absurd (none_some value (rw (no', other) at e))
      ]
    ]

with_some : (byte : ℕ) (o : Option Quoted) (quoted : Quoted) → with_byte byte o ≡ Some quoted
    → (q : Quoted) × (o ≡ Some q) × (quoted.text ≡ byte ∷ q.text) × (quoted.rest ≡ q.rest)
with_some byte None quoted e = absurd cc
with_some byte (Some q) quoted e =
    let is : record { text = byte ∷ q.text; rest = q.rest } ≡ quoted = cc in
    (q, refl, ap (λ (x : Quoted). x.text) (sym is), ap (λ (x : Quoted). x.rest) (sym is))

whole_of_piece : (before bytes : List ℕ) (quoted : Quoted) → Piece before bytes quoted → Whole (before ++ bytes) quoted
whole_of_piece before bytes quoted p = record {
  inside = (before ++ p.first) ++ p.others;
  parts = rw p.parts (simp append_assoc);
  spelled = rw p.read (before ++ p.first, p.others, refl, p.spelled, p.after);
}

piece_of_whole : (byte : ℕ) (before first bytes : List ℕ) (quoted q : Quoted) → MaySpell byte (before ++ first)
    → quoted.text ≡ byte ∷ q.text → quoted.rest ≡ q.rest → Whole bytes q → Piece before (first ++ bytes) quoted
piece_of_whole byte before first bytes quoted q may text rest w = record {
  byte = byte;
  text = q.text;
  first = first;
  others = w.inside;
  read = text;
  parts = ap (λ (xs : List ℕ). first ++ xs) (w.parts ∙ ap (λ (r : List ℕ). w.inside ++ 34 ∷ r) (sym rest));
  spelled = may;
  after = w.spelled;
}

-- a read byte with the string after it
one_piece : (byte : ℕ) (before first bytes : List ℕ) (quoted : Quoted) → MaySpell byte (before ++ first)
    → ((q : Quoted) → string_from Plain bytes ≡ Some q → Whole bytes q)
    → with_byte byte (string_from Plain bytes) ≡ Some quoted → Piece before (first ++ bytes) quoted
one_piece byte before first bytes quoted may later e =
    let p = with_some byte (string_from Plain bytes) quoted e in
    piece_of_whole byte before first bytes quoted p.0 may p.2 p.3 (later p.0 p.1)

quoted_same : (a b : Quoted) → Some a ≡ Some b → a ≡ b
quoted_same a b e = cc

code_of : (high low digit digit' : ℕ) → digit ≡ hex_digit high → digit' ≡ hex_digit low → low < 16
    → is_coded (16 * high + low) ≡ true → MaySpell (16 * high + low) (92 ∷ 120 ∷ digit ∷ digit' ∷ [])
code_of high low digit digit' e f small h =
    let up : (16 * high + low) / 16 ≡ high = omega arith in
    let down : (16 * high + low) % 16 ≡ low = omega arith in
    inr (inl (h, rw (up, down, e, f) refl))

and_then_some : {A B : Type 0} (f : A → Option B) (o : Option A) (z : B) → option_and_then f o ≡ Some z
    → (x : A) × (o ≡ Some x) × (f x ≡ Some z)
and_then_some f None z e = absurd cc
and_then_some f (Some x) z e = (x, refl, e)

-- a byte more in front
shift : (before bytes : List ℕ) (b : ℕ) (quoted : Quoted) → Piece (before ++ b ∷ []) bytes quoted
    → Piece before (b ∷ bytes) quoted
shift before bytes b quoted p =
    let same : (before ++ b ∷ []) ++ p.first ≡ before ++ b ∷ p.first = append_assoc before (b ∷ []) p.first in
    record {
      byte = p.byte;
      text = p.text;
      first = b ∷ p.first;
      others = p.others;
      read = p.read;
      parts = ap (λ (xs : List ℕ). b ∷ xs) p.parts;
      spelled = subst (MaySpell p.byte) same p.spelled;
      after = p.after;
    }

two : (a b : ℕ) → a ≡ b → 92 ∷ a ∷ [] ≡ 92 ∷ b ∷ []
two a b e = ap (λ (c : ℕ). 92 ∷ c ∷ []) e

closed_whole : (byte : ℕ) (bytes : List ℕ) (quoted : Quoted) → byte ≡ 34
    → Some (record { text = []; rest = bytes }) ≡ Some quoted → Whole (byte ∷ bytes) quoted
closed_whole byte bytes quoted is e =
    subst (λ (q : Quoted). Whole (byte ∷ bytes) q) (quoted_same (record { text = []; rest = bytes }) quoted e)
    (record { inside = []; parts = ap (λ (b : ℕ). b ∷ bytes) is; spelled = refl })

slash_whole : (byte : ℕ) (bytes : List ℕ) (quoted : Quoted) → byte ≡ 92 → Piece (92 ∷ []) bytes quoted
    → Whole (byte ∷ bytes) quoted
slash_whole byte bytes quoted is p = rw is (whole_of_piece (92 ∷ []) bytes quoted p)

code_piece : (byte : ℕ) (bytes : List ℕ) (quoted : Quoted) → byte ≡ 120 → Piece (92 ∷ 120 ∷ []) bytes quoted
    → Piece (92 ∷ []) (byte ∷ bytes) quoted
code_piece byte bytes quoted is p = rw is (shift (92 ∷ []) bytes 120 quoted p)

no_quoted : {A : Type 0} (quoted : Quoted) → cond {A = Option Quoted} false None None ≡ Some quoted → A
no_quoted quoted e = absurd cc

string_sound : (mode : Mode) (bytes : List ℕ) (quoted : Quoted) → string_from mode bytes ≡ Some quoted
    → Sound mode bytes quoted
unfolding string_from
string_sound Plain [] quoted e = absurd cc
string_sound Escape [] quoted e = absurd cc
string_sound Code [] quoted e = absurd cc
string_sound (Digit high) [] quoted e = absurd cc
string_sound Plain (byte ∷ bytes) quoted e =
    elim (decide (nat_eq byte 34)) [
      | inl mark ↦ closed_whole byte bytes quoted (eqb-true _ _ mark) (rw mark at e)
      | inr e34 ↦ elim (decide (nat_eq byte 92)) [
        | inl slash ↦
            slash_whole byte bytes quoted (eqb-true _ _ slash)
            (string_sound Escape bytes quoted (rw (e34, slash) at e))
        | inr e92 ↦ elim (decide (is_plain byte)) [
          | inl plain ↦
              let test = rw (e34, e92) at plain in
              whole_of_piece [] (byte ∷ bytes) quoted
              (one_piece byte [] (byte ∷ []) bytes quoted (inl (plain, refl)) (λ q. string_sound Plain bytes q) (rw (e34, e92, test) at e))
          | inr other ↦
              let test = rw (e34, e92) at other in
              no_quoted quoted (rw (e34, e92, test) at e)
        ]
      ]
    ]
string_sound Escape (byte ∷ bytes) quoted e =
    elim (decide (nat_eq byte 110)) [
      | inl n ↦
          one_piece 10 (92 ∷ []) (byte ∷ []) bytes quoted (inr (inr (inl (refl, two byte 110 (eqb-true _ _ n)))))
          (λ q. string_sound Plain bytes q) (rw n at e)
      | inr e110 ↦ elim (decide (nat_eq byte 116)) [
        | inl t ↦
            one_piece 9 (92 ∷ []) (byte ∷ []) bytes quoted (inr (inr (inr (inl (refl, two byte 116 (eqb-true _ _ t))))))
            (λ q. string_sound Plain bytes q) (rw (e110, t) at e)
        | inr e116 ↦ elim (decide (nat_eq byte 92)) [
          | inl slash ↦
              one_piece 92 (92 ∷ []) (byte ∷ []) bytes quoted (inr (inr (inr (inr (inr (refl, two byte 92 (eqb-true _ _ slash)))))))
              (λ q. string_sound Plain bytes q) (rw (e110, e116, slash) at e)
          | inr e92 ↦ elim (decide (nat_eq byte 34)) [
            | inl mark ↦
                one_piece 34 (92 ∷ []) (byte ∷ []) bytes quoted (inr (inr (inr (inr (inl (refl, two byte 34 (eqb-true _ _ mark)))))))
                (λ q. string_sound Plain bytes q) (rw (e110, e116, e92, mark) at e)
            | inr e34 ↦ elim (decide (nat_eq byte 120)) [
              | inl x ↦
                  code_piece byte bytes quoted (eqb-true _ _ x)
                  (string_sound Code bytes quoted (rw (e110, e116, e92, e34, x) at e))
              | inr e120 ↦ no_quoted quoted (rw (e110, e116, e92, e34, e120) at e)
            ]
          ]
        ]
      ]
    ]
string_sound Code (byte ∷ bytes) quoted e =
    let p = and_then_some (λ high. string_from (Digit high) bytes) (hex_value byte) quoted e in
    shift (92 ∷ 120 ∷ []) bytes byte quoted (string_sound (Digit p.0) bytes quoted p.2 byte p.1)
string_sound (Digit high) (byte ∷ bytes) quoted e = λ digit is.
    let p = and_then_some (λ low. cond (is_coded (16 * high + low)) (with_byte (16 * high + low) (string_from Plain bytes)) None) (hex_value byte) quoted e in
    let first = hex_back digit high is in
    let second = hex_back byte p.0 p.1 in
    elim (decide (is_coded (16 * high + p.0))) [
      | inl c ↦
          one_piece (16 * high + p.0) (92 ∷ 120 ∷ digit ∷ []) (byte ∷ []) bytes quoted
          (code_of high p.0 digit byte first.0 second.0 second.1 c) (λ q. string_sound Plain bytes q) (rw c at p.2)
      | inr c ↦ no_quoted quoted (rw c at p.2)
    ]

-- ---- a string as a word

string_at_mark : (s : List ℕ) (q : Quoted) → string_at s ≡ Some q
    → (bytes : List ℕ) × (s ≡ 34 ∷ bytes) × (string_from Plain bytes ≡ Some q)
unfolding string_at
string_at_mark [] q e = absurd cc
string_at_mark (byte ∷ bytes) q e =
    elim (decide (nat_eq byte 34)) [
      | inl mark ↦ (bytes, ap (λ (b : ℕ). b ∷ bytes) (eqb-true _ _ mark), rw mark at e)
      | inr other ↦ no_quoted q (rw other at e)
    ]

abbrev failed : {A : Type 0} → ℕ → Reading A
failed n = Err n

wrong : {A : Type 0} (left : ℕ) (found : A × List ℕ) → failed left ≡ Ok found → ⊥
wrong left found e = cc

same_left : {A : Type 0} (m n : ℕ) → failed {A = A} m ≡ failed n → n ≡ m
same_left m n e = cc

held_some : {A : Type 0} (o : Option A) (after s : List ℕ) (value : A) (rest : List ℕ)
    → held o after s ≡ Ok (value, rest) → (o ≡ Some value) × (after ≡ rest) × (ends_here after ≡ true)
held_some None after s value rest e = absurd cc
held_some {A} (Some x) after s value rest e =
    elim (decide (ends_here after)) [
      | inl ends ↦
          let p : (x, after) ≡ (value, rest) = done_same {A = A × List ℕ} (x, after) (value, rest) (rw ends at e) in
          (ap (λ (q : A × List ℕ). Some q.0) p, ap (λ (q : A × List ℕ). q.1) p, ends)
      | inr other ↦ absurd (wrong {A = A} (length s) (value, rest) (rw other at e))
    ]

quoted_some : {A : Type 0} (meaning : List ℕ → Option A) (o : Option Quoted) (s : List ℕ) (value : A) (rest : List ℕ)
    → quoted meaning o s ≡ Ok (value, rest)
    → (q : Quoted) × (o ≡ Some q) × (held (meaning q.text) q.rest s ≡ Ok (value, rest))
quoted_some meaning None s value rest e = absurd cc
quoted_some meaning (Some q) s value rest e = (q, refl, e)

held_none : {A : Type 0} (o : Option A) (after s : List ℕ) (left : ℕ) → held o after s ≡ Err left → left ≡ length s
held_none {A} None after s left e = same_left {A = A} (length s) left e
held_none {A} (Some x) after s left e =
    elim (decide (ends_here after)) [
      | inl ends ↦ absurd (wrong {A = A} left (x, after) (sym (rw ends at e)))
      | inr other ↦ same_left {A = A} (length s) left (rw other at e)
    ]

quoted_none : {A : Type 0} (meaning : List ℕ → Option A) (o : Option Quoted) (s : List ℕ) (left : ℕ)
    → quoted meaning o s ≡ Err left → left ≡ length s
quoted_none {A} meaning None s left e = same_left {A = A} (length s) left e
quoted_none meaning (Some q) s left e = held_none (meaning q.text) q.rest s left e

-- what a string of these bytes is, if it has a value
pub record Quotes {A : Type 0} (Is : A → List ℕ → Type 0) (meaning : List ℕ → Option A) : Type 0 where
  pub sound : (bytes : List ℕ) (value : A) (word : List ℕ) → meaning bytes ≡ Some value → IsString bytes word → Is value word
  pub full : (value : A) (word : List ℕ) → Is value word
      → (bytes : List ℕ) × IsString bytes word × (meaning bytes ≡ Some value)

quoted_takes : {A : Type 0} (Is : A → List ℕ → Type 0) (meaning : List ℕ → Option A) → Quotes Is meaning
    → (s : List ℕ) (value : A) (rest : List ℕ) → quoted meaning (string_at s) s ≡ Ok (value, rest)
    → (w : List ℕ) × (s ≡ w ++ rest) × Is value w × (ends_here rest ≡ true)
quoted_takes Is meaning quotes s value rest e =
    let q = quoted_some meaning (string_at s) s value rest e in
    let h = held_some (meaning q.0.text) q.0.rest s value rest q.2 in
    let m = string_at_mark s q.0 q.1 in
    let w = string_sound Plain m.0 q.0 m.2 in
    let parts : s ≡ (34 ∷ (w.inside ++ (34 ∷ []))) ++ rest =
    m.1 ∙ ap (λ (xs : List ℕ). 34 ∷ xs) (w.parts ∙ rw h.1 (sym (append_assoc w.inside (34 ∷ []) rest))) in (
      34 ∷ (w.inside ++ (34 ∷ [])),
      parts,
      quotes.sound q.0.text value (34 ∷ (w.inside ++ (34 ∷ []))) h.0 (record { inside = w.inside; marks = refl; spelled = w.spelled }),
      subst (λ (xs : List ℕ). ends_here xs ≡ true) h.1 h.2,
    )

string_gives : {A : Type 0} (meaning : List ℕ → Option A) (value : A) (bytes w rest : List ℕ) → IsString bytes w
    → meaning bytes ≡ Some value → ends_here rest ≡ true → quoted meaning (string_at (w ++ rest)) (w ++ rest) ≡ Ok (value, rest)
unfolding string_at
string_gives meaning value bytes w rest is m ends =
    let same : (is.inside ++ 34 ∷ []) ++ rest ≡ is.inside ++ 34 ∷ rest = append_assoc is.inside (34 ∷ []) rest in
    let read = pieces_read bytes is.inside rest is.spelled in
    rw (is.marks, same, read, m, ends) refl

string_begins : (bytes w rest : List ℕ) → IsString bytes w → starts_otherwise (w ++ rest) ≡ true
string_begins bytes w rest is = rw is.marks refl

pub quoted_front : {A : Type 0} (Is : A → List ℕ → Type 0) (meaning : List ℕ → Option A) → Quotes Is meaning
    → Front Is (λ s. quoted meaning (string_at s) s)
quoted_front Is meaning quotes = record {
  takes = λ s value rest e. quoted_takes Is meaning quotes s value rest e;
  gives = λ value w rest is ends.
      let f = quotes.full value w is in
      string_gives meaning value f.0 w rest f.1 f.2 ends;
  stops = λ s left e. quoted_none meaning (string_at s) s left e;
  begins = λ value w rest is.
      let f = quotes.full value w is in
      string_begins f.0 w rest f.1;
}

pub text_quotes : Quotes IsQuoted text_in
text_quotes = record {
  sound = λ bytes lines word m is.
      let h = text_of_bytes bytes lines m in
      record { text = h.text; string = rw h.bytes_are is };
  full = λ lines word is. (utf8_of_text lines, is.string, text_in-utf8_of_text lines is.text);
}

pub pattern_quotes : Quotes IsQuotedPattern pattern_in
pattern_quotes = record {
  sound = λ bytes units word m is.
      let h = pattern_of_bytes bytes units m in
      record { line = h.0; string = rw h.1 is };
  full = λ units word is. (utf8_of units, is.string, pattern_in-utf8_of units is.line);
}

-- ---- what is spelled is no longer than its spelling

piece_some : (byte : ℕ) (spelled : List ℕ) → MaySpell byte spelled → 0 < length spelled
piece_some byte spelled (inl p) = rw p.1 (omega arith)
piece_some byte spelled (inr (inl p)) = rw p.1 (omega arith)
piece_some byte spelled (inr (inr (inl p))) = rw p.1 (omega arith)
piece_some byte spelled (inr (inr (inr (inl p)))) = rw p.1 (omega arith)
piece_some byte spelled (inr (inr (inr (inr (inl p))))) = rw p.1 (omega arith)
piece_some byte spelled (inr (inr (inr (inr (inr p))))) = rw p.1 (omega arith)

pub spelled_size : (bytes inside : List ℕ) → MaySpellAll bytes inside → length bytes ≤ length inside
spelled_size [] inside is = omega arith
spelled_size (byte ∷ bytes) inside p =
    let long : length inside ≡ length p.0 + length p.1 = ap length p.2 ∙ length-append p.0 p.1 in
    omega (arith, long, piece_some byte p.0 p.3, spelled_size bytes p.1 p.4)

-- the text of a string is no longer than the string
pub string_size : (bytes : List ℕ) (quoted : Quoted) → string_from Plain bytes ≡ Some quoted
    → length quoted.text ≤ length bytes
string_size bytes quoted e =
    let w = string_sound Plain bytes quoted e in
    let long : length bytes ≡ length w.inside + length (34 ∷ quoted.rest) = ap length w.parts ∙ length-append w.inside (34 ∷ quoted.rest) in
    omega (arith, long, spelled_size quoted.text w.inside w.spelled)
