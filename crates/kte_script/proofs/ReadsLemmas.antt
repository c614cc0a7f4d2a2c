-- Reading is just what a line says in words: one word, and one part after another.
use Rattle.std.proofs.Common.{◌≡◌, ℕ, ◌+◌, Bool, true, false, nat_eq, suc, List, [], ◌∷◌, ◌++◌, length, take, drop, Option, None, Some, Result, Ok, Err, refl, sym, ap, ◌∙◌, subst, arith, inl, inr, ◌⊎◌}
use Rattle.std.specs.List.{position_or_len, list_all}
use Rattle.std.proofs.lemmas.List.{take-append-drop}
use Rattle.std.proofs.lemmas.Bool.{and_parts}
use Rattle.kte_script.specs.Words.{is_space, is_other, skip, word, behind, ends_here}
use Rattle.kte_script.specs.Fields.{Reading, ◌>>=◌, meant, word_at}
use Rattle.kte_script.specs.InWords.{starts_otherwise, Begins, Misfits, Then, ThenFails}
use Rattle.kte_script.proofs.AgainLemmas.{IsWord, word-of, behind-of}

-- a reader takes what is there, and stops at what is not
pub record Reads {A : Type 0} (Has : A → List ℕ → List ℕ → Type 0) (FailsAt : List ℕ → ℕ → Type 0) (read : List ℕ → Reading A) : Type 0 where
  pub takes : (bytes : List ℕ) (value : A) (rest : List ℕ) → read bytes ≡ Ok (value, rest) → Has value bytes rest
  pub gives : (bytes : List ℕ) (value : A) (rest : List ℕ) → Has value bytes rest → read bytes ≡ Ok (value, rest)
  pub stops : (bytes : List ℕ) (left : ℕ) → read bytes ≡ Err left → FailsAt bytes left
  pub misses : (bytes : List ℕ) (left : ℕ) → FailsAt bytes left → read bytes ≡ Err left

-- ---- spaces in front

one : (n : ℕ) → 1 + n ≡ suc n
one n = omega arith

decide : (b : Bool) → (b ≡ true) ⊎ (b ≡ false)
decide true = inl refl
decide false = inr refl

pub spaces_of : (bytes : List ℕ) → list_all is_space (take (position_or_len is_other bytes) bytes) ≡ true
spaces_of [] = refl
spaces_of (byte ∷ bytes) =
    elim (decide (nat_eq byte 32)) [
      | inl e ↦ rw (e, one (position_or_len is_other bytes), e) (spaces_of bytes)
      | inr e ↦ rw e refl
    ]

pub skipped : (bytes : List ℕ) → bytes ≡ take (position_or_len is_other bytes) bytes ++ skip bytes
unfolding skip
skipped bytes = sym (take-append-drop (position_or_len is_other bytes) bytes)

pub starts-skip : (bytes : List ℕ) → starts_otherwise (skip bytes) ≡ true
unfolding skip
starts-skip [] = refl
starts-skip (byte ∷ bytes) =
    elim (decide (nat_eq byte 32)) [
      | inl e ↦ rw (e, one (position_or_len is_other bytes)) (starts-skip bytes)
      | inr e ↦ rw (e, e) refl
    ]

pub skip-spaces : (spaces words : List ℕ) → list_all is_space spaces ≡ true
    → starts_otherwise words ≡ true → skip (spaces ++ words) ≡ words
unfolding skip
skip-spaces [] [] h e = refl
skip-spaces [] (byte ∷ words) h e = rw e refl
skip-spaces (byte ∷ spaces) words h e =
    let p = and_parts (is_space byte) (list_all is_space spaces) h in
    rw (p.0, one (position_or_len is_other (spaces ++ words))) (skip-spaces spaces words p.1 e)

-- ---- one word

-- a reader of the first word, from its first byte on
pub record Front {A : Type 0} (Is : A → List ℕ → Type 0) (front : List ℕ → Reading A) : Type 0 where
  pub takes : (s : List ℕ) (value : A) (rest : List ℕ) → front s ≡ Ok (value, rest)
      → (w : List ℕ) × (s ≡ w ++ rest) × Is value w × (ends_here rest ≡ true)
  pub gives : (value : A) (w rest : List ℕ) → Is value w → ends_here rest ≡ true
      → front (w ++ rest) ≡ Ok (value, rest)
  pub stops : (s : List ℕ) (left : ℕ) → front s ≡ Err left → left ≡ length s
  pub begins : (value : A) (w rest : List ℕ) → Is value w → starts_otherwise (w ++ rest) ≡ true

abbrev failed : {A : Type 0} → ℕ → Result A ℕ
failed n = Err n

clash : {A : Type 0} (read : Reading A) (value : A × List ℕ) (left : ℕ) → read ≡ Ok value → read ≡ Err left → ⊥
clash read value left p q = cc

missed : {A : Type 0} (Is : A → List ℕ → Type 0) (front : List ℕ → Reading A) → Front Is front
    → (bytes : List ℕ) (left : ℕ) (m : Misfits Is bytes left) → skip bytes ≡ m.words
    → (read : Reading A) → read ≡ front (skip bytes) → read ≡ Err left
missed Is front f bytes left m at (Ok found) e =
    let t = f.takes (skip bytes) found.0 found.1 (sym e) in
    absurd (m.none found.0 t.0 found.1 (sym at ∙ t.1) t.3 t.2)
missed {A} Is front f bytes left m at (Err l) e =
    let is : l ≡ left = f.stops (skip bytes) l (sym e) ∙ ap length at ∙ sym m.count in
    ap (λ (n : ℕ). failed {A = A × List ℕ} n) is

pub word_reads : {A : Type 0} (Is : A → List ℕ → Type 0) (front : List ℕ → Reading A) → Front Is front
    → Reads (λ value. Begins (Is value)) (Misfits Is) (λ bytes. front (skip bytes))
word_reads Is front f = record {
  takes = λ bytes value rest e.
      let t = f.takes (skip bytes) value rest e in
      record {
        spaces = take (position_or_len is_other bytes) bytes;
        word = t.0;
        parts = skipped bytes ∙ ap (λ (xs : List ℕ). take (position_or_len is_other bytes) bytes ++ xs) t.1;
        only = spaces_of bytes;
        is = t.2;
        ends = t.3;
      };
  gives = λ bytes value rest b.
      let at : skip bytes ≡ b.word ++ rest =
      ap skip b.parts ∙ skip-spaces b.spaces (b.word ++ rest) b.only (f.begins value b.word rest b.is) in
      ap front at ∙ f.gives value b.word rest b.is b.ends;
  stops = λ bytes left e. record {
    spaces = take (position_or_len is_other bytes) bytes;
    words = skip bytes;
    parts = skipped bytes;
    only = spaces_of bytes;
    first = starts-skip bytes;
    count = f.stops (skip bytes) left e;
    none = λ value w rest parts ends is.
        clash (front (skip bytes)) (value, rest) left (ap front parts ∙ f.gives value w rest is ends) e;
  };
  misses = λ bytes left m.
      let at : skip bytes ≡ m.words = ap skip m.parts ∙ skip-spaces m.spaces m.words m.only m.first in
      missed Is front f bytes left m at (front (skip bytes)) refl;
}

-- ---- a word by its meaning

ends_after : (bytes : List ℕ) → ends_here (drop (position_or_len is_space bytes) bytes) ≡ true
ends_after [] = refl
ends_after (byte ∷ bytes) =
    elim (decide (nat_eq byte 32)) [
      | inl e ↦ rw (e, e) refl
      | inr e ↦ rw (e, one (position_or_len is_space bytes)) (ends_after bytes)
    ]

halves : (bytes : List ℕ) → bytes ≡ word bytes ++ behind bytes
unfolding word behind
halves bytes = sym (take-append-drop (position_or_len is_space bytes) bytes)

behind-ends : (bytes : List ℕ) → ends_here (behind bytes) ≡ true
unfolding behind
behind-ends bytes = ends_after bytes

abbrev done : {A : Type 0} → A → Result A ℕ
done x = Ok x

pub done_same : {A : Type 0} (x y : A) → done x ≡ done y → x ≡ y
done_same x y e = cc

meant_some : {A : Type 0} (o : Option A) (s : List ℕ) (value : A) (rest : List ℕ)
    → meant o s ≡ Ok (value, rest) → (o ≡ Some value) × (behind s ≡ rest)
meant_some None s value rest e = absurd cc
meant_some {A} (Some x) s value rest e =
    let p : (x, behind s) ≡ (value, rest) = done_same {A = A × List ℕ} (x, behind s) (value, rest) e in
    (ap (λ (q : A × List ℕ). Some q.0) p, ap (λ (q : A × List ℕ). q.1) p)

meant_none : {A : Type 0} (o : Option A) (s : List ℕ) (left : ℕ) → meant o s ≡ Err left → left ≡ length s
meant_none None s left e = cc
meant_none (Some x) s left e = absurd cc

-- a word that was taken has this value
pub word_found : {A : Type 0} (meaning : List ℕ → Option A) (bytes : List ℕ) (value : A) (rest : List ℕ)
    → word_at meaning bytes ≡ Ok (value, rest) → meaning (word (skip bytes)) ≡ Some value
word_found meaning bytes value rest e = (meant_some (meaning (word (skip bytes))) (skip bytes) value rest e).0

starts-word : (w rest : List ℕ) → IsWord w → starts_otherwise (w ++ rest) ≡ true
starts-word [] rest is = absurd (omega (arith, is.some))
starts-word (byte ∷ w) rest is = (and_parts (is_other byte) (list_all is_other w) is.whole).0

-- bytes that begin with a word
pub begun_skip : {Is : List ℕ → Type 0} (bytes rest : List ℕ) (b : Begins Is bytes rest) → IsWord b.word
    → skip bytes ≡ b.word ++ rest
begun_skip bytes rest b is =
    ap skip b.parts ∙ skip-spaces b.spaces (b.word ++ rest) b.only (starts-word b.word rest is)

pub begun_word : {Is : List ℕ → Type 0} (bytes rest : List ℕ) (b : Begins Is bytes rest) → IsWord b.word
    → word (skip bytes) ≡ b.word
begun_word bytes rest b is = rw (begun_skip bytes rest b is) (word-of b.word rest is.whole b.ends)

pub begun_behind : {Is : List ℕ → Type 0} (bytes rest : List ℕ) (b : Begins Is bytes rest) → IsWord b.word
    → behind (skip bytes) ≡ rest
begun_behind bytes rest b is = rw (begun_skip bytes rest b is) (behind-of b.word rest is.whole b.ends)

pub meaning_front : {A : Type 0} (Is : A → List ℕ → Type 0) (meaning : List ℕ → Option A)
    → ((w : List ℕ) (value : A) → meaning w ≡ Some value → Is value w)
    → ((w : List ℕ) (value : A) → Is value w → IsWord w × (meaning w ≡ Some value))
    → Front Is (λ s. meant (meaning (word s)) s)
meaning_front Is meaning sound full = record {
  takes = λ s value rest e.
      let p = meant_some (meaning (word s)) s value rest e in (
        word s,
        halves s ∙ ap (λ (xs : List ℕ). word s ++ xs) p.1,
        sound (word s) value p.0,
        subst (λ (xs : List ℕ). ends_here xs ≡ true) p.1 (behind-ends s),
      );
  gives = λ value w rest is ends.
      let f = full w value is in
      rw (word-of w rest f.0.whole ends, f.1, behind-of w rest f.0.whole ends) refl;
  stops = λ s left e. meant_none (meaning (word s)) s left e;
  begins = λ value w rest is. starts-word w rest (full w value is).0;
}

-- ---- one part after another

pub bind_ok : {A B : Type 0} (read : Result A ℕ) (f : A → Result B ℕ) (z : B) → read >>= f ≡ Ok z
    → (x : A) × (read ≡ Ok x) × (f x ≡ Ok z)
bind_ok (Ok x) f z e = (x, refl, e)
bind_ok (Err left) f z e = absurd cc

error_same : {A : Type 0} (m n : ℕ) → failed {A = A} m ≡ failed n → m ≡ n
error_same m n e = cc

failed_same : {A B : Type 0} (m n : ℕ) → failed {A = A} m ≡ failed n → failed {A = B} m ≡ failed n
failed_same {A} {B} m n e = ap (λ (k : ℕ). failed {A = B} k) (error_same {A = A} m n e)

pub bind_err : {A B : Type 0} (read : Result A ℕ) (f : A → Result B ℕ) (left : ℕ) → read >>= f ≡ Err left
    → (read ≡ Err left) ⊎ ((x : A) × (read ≡ Ok x) × (f x ≡ Err left))
bind_err (Ok x) f left e = inr (x, refl, e)
bind_err {A} {B} (Err l) f left e = inl (failed_same {A = B} {B = A} l left e)

pub then_reads : {A B C : Type 0} (join : A → B → C) (Has : A → List ℕ → List ℕ → Type 0)
    (FailsAt : List ℕ → ℕ → Type 0) (read : List ℕ → Reading A)
    (HasNext : A → B → List ℕ → List ℕ → Type 0) (FailsNext : A → List ℕ → ℕ → Type 0)
    (next : A → List ℕ → Reading B) → Reads Has FailsAt read
    → ((a : A) → Reads (HasNext a) (FailsNext a) (next a))
    → Reads (Then join Has HasNext) (ThenFails Has FailsAt FailsNext)
    (λ bytes. read bytes >>= λ x. next x.0 x.1 >>= λ y. Ok (join x.0 y.0, y.1))
then_reads {A} {B} {C} join Has FailsAt read HasNext FailsNext next first second = record {
  takes = λ bytes value rest e.
      let p = bind_ok (read bytes) (λ x. next x.0 x.1 >>= λ y. Ok (join x.0 y.0, y.1)) (value, rest) e in
      let q = bind_ok (next p.0.0 p.0.1) (λ y. Ok (join p.0.0 y.0, y.1)) (value, rest) p.2 in
      let is : (join p.0.0 q.0.0, q.0.1) ≡ (value, rest) = done_same {A = C × List ℕ} (join p.0.0 q.0.0, q.0.1) (value, rest) q.2 in
      let after : q.0.1 ≡ rest = ap (λ (z : C × List ℕ). z.1) is in
      record {
        first = p.0.0;
        second = q.0.0;
        middle = p.0.1;
        front = first.takes bytes p.0.0 p.0.1 p.1;
        back = subst (HasNext p.0.0 q.0.0 p.0.1) after ((second p.0.0).takes p.0.1 q.0.0 q.0.1 q.1);
        joined = sym (ap (λ (z : C × List ℕ). z.0) is);
      };
  gives = λ bytes value rest t.
      let front = first.gives bytes t.first t.middle t.front in
      let back = (second t.first).gives t.middle t.second rest t.back in
      rw (front, back, t.joined) refl;
  stops = λ bytes left e.
      elim (bind_err (read bytes) (λ x. next x.0 x.1 >>= λ y. Ok (join x.0 y.0, y.1)) left e) [
        | inl f ↦ inl (first.stops bytes left f)
        | inr p ↦ elim (bind_err (next p.0.0 p.0.1) (λ y. Ok (join p.0.0 y.0, y.1)) left p.2) [
          | inl f ↦ inr (p.0.0, p.0.1, first.takes bytes p.0.0 p.0.1 p.1, (second p.0.0).stops p.0.1 left f)
          | inr q ↦ absurd (clash (Ok (join p.0.0 q.0.0, q.0.1)) (join p.0.0 q.0.0, q.0.1) left refl q.2)
        ]
      ];
  misses = λ bytes left f.
      elim f [
        | inl f ↦ rw (first.misses bytes left f) refl
        | inr p ↦ rw (first.gives bytes p.0 p.1 p.2, (second p.0).misses p.1 left p.3) refl
      ];
}
