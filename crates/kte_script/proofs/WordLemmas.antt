-- Where words begin and end, and what the first of them means.
use Rattle.std.proofs.Common.{◌≡◌, ℕ, Bool, true, false, cond, ltb, length, ◌≤◌, List, [], take, drop, Option, None, Some, Result, Ok, Err, refl, sym, ap, ◌∙◌, arith}
use Rattle.std.specs.Prelude.{not, unwrap_or}
use Rattle.std.specs.Option.{ok_or}
use Rattle.std.specs.List.{position, position_or_len}
use Rattle.std.proofs.lemmas.Bool.{ltb-false}
use Rattle.std.proofs.lemmas.List.Sums.{prefix_len-le-length}
use Rattle.std.proofs.Math.Seq.{take-length, drop-length}
use Rattle.kte_script.specs.Words.{is_space, is_other, skip, word, behind}
use Rattle.kte_script.specs.Fields.{word_at}
use Rattle.kte_script.specs.Reading.{Moves}
use Rattle.kte_script.specs.declared.fault.ReadError.{ReadError}
use Rattle.kte_script.specs.declared.fault.ReadError.TheVariants as errors

-- a value that is there only if a test holds
pub found : (b : Bool) (n i : ℕ) → cond b (Some n) None ≡ Some i → (b ≡ true) × (n ≡ i)
found true n i e = (refl, cc)
found false n i e = absurd cc

missed : (b : Bool) (n : ℕ) → cond b (Some n) None ≡ None → b ≡ false
missed true n e = absurd cc
missed false n e = refl

pub at_position : (p : ℕ → Bool) (xs : List ℕ) (i : ℕ) → position p xs ≡ Some i
    → position_or_len p xs ≡ i
at_position p xs i e =
    (found (ltb (position_or_len p xs) (length xs)) (position_or_len p xs) i e).1

pub at_end : (p : ℕ → Bool) (xs : List ℕ) → position p xs ≡ None → position_or_len p xs ≡ length xs
at_end p xs e =
    let past : length xs ≤ position_or_len p xs =
    ltb-false _ _ (missed (ltb (position_or_len p xs) (length xs)) (position_or_len p xs) e) in
    omega (arith, prefix_len-le-length (λ x. not (p x)) xs)

-- the position of an element, or the length
pub position_or : (p : ℕ → Bool) (xs : List ℕ) (place : Option ℕ) → place ≡ position p xs
    → unwrap_or place (length xs) ≡ position_or_len p xs
position_or p xs None e = sym (at_end p xs (sym e))
position_or p xs (Some i) e = sym (at_position p xs i (sym e))

pub skip_at : (bytes rest : List ℕ) (i : ℕ) → position is_other bytes ≡ Some i
    → rest ≡ drop i bytes → rest ≡ skip bytes
unfolding skip
skip_at bytes rest i e is = is ∙ ap (λ n. drop n bytes) (sym (at_position is_other bytes i e))

pub skip_all : (bytes : List ℕ) → position is_other bytes ≡ None → [] ≡ skip bytes
unfolding skip
skip_all bytes e = sym (drop-length bytes) ∙ ap (λ n. drop n bytes) (sym (at_end is_other bytes e))

pub word_to : (bytes front : List ℕ) (i : ℕ) → position is_space bytes ≡ Some i
    → front ≡ take i bytes → front ≡ word bytes
unfolding word
word_to bytes front i e is = is ∙ ap (λ n. take n bytes) (sym (at_position is_space bytes i e))

pub word_all : (bytes : List ℕ) → position is_space bytes ≡ None → bytes ≡ word bytes
unfolding word
word_all bytes e = sym (take-length bytes) ∙ ap (λ n. take n bytes) (sym (at_end is_space bytes e))

pub behind_at : (bytes rest : List ℕ) (i : ℕ) → position is_space bytes ≡ Some i
    → rest ≡ drop i bytes → rest ≡ behind bytes
unfolding behind
behind_at bytes rest i e is = is ∙ ap (λ n. drop n bytes) (sym (at_position is_space bytes i e))

pub behind_all : (bytes : List ℕ) → position is_space bytes ≡ None → [] ≡ behind bytes
unfolding behind
behind_all bytes e = sym (drop-length bytes) ∙ ap (λ n. drop n bytes) (sym (at_end is_space bytes e))

-- a first word that has a value, and one that has none
pub word_ok : {A : Type 0} (meaning : List ℕ → Option A) (bytes first w rest : List ℕ) (value : A)
    → first ≡ skip bytes → w ≡ word first → rest ≡ behind first → meaning w ≡ Some value
    → word_at meaning bytes ≡ Ok (value, rest)
word_ok meaning bytes first w rest value is_first is_w is_rest e =
    let there : meaning (word (skip bytes)) ≡ Some value = rw (← is_first, ← is_w) e in
    rw (there, is_rest, is_first) refl

pub word_bad : {A : Type 0} (meaning : List ℕ → Option A) (bytes first w : List ℕ)
    → first ≡ skip bytes → w ≡ word first → meaning w ≡ None
    → word_at meaning bytes ≡ Err (length first)
word_bad meaning bytes first w is_first is_w e =
    let there : meaning (word (skip bytes)) ≡ None = rw (← is_first, ← is_w) e in
    rw (there, is_first) refl

-- the first word was taken, and has a value or none
pub moved : {A : Type 0} (meaning : List ℕ → Option A) (bytes w after : List ℕ) (left : ℕ) (value : Option A)
    (result : Result A ReadError) → w ≡ word (skip bytes) → left ≡ length (skip bytes)
    → after ≡ behind (skip bytes) → value ≡ meaning w → result ≡ ok_or value (errors.Misfit left)
    → Moves result after (word_at meaning bytes)
moved meaning bytes w after left (Some x) result is_w is_left is_after e is =
    let there : meaning (word (skip bytes)) ≡ Some x = rw (← is_w) (sym e) in
    rw (is, there, is_after) refl
moved meaning bytes w after left None result is_w is_left is_after e is =
    let there : meaning (word (skip bytes)) ≡ None = rw (← is_w) (sym e) in
    rw (is, there, is_left) refl
