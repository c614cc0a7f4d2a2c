-- The bytes of a record that is written in two parts, and of records one after another.
use Rattle.std.proofs.Common.{◌≡◌, ℕ, zero, suc, ◌+◌, ◌-◌, ◌≤◌, List, [], ◌∷◌, ◌++◌, length, take, drop, Some, subst, sym, ap, ◌∙◌, append_assoc, append-nil, arith}
use Rattle.std.specs.Prelude.{slice_get}
use Rattle.std.specs.List.{AllByRecursion}
use Rattle.std.proofs.lemmas.Grind.{flat_map-append}
use Rattle.std.proofs.lemmas.List.{length-append, take-append-drop, take_more}
use Rattle.std.proofs.lemmas.Option.{slice_get_within, get_or_from_slice_get}
use Rattle.std.proofs.lemmas.Slice.{take-put_mid, drop-put_mid}
use Rattle.std.proofs.Math.Seq.{take-append_seam, drop-append-add}
use borrow.Rule.Slice.PartMut.{put_mid}
use Rattle.kte_text.specs.declared.primitive.Primitive.{Primitive}
use Rattle.kte_record.specs.Grammar.{inserts, number, spelling}
use Rattle.kte_record.specs.Transactions.{record_of, records}

-- a part of a list from `at` up to `end`, overwritten
pub put_mid-is : (at k end : ℕ) (xs ys : List ℕ) → at + k ≡ end → end ≤ length xs → length ys ≡ k → put_mid at k xs ys ≡ take at xs ++ ys ++ drop end xs
put_mid-is at k end xs ys to fits long =
    let new = put_mid at k xs ys in
    sym (take-append-drop end new)
    ∙ ap (λ (l : List ℕ). l ++ drop end new) (take-put_mid at k xs ys end (omega (arith, long, to)) (omega arith))
    ∙ ap (λ (l : List ℕ). (take at xs ++ ys) ++ l) (drop-put_mid at k xs ys end (omega (arith, to)) (omega arith) long)

-- an insertion of nothing, then the text, then the text's length in its place
pub insertion-bytes : (before items : List ℕ) (line column : ℕ) (text : List ℕ) (start : ℕ)
    → items ≡ (before ++ spelling (inserts line column [])) ++ text → start ≡ length before + 13
    → take (start - 4) items ++ number (length text) ++ drop (start - 4 + 4) items ≡ before ++ spelling (inserts line column text)
insertion-bytes before items line column text start at place =
    let head : List ℕ = 0x49 ∷ number line ++ number column in
    let front = before ++ head in
    let rest = number 0 ++ text in
    let long : length front ≡ start - 4 = length-append before head ∙ omega (arith, place) in
    let whole : items ≡ front ++ rest =
    at ∙ append_assoc before (spelling (inserts line column [])) text ∙ sym (append_assoc before head rest) in
    let first : take (start - 4) items ≡ front =
    ap (take (start - 4)) whole ∙ ap (λ (n : ℕ). take n (front ++ rest)) (sym long) ∙ take-append_seam front rest in
    let last : drop (start - 4 + 4) items ≡ text =
    ap (drop (start - 4 + 4)) whole ∙ ap (λ (n : ℕ). drop (n + 4) (front ++ rest)) (sym long) ∙ drop-append-add front rest 4 in
    ap (λ (l : List ℕ). l ++ number (length text) ++ drop (start - 4 + 4) items) first
    ∙ ap (λ (l : List ℕ). front ++ number (length text) ++ l) last
    ∙ append_assoc front (number (length text)) text
    ∙ append_assoc before head (number (length text) ++ text)

-- what holds of all holds of the one at an index
pub All-at : (P : Primitive → Type 0) (xs : List Primitive) (n : ℕ) (x : Primitive) → AllByRecursion P xs → slice_get xs n ≡ Some x → P x
All-at P [] n x all at = absurd (omega (arith, slice_get_within [] n x at))
All-at P (y ∷ xs) zero x all at = let e : y ≡ x = cc in subst P e all.0
All-at P (y ∷ xs) (suc n) x all at = All-at P xs n x all.1 at

pub All-push : (P : Primitive → Type 0) (xs : List Primitive) (x : Primitive) → AllByRecursion P xs → P x → AllByRecursion P (xs ++ x ∷ [])
All-push P [] x all p = (p, tt)
All-push P (y ∷ xs) x all p = (all.0, All-push P xs x all.1 p)

pub take-one_more : (xs : List Primitive) (n : ℕ) (x : Primitive) → slice_get xs n ≡ Some x → take (n + 1) xs ≡ take n xs ++ x ∷ []
take-one_more xs n x at =
    take_more xs n x (slice_get_within xs n x at) ∙ ap (λ (y : Primitive). take n xs ++ y ∷ []) (get_or_from_slice_get xs n x x at)

pub records-push : (xs : List Primitive) (x : Primitive) → records (xs ++ x ∷ []) ≡ records xs ++ spelling (record_of x)
records-push xs x =
    flat_map-append (λ (p : Primitive). spelling (record_of p)) xs (x ∷ [])
    ∙ ap (λ (l : List ℕ). records xs ++ l) (append-nil (spelling (record_of x)))
