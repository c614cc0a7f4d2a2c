-- A record is known from its bytes, and so is where it ends.
use Rattle.std.proofs.Common.{◌≡◌, ◌⊎◌, ◌↔◌, inl, inr, ℕ, zero, suc, ◌+◌, ◌<◌, ◌≤◌, List, [], ◌++◌, length, get_or, take, drop, subst, refl, sym, ap, ◌∙◌, append_assoc, append-nil, arith}
use Rattle.std.specs.Prelude.{if◌then◌else◌, ◌==◌}
use Rattle.std.specs.Int.{w32, from_be_bytes}
use Rattle.std.specs.List.{Contains}
use Rattle.std.proofs.lemmas.Bool.{cases_lt}
use Rattle.std.proofs.lemmas.List.{length-append, take_at, drop_at, take-append-drop}
use Rattle.std.proofs.Math.Seq.{take-take}
use Rattle.std.proofs.lemmas.Nat.{from_be_bytes-to_be_bytes_4}
use Rattle.kte_record.specs.Grammar.{Item, starts, finishes, wraps, unwraps, inserts, removes, number, spelling, IsRecord, Begins, IsCutShort, IsUnknown, FirstFault, field_starts, field_end}
use Rattle.kte_record.specs.declared.record.TheConstants.{MAX_NUMBER}

-- the number that stands at an offset
abbrev number_at : ℕ → List ℕ → ℕ
number_at at bytes = from_be_bytes w32 (take 4 (drop at bytes))

-- how many bytes the record takes that begins so
abbrev span : List ℕ → ℕ
span bytes =
    let tag = get_or bytes 0 0 in
    if tag == 0x57 then 9 else if tag == 0x55 then 5
    else if tag == 0x52 then 13 else if tag == 0x49 then 13 + number_at 9 bytes else 1

-- the record of these bytes
abbrev read_back : List ℕ → Item
read_back bytes =
    let tag = get_or bytes 0 0 in
    if tag == 0x53 then starts else if tag == 0x45 then finishes
    else if tag == 0x57 then wraps (number_at 1 bytes) (number_at 5 bytes)
    else if tag == 0x55 then unwraps (number_at 1 bytes)
    else if tag == 0x52 then removes (number_at 1 bytes) (number_at 5 bytes) (number_at 9 bytes)
    else inserts (number_at 1 bytes) (number_at 5 bytes) (drop 13 bytes)

back : (n : ℕ) → n ≤ MAX_NUMBER → from_be_bytes w32 (number n) ≡ n
back n le = from_be_bytes-to_be_bytes_4 n (omega (arith, le))

span-spelling : (item : Item) (rest : List ℕ) → IsRecord item → span (spelling item ++ rest) ≡ length (spelling item)
span-spelling starts rest h = refl
span-spelling finishes rest h = refl
span-spelling (wraps line column) rest h = refl
span-spelling (unwraps line) rest h = refl
span-spelling (removes line start end) rest h = refl
span-spelling (inserts line column text) rest h =
    ap (λ (n : ℕ). 13 + n) (back (length text) (omega (arith, h.2))) ∙ omega arith

read_back-spelling : (item : Item) → IsRecord item → read_back (spelling item) ≡ item
read_back-spelling starts h = refl
read_back-spelling finishes h = refl
read_back-spelling (wraps line column) h = rw (back line h.0, back column h.1) refl
read_back-spelling (unwraps line) h = rw (back line h) refl
read_back-spelling (removes line start end) h = rw (back line h.0, back start h.1, back end h.2) refl
read_back-spelling (inserts line column text) h = rw (back line h.0, back column h.1) refl

pub one_record : (a b : Item) (x y : List ℕ) → IsRecord a → IsRecord b → spelling a ++ x ≡ spelling b ++ y
    → (a ≡ b) × (x ≡ y)
one_record a b x y p q e =
    let len : length (spelling a) ≡ length (spelling b) =
    sym (span-spelling a x p) ∙ ap span e ∙ span-spelling b y q in
    let same : spelling a ≡ spelling b =
    sym (take_at (spelling a) x (length (spelling a)) refl)
    ∙ ap (λ (l : List ℕ). take (length (spelling a)) l) e ∙ take_at (spelling b) y (length (spelling a)) (sym len) in
    let rest : x ≡ y =
    sym (drop_at (spelling a) x (length (spelling a)) refl)
    ∙ ap (λ (l : List ℕ). drop (length (spelling a)) l) e ∙ drop_at (spelling b) y (length (spelling a)) (sym len) in
    (sym (read_back-spelling a p) ∙ ap read_back same ∙ read_back-spelling b q, rest)

-- bytes that are cut short have no whole record in front
pub cut_not_whole : (bytes : List ℕ) (item : Item) → IsCutShort bytes → Begins bytes item → ⊥
cut_not_whole bytes item c b =
    let same = one_record c.item item [] (b.rest ++ c.missing) c.is_record b.is_record
    (append-nil (spelling c.item) ∙ c.spelled ∙ ap (λ (l : List ℕ). l ++ c.missing) b.spelled ∙ append_assoc (spelling item) b.rest c.missing) in
    omega (arith, c.some, ap length same.1, length-append b.rest c.missing)

-- nor have they a field at fault, and neither have bytes with a whole record in front
pub unknown_not_cut : (bytes : List ℕ) → IsUnknown bytes → IsCutShort bytes → ⊥
unknown_not_cut bytes u c = u c.item c.missing [] c.is_record (sym c.spelled ∙ sym (append-nil (spelling c.item)))

pub unknown_not_whole : (bytes : List ℕ) (item : Item) → IsUnknown bytes → Begins bytes item → ⊥
unknown_not_whole bytes item u b = u item [] b.rest b.is_record (append-nil bytes ∙ b.spelled)

-- bytes with a field at fault begin no record
pub fault_unknown : (bytes : List ℕ) (at : ℕ) → FirstFault bytes at → IsUnknown bytes
fault_unknown bytes at f item more rest h e =
    let n = field_end at in
    f.fault item (drop n bytes ++ more) rest h
    (sym (append_assoc (take n bytes) (drop n bytes) more) ∙ ap (λ (l : List ℕ). l ++ more) (take-append-drop n bytes) ∙ e)

-- where a field ends, by where it starts
end_by : (at : ℕ) → Contains field_starts at
    → ((at ≡ 0) × (field_end at ≡ 1)) ⊎ ((field_end at ≡ at + 4) × ((at ≡ 1) ⊎ ((at ≡ 5) ⊎ (at ≡ 9))))
end_by at (zero, l, e) = inl (sym e, ap field_end (sym e))
end_by at (suc zero, l, e) = inr (ap field_end (sym e) ∙ omega (arith, e), inl (sym e))
end_by at (suc (suc zero), l, e) = inr (ap field_end (sym e) ∙ omega (arith, e), inr (inl (sym e)))
end_by at (suc (suc (suc zero)), l, e) = inr (ap field_end (sym e) ∙ omega (arith, e), inr (inr (sym e)))
end_by at (suc (suc (suc (suc k))), l, e) = absurd (omega (arith, l))

-- a later field starts where the earlier one ends, or after that
apart : (a b : ℕ) → Contains field_starts a → Contains field_starts b → a < b → field_end a ≤ b
apart a b p q lt = let x = end_by a p in let y = end_by b q in grind arith

later_fault : (bytes : List ℕ) (a b : ℕ) → FirstFault bytes a → FirstFault bytes b → a < b → ⊥
later_fault bytes a b p q lt =
    let n = field_end a in
    let cut = q.before in
    let front : take n (take b bytes) ≡ take n bytes = take-take n b bytes (apart a b p.field q.field lt) in
    p.fault cut.item (drop n (take b bytes) ++ cut.missing) [] cut.is_record
    (sym (append_assoc (take n bytes) (drop n (take b bytes)) cut.missing)
    ∙ ap (λ (l : List ℕ). (l ++ drop n (take b bytes)) ++ cut.missing) (sym front)
    ∙ ap (λ (l : List ℕ). l ++ cut.missing) (take-append-drop n (take b bytes))
    ∙ sym cut.spelled ∙ sym (append-nil (spelling cut.item)))

-- there is one first field at fault
pub one_fault : (bytes : List ℕ) (a b : ℕ) → FirstFault bytes a → FirstFault bytes b → a ≡ b
one_fault bytes a b p q =
    elim (cases_lt a b) [
      | inl lt ↦ absurd (later_fault bytes a b p q lt)
      | inr le ↦ elim (cases_lt b a) [
        | inl lt ↦ absurd (later_fault bytes b a q p lt)
        | inr ge ↦ omega (arith, le, ge)
      ]
    ]

-- the record with which the bytes begin is the only one
pub got_exactly : (bytes : List ℕ) (found : Item) (used : ℕ) → Begins bytes found → used ≡ length (spelling found)
    → (item : Item) → ((found ≡ item) × (used ≡ length (spelling item))) ↔ Begins bytes item
got_exactly bytes found used begins long item = (
  (λ is. subst (Begins bytes) is.0 begins),
  (λ other.
      let same = one_record found item begins.rest other.rest begins.is_record other.is_record (sym begins.spelled ∙ other.spelled) in
      (same.0, long ∙ ap (λ (i : Item). length (spelling i)) same.0)),
)
