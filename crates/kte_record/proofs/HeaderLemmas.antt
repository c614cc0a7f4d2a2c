-- The header of a swap file.
use Rattle.std.proofs.Common.{◌≡◌, inl, inr, ℕ, ◌≤◌, List, [], ◌∷◌, ◌++◌, length, take, drop, min, refl, sym, ap, ◌∙◌, append_assoc, append-nil, arith}
use Rattle.std.proofs.lemmas.Bool.{cases_lt}
use Rattle.std.proofs.lemmas.List.{length-append, length-take, length-drop, take_all, take_at, take-append-drop, take-append-le, take-take}
use Rattle.kte_record.specs.Grammar.{version_bytes, header, HasVersion, HasHeader}

-- as many bytes of them as there are
same_front : (bytes : List ℕ) (count : ℕ) → count ≡ min (length bytes) 26 → take 26 bytes ≡ take count bytes
same_front bytes count e =
    elim (cases_lt (length bytes) 26) [
      | inl lt ↦ take_all 26 bytes (omega arith) ∙ sym (take_all count bytes (omega (arith, e, lt)))
      | inr le ↦ let same : 26 ≡ count = omega (arith, e, le) in ap (λ (n : ℕ). take n bytes) same
    ]

pub version_by_front : (bytes : List ℕ) (count : ℕ) → count ≡ min (length bytes) 26 → take count bytes ≡ take count version_bytes → HasVersion bytes
version_by_front bytes count e same = (
  drop count version_bytes,
  sym (take-append-drop count version_bytes)
      ∙ ap (λ (l : List ℕ). l ++ drop count version_bytes) (sym (same_front bytes count e ∙ same)),
)

pub front_by_version : (bytes : List ℕ) (count : ℕ) → count ≡ min (length bytes) 26 → HasVersion bytes → take count bytes ≡ take count version_bytes
front_by_version bytes count e v =
    sym (ap (λ (l : List ℕ). take count l) v.1
    ∙ take-append-le count (take 26 bytes) v.0 (omega (arith, e, length-take 26 bytes))
    ∙ take-take count 26 bytes (omega (arith, e)))

-- the version stands whole in front
pub whole_version : (bytes : List ℕ) → HasVersion bytes → 26 ≤ length bytes → bytes ≡ version_bytes ++ drop 26 bytes
whole_version bytes v long =
    let none : v.0 ≡ [] = empty v.0 (omega (arith, ap length v.1, length-append (take 26 bytes) v.0, length-take 26 bytes, long)) in
    sym (take-append-drop 26 bytes)
    ∙ ap (λ (l : List ℕ). l ++ drop 26 bytes) (sym (v.1 ∙ ap (λ (l : List ℕ). take 26 bytes ++ l) none ∙ append-nil (take 26 bytes)))
  where
    empty : (l : List ℕ) → length l ≡ 0 → l ≡ []
    empty [] h = refl
    empty (x ∷ l) h = absurd (omega (arith, h))

pub header_by_length : (bytes : List ℕ) → HasVersion bytes → 46 ≤ length bytes → HasHeader bytes (take 20 (drop 26 bytes))
header_by_length bytes v long = record {
  long = length-take 20 (drop 26 bytes) ∙ omega (arith, length-drop 26 bytes, long);
  rest = drop 20 (drop 26 bytes);
  spelled = whole_version bytes v (omega (arith, long))
      ∙ ap (λ (l : List ℕ). version_bytes ++ l) (sym (take-append-drop 20 (drop 26 bytes)))
      ∙ sym (append_assoc version_bytes (take 20 (drop 26 bytes)) (drop 20 (drop 26 bytes)));
}

pub version_by_header : (bytes digest : List ℕ) → HasHeader bytes digest → HasVersion bytes
version_by_header bytes digest h = (
  [],
  sym (append-nil (take 26 bytes) ∙ ap (λ (l : List ℕ). take 26 l) h.spelled ∙ refl),
)

pub length_by_header : (bytes digest : List ℕ) → HasHeader bytes digest → 46 ≤ length bytes
length_by_header bytes digest h =
    omega (arith, ap length h.spelled, length-append (header digest) h.rest, length-append version_bytes digest, h.long)

-- the digest is the 20 bytes after the version
pub one_digest : (bytes digest : List ℕ) → HasHeader bytes digest → take 20 (drop 26 bytes) ≡ digest
one_digest bytes digest h =
    ap (λ (l : List ℕ). take 20 (drop 26 l)) h.spelled ∙ take_at digest h.rest 20 h.long
