-- A primitive is known from its record; what holds of some primitives and of more after them.
use Rattle.std.proofs.Common.{◌≡◌, ℕ, ◌+◌, List, [], ◌∷◌, ◌++◌, refl, arith}
use Rattle.std.specs.List.{AllByRecursion}
use Rattle.kte_text.specs.Units.{utf8_of}
use Rattle.kte_text.specs.Primitives.{after, after_all}
use Rattle.kte_text.specs.declared.primitive.Primitive.{Primitive}
use Rattle.kte_text.specs.declared.primitive.Primitive.TheVariants.{Wrap, Unwrap, Insert, Remove}
use Rattle.kte_text.proofs.CharLemmas.{utf8_of_same}
use Rattle.kte_record.specs.Grammar.{starts, finishes}
use Rattle.kte_record.specs.Transactions.{record_of, IsWritable, FitOneByOne}

abbrev pub AreWritable : List Primitive → Type 0
AreWritable ps = AllByRecursion IsWritable ps

pub primitive_is : (a b : Primitive) → IsWritable a → IsWritable b → record_of a ≡ record_of b → a ≡ b
primitive_is (Wrap line column) (Wrap line₂ column₂) p q e = cc
primitive_is (Wrap line column) (Unwrap line₂) p q e = absurd (cc)
primitive_is (Wrap line column) (Insert line₂ column₂ text₂) p q e = absurd (cc)
primitive_is (Wrap line column) (Remove line₂ column₂ units₂) p q e = absurd (cc)
primitive_is (Unwrap line) (Wrap line₂ column₂) p q e = absurd (cc)
primitive_is (Unwrap line) (Unwrap line₂) p q e = cc
primitive_is (Unwrap line) (Insert line₂ column₂ text₂) p q e = absurd (cc)
primitive_is (Unwrap line) (Remove line₂ column₂ units₂) p q e = absurd (cc)
primitive_is (Insert line column text) (Wrap line₂ column₂) p q e = absurd (cc)
primitive_is (Insert line column text) (Unwrap line₂) p q e = absurd (cc)
primitive_is (Insert line column text) (Insert line₂ column₂ text₂) p q e =
    let same : utf8_of text ≡ utf8_of text₂ = cc in
    let text_is = utf8_of_same text text₂ p.line q.line same in
    cc
primitive_is (Insert line column text) (Remove line₂ column₂ units₂) p q e = absurd (cc)
primitive_is (Remove line column units) (Wrap line₂ column₂) p q e = absurd (cc)
primitive_is (Remove line column units) (Unwrap line₂) p q e = absurd (cc)
primitive_is (Remove line column units) (Insert line₂ column₂ text₂) p q e = absurd (cc)
primitive_is (Remove line column units) (Remove line₂ column₂ units₂) p q e =
    let first : column ≡ column₂ = cc in
    let last : column + units ≡ column₂ + units₂ = cc in
    let count : units ≡ units₂ = omega arith in
    cc

-- no primitive is written as a start or an end
pub no_finish : (p : Primitive) → finishes ≡ record_of p → ⊥
no_finish (Wrap line column) e = absurd (cc)
no_finish (Unwrap line) e = absurd (cc)
no_finish (Insert line column text) e = absurd (cc)
no_finish (Remove line column units) e = absurd (cc)

pub no_start : (p : Primitive) → starts ≡ record_of p → ⊥
no_start (Wrap line column) e = absurd (cc)
no_start (Unwrap line) e = absurd (cc)
no_start (Insert line column text) e = absurd (cc)
no_start (Remove line column units) e = absurd (cc)

pub writable-front : (xs ys : List Primitive) → AreWritable (xs ++ ys) → AreWritable xs
writable-front [] ys h = tt
writable-front (x ∷ xs) ys h = (h.0, writable-front xs ys h.1)

pub writable-back : (xs ys : List Primitive) → AreWritable (xs ++ ys) → AreWritable ys
writable-back [] ys h = h
writable-back (x ∷ xs) ys h = writable-back xs ys h.1

pub writable-join : (xs ys : List Primitive) → AreWritable xs → AreWritable ys → AreWritable (xs ++ ys)
writable-join [] ys p q = q
writable-join (x ∷ xs) ys p q = (p.0, writable-join xs ys p.1 q)

pub fit-front : (xs ys : List Primitive) (text : List (List ℕ)) → FitOneByOne (xs ++ ys) text → FitOneByOne xs text
fit-front [] ys text h = tt
fit-front (x ∷ xs) ys text h = (h.0, fit-front xs ys (after x text) h.1)

pub fit-back : (xs ys : List Primitive) (text : List (List ℕ)) → FitOneByOne (xs ++ ys) text → FitOneByOne ys (after_all xs text)
fit-back [] ys text h = h
fit-back (x ∷ xs) ys text h = fit-back xs ys (after x text) h.1

pub fit-join : (xs ys : List Primitive) (text : List (List ℕ)) → FitOneByOne xs text → FitOneByOne ys (after_all xs text)
    → FitOneByOne (xs ++ ys) text
fit-join [] ys text p q = q
fit-join (x ∷ xs) ys text p q = (p.0, fit-join xs ys (after x text) p.1 q)

pub after_all-join : (xs ys : List Primitive) (text : List (List ℕ)) → after_all (xs ++ ys) text ≡ after_all ys (after_all xs text)
after_all-join [] ys text = refl
after_all-join (x ∷ xs) ys text = after_all-join xs ys (after x text)
