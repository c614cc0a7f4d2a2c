-- The order of places.
use Rattle.std.proofs.Common.{◌≡◌, ℕ, ◌+◌, ◌<◌, IsTrue, ◌⊎◌, inl, inr, refl, arith}
use Rattle.std.proofs.lemmas.Bool.{or_cases, or_left, or_right, and_parts, and_from, cases_lt, ltb-true, lt-ltb, eqb-true, eq-eqb}
use Rattle.kte_place.specs.declared.place.Place.{Place}
use Rattle.kte_place.specs.Place.{at, is_before}

-- what the order means
pub before_tells : (p q : Place) → IsTrue (is_before p q)
    → (p.line < q.line) ⊎ ((p.line ≡ q.line) × (p.column < q.column))
before_tells p q h = elim (or_cases _ _ h) [
  | inl t ↦ inl (ltb-true p.line q.line t)
  | inr t ↦ inr (let e = and_parts _ _ t in (eqb-true p.line q.line e.0, ltb-true p.column q.column e.1))
]

pub on_earlier_line : (p q : Place) → p.line < q.line → IsTrue (is_before p q)
on_earlier_line p q h = or_left _ _ (lt-ltb p.line q.line h)

pub in_line_before : (p q : Place) → p.line ≡ q.line → p.column < q.column → IsTrue (is_before p q)
in_line_before p q e h = or_right _ _ (and_from _ _ (eq-eqb p.line q.line e) (lt-ltb p.column q.column h))

pub before_trans : (p q r : Place) → IsTrue (is_before p q) → IsTrue (is_before q r) → IsTrue (is_before p r)
before_trans p q r h k = elim (before_tells p q h) [
  | inl a ↦ elim (before_tells q r k) [ inl b ↦ on_earlier_line p r (omega arith) | inr b ↦ on_earlier_line p r (omega arith) ]
  | inr a ↦ elim (before_tells q r k) [ inl b ↦ on_earlier_line p r (omega arith) | inr b ↦ in_line_before p r (omega arith) (omega arith) ]
]

pub not_before_itself : (p : Place) → IsTrue (is_before p p) → ⊥
not_before_itself p h = elim (before_tells p p h) [ inl a ↦ omega arith | inr a ↦ omega arith ]

-- nothing starts before the first place
pub none_before_start : (p : Place) → IsTrue (is_before p (at 0 0)) → ⊥
none_before_start p h = elim (before_tells p (at 0 0) h) [ inl a ↦ omega arith | inr a ↦ omega arith ]

-- before a column of a line, and before the next column
pub before_more : (p : Place) (line column : ℕ) → IsTrue (is_before p (at line column)) → IsTrue (is_before p (at line (column + 1)))
before_more p line column h = before_trans p (at line column) (at line (column + 1)) h (in_line_before (at line column) (at line (column + 1)) refl (omega arith))

pub before_next : (p : Place) (line column : ℕ) → IsTrue (is_before p (at line (column + 1)))
    → IsTrue (is_before p (at line column)) ⊎ ((p.line ≡ line) × (p.column ≡ column))
before_next p line column h = elim (before_tells p (at line (column + 1)) h) [
  | inl a ↦ inl (on_earlier_line p (at line column) a)
  | inr a ↦ elim (cases_lt p.column column) [
    | inl b ↦ inl (in_line_before p (at line column) a.0 b)
    | inr b ↦ inr (a.0, omega arith)
  ]
]
