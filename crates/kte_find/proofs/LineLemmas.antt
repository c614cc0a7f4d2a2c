-- The findings of a line: from a column to the next, and from a line to the next.
use Rattle.std.proofs.Common.{◌≡◌, ℕ, ◌+◌, ◌<◌, ◌≤◌, List, [], ◌∷◌, ◌++◌, length, take, IsTrue, ◌⊎◌, inl, inr, refl, sym, subst, arith}
use Rattle.std.proofs.lemmas.Bool.{cases_lt}
use Rattle.kte_place.specs.declared.place.Place.{Place}
use Rattle.kte_place.specs.Ends.{Ends}
use Rattle.kte_place.specs.Place.{at, is_before}
use Rattle.kte_place.specs.Span.{ends}
use Rattle.kte_text.specs.Texts.{line_at}
use Rattle.kte_find.specs.declared.rule.Rule.{Rule}
use Rattle.kte_find.specs.declared.rule.Rule.TheVariants.{Word, Blanks, Long, Pairs, Repeat}
use Rattle.kte_find.specs.declared.found.TheConstants.{MAX_FINDINGS}
use Rattle.kte_find.specs.Findings.{IsInLine, IsFinding, AreFindings}
use Rattle.kte_find.specs.Inside.{AreFirst}
use Rattle.kte_find.proofs.PlaceLemmas.{before_tells, on_earlier_line, in_line_before, before_more, before_next, before_trans}
use Rattle.kte_find.proofs.FirstLemmas.{advance_none, advance_one}

next_line : (p : Place) (line column : ℕ) → IsTrue (is_before p (at line column)) → IsTrue (is_before p (at (line + 1) 0))
next_line p line column h = before_trans p (at line column) (at (line + 1) 0) h (on_earlier_line (at line column) (at (line + 1) 0) (omega arith))

-- before the next line: before the line, or on it
before_line : (p : Place) (line : ℕ) → IsTrue (is_before p (at (line + 1) 0)) → (p.line < line) ⊎ (p.line ≡ line)
before_line p line h = elim (before_tells p (at (line + 1) 0) h) [
  | inl a ↦ elim (cases_lt p.line line) [ inl b ↦ inl b | inr b ↦ inr (omega arith) ]
  | inr a ↦ absurd (omega arith)
]

same_ends : (line a b : ℕ) (s : Ends) → s.start.line ≡ line → s.end.line ≡ s.start.line
    → a ≡ s.start.column → b ≡ s.end.column → ends (at line a) (at line b) ≡ s
same_ends line a b s e f g h =
    subst (λ n. ends (at n a) (at n b) ≡ s) e
    (subst (λ n. ends (at s.start.line n) (at s.start.line b) ≡ s) (sym g)
    (subst (λ n. ends s.start (at s.start.line n) ≡ s) (sym h)
    (subst (λ n. ends s.start (at n s.end.column) ≡ s) f refl)))

module _ (P : List ℕ → ℕ → ℕ → Type 0) (text : List (List ℕ)) (line : ℕ) (units : List ℕ) (is_line : units ≡ line_at text line) (spans : List Ends) where
  -- what a span on the line has
  at_line : (s : Ends) → IsInLine P text s → s.start.line ≡ line → P units s.start.column s.end.column
  at_line s h e =
      subst (λ us. P us s.start.column s.end.column) (sym is_line)
      (subst (λ n. P (line_at text n) s.start.column s.end.column) e h.found)

  pub column_none : (column : ℕ) → AreFirst (IsInLine P text) (at line column) spans
      → ((end : ℕ) → P units column end → ⊥)
      → AreFirst (IsInLine P text) (at line (column + 1)) spans
  column_none column h none =
      advance_none (IsInLine P text) (at line column) (at line (column + 1)) spans h (λ p. before_more p line column)
      (λ s is before. elim (before_next s.start line column before) [
        | inl b ↦ b
        | inr e ↦ absurd (none s.end.column (subst (λ n. P units n s.end.column) e.1 (at_line s is e.0)))
      ])

  pub column_one : (column end : ℕ) → AreFirst (IsInLine P text) (at line column) spans
      → line < length text → P units column end
      → ((other : ℕ) → P units column other → end ≡ other)
      → AreFirst (IsInLine P text) (at line (column + 1)) (take MAX_FINDINGS (spans ++ ends (at line column) (at line end) ∷ []))
  column_one column end h there is only =
      advance_one (IsInLine P text) (at line column) (at line (column + 1)) spans (ends (at line column) (at line end)) h
      (λ p. before_more p line column)
      (record { there = there; same = refl; found = subst (λ us. P us column end) is_line is })
      (in_line_before (at line column) (at line (column + 1)) refl (omega arith))
      (λ p b. b)
      (λ s t before. elim (before_next s.start line column before) [
        | inl b ↦ inl b
        | inr e ↦ inr (same_ends line column end s e.0 t.same (sym e.1)
            (only s.end.column (subst (λ n. P units n s.end.column) e.1 (at_line s t e.0))))
      ])

  pub line_done : (count : ℕ) → AreFirst (IsInLine P text) (at line count) spans
      → ((start end : ℕ) → P units start end → start < count)
      → AreFirst (IsInLine P text) (at (line + 1) 0) spans
  line_done count h inside =
      advance_none (IsInLine P text) (at line count) (at (line + 1) 0) spans h (λ p. next_line p line count)
      (λ s is before. elim (before_line s.start line before) [
        | inl b ↦ on_earlier_line s.start (at line count) b
        | inr e ↦ in_line_before s.start (at line count) e (inside s.start.column s.end.column (at_line s is e))
      ])

  pub line_one : (start end : ℕ) → AreFirst (IsInLine P text) (at line 0) spans
      → line < length text → P units start end
      → ((s e : ℕ) → P units s e → (start ≡ s) × (end ≡ e))
      → AreFirst (IsInLine P text) (at (line + 1) 0) (take MAX_FINDINGS (spans ++ ends (at line start) (at line end) ∷ []))
  line_one start end h there is only =
      advance_one (IsInLine P text) (at line 0) (at (line + 1) 0) spans (ends (at line start) (at line end)) h
      (λ p. next_line p line 0)
      (record { there = there; same = refl; found = subst (λ us. P us start end) is_line is })
      (on_earlier_line (at line start) (at (line + 1) 0) (omega arith))
      (λ p b. elim (before_tells p (at line 0) b) [
        | inl a ↦ on_earlier_line p (at line start) a
        | inr a ↦ absurd (omega arith)
      ])
      (λ s t before. elim (before_line s.start line before) [
        | inl b ↦ inl (on_earlier_line s.start (at line 0) b)
        | inr e ↦ inr (let f = only s.start.column s.end.column (at_line s t e) in
            same_ends line start end s e t.same f.0 f.1)
      ])

  pub line_none : AreFirst (IsInLine P text) (at line 0) spans
      → ((start end : ℕ) → P units start end → ⊥)
      → AreFirst (IsInLine P text) (at (line + 1) 0) spans
  line_none h none = line_done 0 h (λ start end is. absurd (none start end is))

-- a rule that looks at each line by itself finds nothing past the last one
finds_in_text : (rule : Rule) (text : List (List ℕ)) (s : Ends) → (rule ≡ Pairs → ⊥) → IsFinding rule text s → s.start.line < length text
finds_in_text (Word word) text s by_line h = h.there
finds_in_text Blanks text s by_line h = h.there
finds_in_text (Long limit) text s by_line h = h.there
finds_in_text Pairs text s by_line h = absurd (by_line refl)
finds_in_text Repeat text s by_line h = h.there

pub all_lines : (rule : Rule) (text : List (List ℕ)) (line : ℕ) (spans : List Ends) → (rule ≡ Pairs → ⊥) → length text ≤ line
    → AreFirst (IsFinding rule text) (at line 0) spans → AreFindings rule text spans
all_lines rule text line spans by_line past h = record {
  all = h.all;
  are_all = record {
    each = λ s. (
      λ t. ((h.are_all.each s).0 t).has,
      λ t. let inside = finds_in_text rule text s by_line t in
          (h.are_all.each s).1 (record { has = t; before = on_earlier_line s.start (at line 0) (omega arith) }),
    );
    ordered = h.are_all.ordered;
  };
  first = h.first;
}
