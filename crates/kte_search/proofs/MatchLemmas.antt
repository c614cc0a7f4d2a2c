-- Matches of a text from the columns of its lines.
use Rattle.std.proofs.Common.{◌≡◌, ℕ, zero, suc, ◌+◌, ◌<◌, ◌≤◌, List, [], ◌∷◌, ◌++◌, length, IsTrue, arith, refl, sym, subst, inl, inr, ◌⊎◌, ◌↔◌, lit<}
use Rattle.std.proofs.lemmas.Bool.Decides.{nat_tests}
use Rattle.kte_text.specs.Texts.{line_at}
use Rattle.kte_place.specs.declared.place.Place.{Place}
use Rattle.kte_place.specs.Ends.{Ends}
use Rattle.kte_place.specs.Place.{at, is_at_or_before}
use Rattle.kte_place.specs.Span.{ends}
use Rattle.kte_search.specs.declared.query.Query.{Query}
use Rattle.kte_search.specs.Matches.{IsMatch, IsFirst, IsLast, HasNone, HasNoneFrom, AreAll, FollowFrom, end_of_last, MatchesIn}
use Rattle.kte_search.specs.declared.search.TheConstants.{MAX_MATCHES}
use Rattle.kte_search.specs.Inside.{IsFirstColumn, IsLastColumn, first_column, last_column}

-- two places, each at or before the other
same_place : (p q : Place) → IsTrue (is_at_or_before p q) → IsTrue (is_at_or_before q p) → p ≡ q
same_place p q a b =
    let l : p.line ≡ q.line = grind (arith, nat_tests) in
    let c : p.column ≡ q.column = grind (arith, nat_tests) in
    let e : at p.line p.column ≡ at q.line q.column = cc in e

same_match : (q : Query) (text : List (List ℕ)) (s t : Ends) → IsMatch q text s → IsMatch q text t → s.start ≡ t.start → s ≡ t
same_match q text s t a b e =
    let x = a.end in
    let y = b.end in
    let same : s.end ≡ t.end = cc in
    let whole : ends s.start s.end ≡ ends t.start t.end = cc in whole

pub one_first : (q : Query) (text : List (List ℕ)) (from : Place) (s t : Ends)
    → IsFirst q text from s → IsFirst q text from t → s ≡ t
one_first q text from s t a b =
    same_match q text s t a.is_match b.is_match
    (same_place s.start t.start (a.least t b.is_match b.after) (b.least s a.is_match a.after))

pub one_last : (q : Query) (text : List (List ℕ)) (before : Place) (s t : Ends)
    → IsLast q text before s → IsLast q text before t → s ≡ t
one_last q text before s t a b =
    same_match q text s t a.is_match b.is_match
    (same_place s.start t.start (b.greatest s a.is_match a.inside) (a.greatest t b.is_match b.inside))

-- a place at or after another is at or after its column where the line is the same
at_or_after : (from : Place) (line column : ℕ) → from.line ≤ line
    → first_column from line ≤ column → IsTrue (is_at_or_before from (at line column))
at_or_after from line column a h = grind (arith, nat_tests)

column_after : (from p : Place) (line : ℕ) → line ≡ p.line → IsTrue (is_at_or_before from p) → first_column from line ≤ p.column
column_after from p line e h = grind (arith, nat_tests)

-- a place is at or before another where its column is at most that one's on the same line
at_or_before : (before : Place) (line column : ℕ) (units : List ℕ) → line ≤ before.line
    → column ≤ last_column before line units → IsTrue (is_at_or_before (at line column) before)
at_or_before before line column units a h = grind (arith, nat_tests)

column_before : (before : Place) (line column : ℕ) (units : List ℕ) → column ≤ length units
    → IsTrue (is_at_or_before (at line column) before) → column ≤ last_column before line units
column_before before line column units a h = grind (arith, nat_tests)

earlier_line : (p q : Place) → p.line < q.line → IsTrue (is_at_or_before p q)
earlier_line p q h = grind (arith, nat_tests)

same_line : (p q : Place) → p.line ≡ q.line → p.column ≤ q.column → IsTrue (is_at_or_before p q)
same_line p q e h = grind (arith, nat_tests)

less_or_same : (a b : ℕ) → a ≤ b → (a < b) ⊎ (a ≡ b)
less_or_same a b h = grind arith

-- a match on this line is one of its columns
column_of : (q : Query) (text : List (List ℕ)) (t : Ends) (line : ℕ) → line ≡ t.start.line → IsMatch q text t
    → MatchesIn q (line_at text line) t.start.column
column_of q text t line e m = subst (λ (n : ℕ). MatchesIn q (line_at text n) t.start.column) (sym e) m.units

end_of : (q : Query) (text : List (List ℕ)) (t : Ends) (line : ℕ) → line ≡ t.start.line → IsMatch q text t
    → t.end ≡ at line (t.start.column + length q.pattern)
end_of q text t line e m = let n = m.end in cc

-- the first match is on the first line that has one
pub first_on_line : (q : Query) (text : List (List ℕ)) (from : Place) (line column : ℕ)
    → line < length text → from.line ≤ line
    → ((t : Ends) → IsMatch q text t → IsTrue (is_at_or_before from t.start) → line ≤ t.start.line)
    → IsFirstColumn q (line_at text line) (first_column from line) column
    → IsFirst q text from (ends (at line column) (at line (column + length q.pattern)))
first_on_line q text from line column there a none h = record {
  is_match = record { line = there; units = h.here; end = refl };
  after = at_or_after from line column a h.after;
  least = λ t m f. elim (less_or_same line t.start.line (none t m f)) [
    | inl l ↦ earlier_line (at line column) t.start l
    | inr e ↦ same_line (at line column) t.start e
        (h.least t.start.column (column_after from t.start line e f) (column_of q text t line e m))
  ];
}

-- the last match is on the last line that has one
pub last_on_line : (q : Query) (text : List (List ℕ)) (before : Place) (line column : ℕ)
    → line < length text → line ≤ before.line
    → ((t : Ends) → IsMatch q text t → IsTrue (is_at_or_before t.end before) → t.start.line ≤ line)
    → IsLastColumn q (line_at text line) (last_column before line (line_at text line)) column
    → IsLast q text before (ends (at line column) (at line (column + length q.pattern)))
last_on_line q text before line column there a none h =
    let units = line_at text line in
    record {
      is_match = record { line = there; units = h.here; end = refl };
      inside = at_or_before before line (column + length q.pattern) units a h.inside;
      greatest = λ t m f. elim (less_or_same t.start.line line (none t m f)) [
        | inl l ↦ earlier_line t.start (at line column) l
        | inr e ↦
            let here : MatchesIn q units t.start.column = column_of q text t line (sym e) m in
            let end = end_of q text t line (sym e) m in
            same_line t.start (at line column) e
            (h.greatest t.start.column (column_before before line (t.start.column + length q.pattern) units here.within (rw end at f)) here)
      ];
    }

-- one more match at the end
pub follow_more : (q : Query) (text : List (List ℕ)) (from : Place) (spans : List Ends) (s : Ends)
    → FollowFrom q text from spans → IsFirst q text (end_of_last from spans) s → FollowFrom q text from (spans ++ s ∷ [])
follow_more q text from [] s h f = (f, tt)
follow_more q text from (t ∷ rest) s h f = (h.0, follow_more q text t.end rest s h.1 f)

pub end_more : (from : Place) (spans : List Ends) (s : Ends) → end_of_last from (spans ++ s ∷ []) ≡ s.end
end_more from [] s = refl
end_more from (t ∷ rest) s = end_more t.end rest s

from_start : (p : Place) → IsTrue (is_at_or_before (at 0 0) p)
from_start p = grind (arith, nat_tests)

-- there is no match exactly where none was found
pub none_found : (q : Query) (text : List (List ℕ)) (spans : List Ends) → AreAll q text spans → (spans ≡ []) ↔ HasNone q text
none_found q text [] h = ((λ e t m. h.whole (lit< tt) t m (from_start t.start)), (λ none. refl))
none_found q text (s ∷ rest) h = ((λ e. absurd (cc)), (λ none. absurd (none s h.in_order.0.is_match)))

one_follow : (q : Query) (text : List (List ℕ)) (room : ℕ) (from : Place) (a b : List Ends)
    → FollowFrom q text from a → FollowFrom q text from b → length a ≤ room → length b ≤ room
    → (length a < room → HasNoneFrom q text (end_of_last from a))
    → (length b < room → HasNoneFrom q text (end_of_last from b)) → a ≡ b
one_follow q text room from [] [] f g la lb na nb = refl
one_follow q text room from [] (t ∷ b) f g la lb na nb = absurd (na (omega arith) t g.0.is_match g.0.after)
one_follow q text room from (s ∷ a) [] f g la lb na nb = absurd (nb (omega arith) s f.0.is_match f.0.after)
one_follow q text zero from (s ∷ a) (t ∷ b) f g la lb na nb = absurd (omega arith)
one_follow q text (suc n) from (s ∷ a) (t ∷ b) f g la lb na nb =
    let e : s ≡ t = one_first q text from s t f.0 g.0 in
    let rest : a ≡ b = one_follow q text n s.end a b f.1 (subst (λ (x : Ends). FollowFrom q text x.end b) (sym e) g.1)
    (omega arith) (omega arith) (λ h. na (omega arith))
    (λ h. subst (λ (x : Ends). HasNoneFrom q text (end_of_last x.end b)) (sym e) (nb (omega arith))) in
    cc

pub one_all : (q : Query) (text : List (List ℕ)) (a b : List Ends) → AreAll q text a → AreAll q text b → a ≡ b
one_all q text a b x y = one_follow q text MAX_MATCHES (at 0 0) a b x.in_order y.in_order x.few y.few x.whole y.whole
