-- The cursors of one range: where it stands by them.
use Rattle.std.proofs.Common.{◌≡◌, ℕ, true, false, Option, None, Some, IsSome, IsTrue, ◌⊎◌, inl, inr, refl, sym, ap, ◌∙◌, subst, arith}
use Rattle.std.proofs.lemmas.Bool.Decides.{nat_tests}
use Rattle.std.specs.FinMap.{get}
use Rattle.kte_place.specs.declared.place.Place.{Place}
use Rattle.kte_place.specs.declared.span.Empty.{Empty}
use Rattle.kte_place.specs.declared.span.Empty.TheVariants.{Allow, Void}
use Rattle.kte_place.specs.Ends.{Ends}
use Rattle.kte_place.specs.Place.{is_at_or_before}
use Rattle.kte_place.specs.Span.{ends, settle, start_on, end_on}
use Rattle.kte_place.specs.Cursors.{Hanging}
use Rattle.kte_buffer.specs.Cursors.{hanging}
use Rattle.kte_ranges.specs.declared.info.RangeInfo.{RangeInfo}
use Rattle.kte_ranges.specs.Cursors.{Hung, span_of, ends_at, is_among, holds_cursor}
use Rattle.kte_place.specs.Place.{IsInReach}
use Rattle.kte_place.specs.Ends.{SpanIsInReach}
use Rattle.kte_doc.specs.Within.{IsWithin, IsSettledWithin}
use Rattle.kte_doc.specs.Inside.{HangAt}

-- the ends at two cursors
pub ends_at-both : (hung : Hung) (c : ℕ × ℕ) (a b : Hanging) → get hung c.0 ≡ Some a → get hung c.1 ≡ Some b
    → ends_at hung (Some c) ≡ Some (ends a.place b.place)
ends_at-both hung c a b at_a at_b = rw (at_a, at_b)

-- a range whose cursors hang at a span stands there
pub span_of-HangAt : (hung : Hung) (lines farthest : ℕ) (info : RangeInfo) (c : ℕ × ℕ) (span : Ends) → info.cursors ≡ Some c
    → HangAt hung lines farthest info.expand info.empty c span → span_of hung info ≡ Some span
span_of-HangAt hung lines farthest info c span is at =
    ap (ends_at hung) is ∙ ends_at-both hung c (hanging span.start (start_on info.expand)) (hanging span.end (end_on info.expand)) at.start at.end

-- an invalid range stands nowhere
pub span_of-invalid : (hung : Hung) (info : RangeInfo) → info.cursors ≡ None → span_of hung info ≡ None
span_of-invalid hung info is = ap (ends_at hung) is

-- a cursor of a range is the first or the second
pub first_or_second : (c : ℕ × ℕ) (n : ℕ) → IsTrue (is_among (Some c) n) → (n ≡ c.0) ⊎ (n ≡ c.1)
first_or_second c n held = grind (arith, nat_tests)

pub is_first : (c : ℕ × ℕ) → IsTrue (is_among (Some c) c.0)
is_first c = grind (arith, nat_tests)

pub is_second : (c : ℕ × ℕ) → IsTrue (is_among (Some c) c.1)
is_second c = grind (arith, nat_tests)

pub holds_first : (info : RangeInfo) (c : ℕ × ℕ) → info.cursors ≡ Some c → IsTrue (holds_cursor info c.0)
holds_first info c is = ap (λ o. is_among o c.0) is ∙ is_first c

pub holds_second : (info : RangeInfo) (c : ℕ × ℕ) → info.cursors ≡ Some c → IsTrue (holds_cursor info c.1)
holds_second info c is = ap (λ o. is_among o c.1) is ∙ is_second c

-- where a cursor of the range is held, the range has cursors
pub cursors_of_held : (o : Option (ℕ × ℕ)) (n : ℕ) → IsTrue (is_among o n) → (c : ℕ × ℕ) × (o ≡ Some c)
cursors_of_held None n held = absurd (cc)
cursors_of_held (Some c) n held = (c, refl)

-- the cursors of a range that stands hang
pub hangs_held : (hung : Hung) (lines farthest : ℕ) (info : RangeInfo) (c : ℕ × ℕ) (span : Ends) (n : ℕ) → info.cursors ≡ Some c
    → HangAt hung lines farthest info.expand info.empty c span → IsTrue (holds_cursor info n) → IsSome (get hung n)
hangs_held hung lines farthest info c span n is at held =
    elim (first_or_second c n (ap (λ o. is_among o n) (sym is) ∙ held)) [
      | inl first ↦ subst (λ o. IsSome o) (sym (ap (get hung) first ∙ at.start)) refl
      | inr second ↦ subst (λ o. IsSome o) (sym (ap (get hung) second ∙ at.end)) refl
    ]

-- a span keeps its start when it settles, and its end is one of the two
pub settle_keeps : (a b : Place) (e : Empty) (span : Ends) → settle a b e ≡ Some span → (span.start ≡ a) × ((span.end ≡ a) ⊎ (span.end ≡ b))
settle_keeps a b Allow span is = elim (is_at_or_before a b) as (λ t. is_at_or_before a b ≡ t → (span.start ≡ a) × ((span.end ≡ a) ⊎ (span.end ≡ b))) [
  | true ↦ λ t. (grind (arith, nat_tests), inr (grind (arith, nat_tests)))
  | false ↦ λ t. (grind (arith, nat_tests), inl (grind (arith, nat_tests)))
] refl
settle_keeps a b Void span is = (grind (arith, nat_tests), inr (grind (arith, nat_tests)))

pub settle_ordered : (a b : Place) (e : Empty) (span : Ends) → settle a b e ≡ Some span → IsTrue (is_at_or_before span.start span.end)
settle_ordered a b Allow span is = grind (arith, nat_tests)
settle_ordered a b Void span is = grind (arith, nat_tests)

-- what has settled settles to itself
pub settle_again : (a b : Place) (e : Empty) (span : Ends) → settle a b e ≡ Some span → settle span.start span.end e ≡ Some span
settle_again a b Allow span is = grind (arith, nat_tests)
settle_again a b Void span is = grind (arith, nat_tests)

-- what settles within the text stands within it
pub settle_within : (lines farthest : ℕ) (a b : Place) (e : Empty) (span : Ends) → settle a b e ≡ Some span
    → IsWithin lines farthest a → IsWithin lines farthest b → IsSettledWithin lines farthest e span
settle_within lines farthest a b e span is at_a at_b =
    let kept = settle_keeps a b e span is in
    let P : Place → Type 0 = λ p. IsWithin lines farthest p in
    record {
      settled = settle_again a b e span is;
      start_within = subst P (sym kept.0) at_a;
      end_within = elim kept.1 [ inl same ↦ subst P (sym same) at_a | inr same ↦ subst P (sym same) at_b ];
    }

-- what settles in reach is in reach
pub settle_reach : (s t : Ends) (e : Empty) → Some t ≡ settle s.start s.end e → SpanIsInReach s → SpanIsInReach t
settle_reach s t e is reach =
    let kept = settle_keeps s.start s.end e t (sym is) in
    let P : Place → Type 0 = λ p. IsInReach p in
    record {
      start = subst P (sym kept.0) reach.start;
      end = elim kept.1 [ inl same ↦ subst P (sym same) reach.start | inr same ↦ subst P (sym same) reach.end ];
    }
