-- All passes of a desk, joined one after another, and split off one after another.
use Rattle.std.proofs.Common.{◌≡◌, ℕ, suc, ◌+◌, List, [], ◌∷◌, ◌++◌, append_assoc, append-nil, All, sum_by, length, slice_get, Some, refl, sym, ap, ◌∙◌, arith}
use Rattle.std.specs.List.{flat_map}
use Rattle.std.proofs.lemmas.List.Concat.{flat_map-append}
use Rattle.std.proofs.lemmas.List.Elements.{All-push, All-weaker, All-nil}
use Rattle.std.proofs.lemmas.List.Sums.{sum_by_push, sum_by-cons}
use mathlib.Core.List.{IsPrefix}
use Rattle.kte_turn.specs.Known.{joined_with}
use Rattle.kte_core.specs.declared.event.Event.{Event}
use Rattle.kte_desk.specs.Calls.{AreFresh}
use Rattle.kte_desk.specs.Passes.{checker_known, own_of, share_of}
use Rattle.kte_desk.specs.Seen.{Sees}
use Rattle.kte_desk.specs.declared.pass.CheckerPass.{CheckerPass}

-- the pass that knew the first was joined with these passes
pub record Joined (first : Sees) (checkers : List CheckerPass) (now : Sees) : Type 0 where
  pub share : now.share ≡ first.share + sum_by share_of checkers
  pub seats : now.seats ≡ first.seats
  pub origin : now.origin ≡ first.origin
  pub own : now.own ≡ first.own ++ flat_map own_of checkers
  pub begins : IsPrefix first.seen now.seen
  pub all_begin : All (λ checker. IsPrefix (checker_known checker).seen now.seen) checkers

pub prefix_then : (xs ys zs : List Event) → IsPrefix xs ys → IsPrefix ys zs → IsPrefix xs zs
prefix_then xs ys zs one two = (one.0 ++ two.0, sym (append_assoc xs one.0 two.0) ∙ (ap (λ l. l ++ two.0) one.1 ∙ two.1))

pub none_joined : (first : Sees) → Joined first [] first
none_joined first = record {
  share = omega arith;
  seats = refl;
  origin = refl;
  own = sym (append-nil first.own);
  begins = ([], append-nil first.seen);
  all_begin = All-nil (λ (checker : CheckerPass). IsPrefix (checker_known checker).seen first.seen);
}

pub one_joined : (first now next : Sees) (checkers : List CheckerPass) (checker : CheckerPass) → Joined first checkers now
    → next ≡ joined_with now (checker_known checker) → IsPrefix now.seen next.seen → IsPrefix (checker_known checker).seen next.seen
    → Joined first (checkers ++ checker ∷ []) next
one_joined first now next checkers checker joined is here there = record {
  share = omega (arith, ap (λ (s : Sees). s.share) is, joined.share, sum_by_push share_of checkers checker);
  seats = ap (λ (s : Sees). s.seats) is ∙ joined.seats;
  origin = ap (λ (s : Sees). s.origin) is ∙ joined.origin;
  own = ap (λ (s : Sees). s.own) is ∙ (ap (λ l. l ++ own_of checker) joined.own
      ∙ (append_assoc first.own (flat_map own_of checkers) (own_of checker)
      ∙ ap (λ l. first.own ++ l) (ap (λ l. flat_map own_of checkers ++ l) (sym (append-nil (own_of checker)))
      ∙ sym (flat_map-append own_of checkers (checker ∷ [])))));
  begins = prefix_then first.seen now.seen next.seen joined.begins here;
  all_begin = All-push (λ (c : CheckerPass). IsPrefix (checker_known c).seen next.seen) checkers checker
      (All-weaker (λ (c : CheckerPass). IsPrefix (checker_known c).seen now.seen) (λ (c : CheckerPass). IsPrefix (checker_known c).seen next.seen)
      (λ c before. prefix_then (checker_known c).seen now.seen next.seen before here) checkers joined.all_begin) there;
}

-- ---- passes that were split off

-- each has a share of one, so all have as many as they are
pub shares_of_fresh : (editor : Sees) (checkers : List CheckerPass) → AreFresh editor checkers → editor.share ≡ 1
    → sum_by share_of checkers ≡ length checkers
shares_of_fresh editor checkers fresh one =
    all_ones share_of checkers (λ n pass at. ap (λ (s : Sees). s.share) (fresh n pass at).0 ∙ one) where
      all_ones : {A : Type 0} (share : A → ℕ) (xs : List A) → ((n : ℕ) (x : A) → slice_get xs n ≡ Some x → share x ≡ 1) → sum_by share xs ≡ length xs
      all_ones share [] each = refl
      all_ones share (x ∷ xs) each =
          omega (arith, sum_by-cons share x xs, each 0 x refl, all_ones share xs (λ n y at. each (suc n) y at))
