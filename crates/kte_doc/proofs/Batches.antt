-- The cursors of ranges that are made together come, and go again.
use Rattle.std.proofs.Common.{◌≡◌, ℕ, ◌+◌, ◌<◌, ◌≤◌, Bool, true, false, List, [], ◌∷◌, ◌++◌, length, take, map, slice_get, if◌then◌else◌, IfSome, Option, None, Some, refl, sym, ap, ◌∙◌, subst, arith}
use Rattle.std.proofs.lemmas.List.{map-append, map_more}
use Rattle.std.proofs.lemmas.Option.{get_or_from_slice_get}
use Rattle.std.specs.Cmp.{nat_cmp_total}
use Rattle.std.specs.FinMap.{get, same_map, nat_cmp-IsAntisymmetric}
use Rattle.kte_place.specs.declared.place.TheConstants.{MAX_COLUMN, MAX_REACH}
use Rattle.kte_place.specs.declared.span.Empty.{Empty}
use Rattle.kte_place.specs.Ends.{Ends, SpanIsInReach}
use Rattle.kte_place.specs.Span.{settle}
use Rattle.kte_ranges.specs.declared.info.RangeInfo.{RangeInfo}
use Rattle.kte_ranges.specs.Cursors.{Hung, is_among}
use Rattle.kte_doc.specs.Standings.{Standing}
use Rattle.kte_doc.specs.Within.{IsSettledWithin}
use Rattle.kte_doc.specs.Hanging.{CanHang, HangsNew}
use Rattle.kte_doc.specs.Batches.{Comes, ComeInTurn, HaveCome}
use Rattle.kte_doc.proofs.OneRange.{settle_within}
use Rattle.kte_doc.proofs.Calls.{new_free, others_hang}

-- cursors can hang at a span within the text
pub within_hangs : (lines farthest : ℕ) (e : Empty) (o : Option Ends) → farthest ≤ MAX_COLUMN
    → IfSome o (IsSettledWithin lines farthest e) → IfSome o (CanHang lines)
within_hangs lines farthest e None near stands = tt
within_hangs lines farthest e (Some t) near stands = record {
  start_line = stands.start_within.line;
  start_column = omega (arith, stands.start_within.column);
  end_line = stands.end_within.line;
  end_column = omega (arith, stands.end_within.column);
}

-- .. and at what a span in reach settles to
pub settled_hangs : (lines : ℕ) (s : Ends) (e : Empty) (o : Option Ends) → o ≡ settle s.start s.end e → SpanIsInReach s
    → s.start.line < lines → s.end.line < lines → IfSome o (CanHang lines)
settled_hangs lines s e None is reach start end = tt
settled_hangs lines s e (Some t) is reach start end =
    within_hangs lines MAX_REACH e (Some t) (omega arith)
    (settle_within lines MAX_REACH s.start s.end e t (sym is)
    (record { line = start; column = reach.start.1 }) (record { line = end; column = reach.end.1 }))

-- one range more
pub come_more : (lines farthest : ℕ) (to : RangeInfo → Option Ends) (infos : List RangeInfo) (info : RangeInfo) (old mid new : Hung)
    → ComeInTurn lines farthest to infos old mid → Comes lines farthest to info mid new
    → ComeInTurn lines farthest to (infos ++ info ∷ []) old new
come_more lines farthest to [] info old mid new same comes =
    (new, (subst (λ (h : Hung). Comes lines farthest to info h new) same comes, refl))
come_more lines farthest to (first ∷ infos) info old mid new came comes =
    (came.0, (came.1.0, come_more lines farthest to infos info came.0 mid new came.1.1 comes))

-- the last range came last
pub come_last : (lines farthest : ℕ) (to : RangeInfo → Option Ends) (infos : List RangeInfo) (info : RangeInfo) (old new : Hung)
    → ComeInTurn lines farthest to (infos ++ info ∷ []) old new
    → (mid : Hung) × (ComeInTurn lines farthest to infos old mid × Comes lines farthest to info mid new)
come_last lines farthest to [] info old new came =
    (old, (refl, subst (λ (h : Hung). Comes lines farthest to info old h) (sym came.1.1) came.1.0))
come_last lines farthest to (first ∷ infos) info old new came =
    let later = come_last lines farthest to infos info came.0 new came.1.1 in
    (later.0, ((came.0, (came.1.0, later.1.0)), later.1.1))

-- the cursors of a range that came are taken out again
pub come_and_gone : (lines farthest : ℕ) (to : RangeInfo → Option Ends) (info : RangeInfo) (old mid new : Hung)
    → Comes lines farthest to info old mid → ((n : ℕ) → get new n ≡ (if is_among info.cursors n then None else get mid n))
    → new ≡ old
come_and_gone lines farthest to info old mid new comes gone =
    same_map nat_cmp_total nat_cmp-IsAntisymmetric _ _ (λ n. gone n ∙ by_test n (is_among info.cursors n) refl) where
      by_test : (n : ℕ) (b : Bool) → is_among info.cursors n ≡ b → (if b then None else get mid n) ≡ get old n
      by_test n true is = sym (new_free old mid info.expand info.cursors (to info) comes.hangs n is)
      by_test n false is = others_hang old mid info.expand info.cursors (to info) comes.hangs n is

-- the range whose cursors came last, where all are in this list
pub last_comes : (infos rest : List RangeInfo) (info : RangeInfo) (hung : Hung) → infos ≡ rest ++ info ∷ [] → HaveCome infos hung
    → (mid : Hung) × ((to : Option Ends) × HangsNew mid hung info.expand info.cursors to)
last_comes infos rest info hung is have =
    let In : List RangeInfo → Type 0 = λ l. ComeInTurn have.lines have.farthest have.to l have.before hung in
    let last = come_last have.lines have.farthest have.to rest info have.before hung (subst In is have.come) in
    (last.0, (have.to info, last.1.1.hangs))

-- the cursors of that range are taken out again
pub come_less : (lines farthest : ℕ) (to : RangeInfo → Option Ends) (infos rest : List RangeInfo) (info : RangeInfo) (before hung new : Hung)
    → infos ≡ rest ++ info ∷ [] → ComeInTurn lines farthest to infos before hung
    → ((n : ℕ) → get new n ≡ (if is_among info.cursors n then None else get hung n)) → ComeInTurn lines farthest to rest before new
come_less lines farthest to infos rest info before hung new is came gone =
    let In : List RangeInfo → Type 0 = λ l. ComeInTurn lines farthest to l before hung in
    let last = come_last lines farthest to rest info before hung (subst In is came) in
    let To : Hung → Type 0 = λ h. ComeInTurn lines farthest to rest before h in
    subst To (sym (come_and_gone lines farthest to info last.0 hung new last.1.1 gone)) last.1.0

-- the ranges of one span more
pub ranges_more : (f : RangeInfo → Standing) (g : Ends → Standing) (infos more : List RangeInfo) (info : RangeInfo) (spans : List Ends)
    (n : ℕ) (span : Ends) → more ≡ infos ++ info ∷ [] → map f infos ≡ map g (take n spans) → n < length spans
    → slice_get spans n ≡ Some span → f info ≡ g span → map f more ≡ map g (take (n + 1) spans)
ranges_more f g infos more info spans n span is same inside there one =
    ap (map f) is ∙ map-append f infos (info ∷ [])
    ∙ ap (λ (l : List Standing). l ++ f info ∷ []) same
    ∙ ap (λ (s : Standing). map g (take n spans) ++ s ∷ []) (one ∙ ap g (sym (get_or_from_slice_get spans n span span there)))
    ∙ sym (map_more g spans n span inside)
