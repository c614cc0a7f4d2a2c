-- What the two cursors of the tests do.
use Rattle.std.proofs.Common.{◌≡◌, ◌≢◌, ℕ, ◌<◌, Bool, true, false, ◌==◌, eqb, nat_lt, if◌then◌else◌, Option, Some, None, IsSome, refl, sym, ap, ◌∙◌, subst, arith}
use Rattle.std.proofs.lemmas.Bool.Decides.{nat_tests}
use Rattle.std.specs.Cmp.{nat_cmp_total}
use Rattle.std.specs.FinMap.{get, insert, empty, remove, gets, same_map, nat_cmp-IsAntisymmetric}
use Rattle.kte_place.specs.declared.place.Place.{Place}
use Rattle.kte_place.specs.declared.place.OnInsert.TheVariants.{Stay}
use Rattle.kte_place.specs.declared.span.Empty.{Empty}
use Rattle.kte_place.specs.Cursors.{Hanging, place_of, cursor_at, with_place}
use Rattle.kte_place.proofs.CallerLemmas.{moves_one, takes_one}
use Rattle.kte_ranges.specs.declared.info.RangeInfo.{RangeInfo}
use Rattle.kte_ranges.specs.Cursors.{Hangs, HoldsTwo, StartIsReady, CursorsApart}
use Rattle.kte_ranges.specs.Table.{AllInfos}
use Rattle.kte_ranges.specs.Examples.{range, pegs}
use Rattle.kte_ranges.proofs.Coming.{comes_apart}

-- a peg, if it hangs
abbrev peg : Bool → Place → Option Hanging
peg hangs place = if hangs then Some (record { place = place; on_insert = Stay }) else None

get_pegs : (a b : Bool) (p q : Place) (n : ℕ) → get (pegs a p b q) n ≡ (if n == 0 then peg a p else if n == 1 then peg b q else None)
get_pegs true true p q n = grind (arith, nat_tests, gets)
get_pegs true false p q n = grind (arith, nat_tests, gets)
get_pegs false true p q n = grind (arith, nat_tests, gets)
get_pegs false false p q n = grind (arith, nat_tests, gets)

pub second_number : (a b : Bool) (p q : Place) (n : ℕ) → n ≢ 0 → IsSome (get (pegs a p b q) n) → n ≡ 1
second_number a b p q n other hangs = grind (arith, nat_tests, get_pegs a b p q n)

pub place_first : (a b : Bool) (p q : Place) → IsSome (get (pegs a p b q) 0) → place_of (get (pegs a p b q) 0) ≡ Some p
place_first true b p q hangs = rw (get_pegs true b p q 0) refl
place_first false b p q hangs = absurd (grind (arith, nat_tests, get_pegs false b p q 0))

pub place_second : (a b : Bool) (p q : Place) → IsSome (get (pegs a p b q) 1) → place_of (get (pegs a p b q) 1) ≡ Some q
place_second a true p q hangs = rw (get_pegs a true p q 1) refl
place_second a false p q hangs = absurd (grind (arith, nat_tests, get_pegs a false p q 1))

pub move_first : (a b : Bool) (p q to : Place) → pegs a to b q ≡ with_place (pegs a p b q) 0 to
move_first a b p q to = same_map nat_cmp_total nat_cmp-IsAntisymmetric _ _ (λ n.
    get_pegs a b to q n ∙ sym (moves_one (pegs a p b q) 0 to n ∙ rw (get_pegs a b p q 0, get_pegs a b p q n) (by_test a (eqb n 0) (eqb n 1))))
  where
    by_test : (a c d : Bool) → (if c then cursor_at to (peg a p) else if c then peg a p else if d then peg b q else None) ≡ (if c then peg a to else if d then peg b q else None)
    by_test true true d = refl
    by_test false true d = refl
    by_test a false d = refl

pub move_second : (a b : Bool) (p q to : Place) → pegs a p b to ≡ with_place (pegs a p b q) 1 to
move_second a b p q to = same_map nat_cmp_total nat_cmp-IsAntisymmetric _ _ (λ n.
    get_pegs a b p to n ∙ sym (moves_one (pegs a p b q) 1 to n ∙ rw (get_pegs a b p q 1, get_pegs a b p q n) (by_test b n)))
  where
    by_test : (b : Bool) (n : ℕ) → (if n == 1 then cursor_at to (peg b q) else if n == 0 then peg a p else if n == 1 then peg b q else None) ≡ (if n == 0 then peg a p else if n == 1 then peg b to else None)
    by_test true n = grind (arith, nat_tests)
    by_test false n = grind (arith, nat_tests)

pub take_first : (a b : Bool) (p q : Place) → pegs false p b q ≡ remove (pegs a p b q) 0
take_first a b p q = same_map nat_cmp_total nat_cmp-IsAntisymmetric _ _ (λ n.
    get_pegs false b p q n ∙ sym (takes_one (pegs a p b q) 0 n ∙ rw (get_pegs a b p q n) (grind (arith, nat_tests))))

pub take_second : (a b : Bool) (p q : Place) → pegs a p false q ≡ remove (pegs a p b q) 1
take_second a b p q = same_map nat_cmp_total nat_cmp-IsAntisymmetric _ _ (λ n.
    get_pegs a false p q n ∙ sym (takes_one (pegs a p b q) 1 n ∙ rw (get_pegs a b p q n) (grind (arith, nat_tests))))

pub pegs_hang : (kind : Empty) (p q : Place) → Hangs (pegs true p true q) (range kind (Some (0, 1)))
pegs_hang kind p q n held = rw (get_pegs true true p q n) (grind (arith, nat_tests))

pub pegs_ready : (kind : Empty) (p q : Place) → p.line ≡ 0 → p.column < 256
    → StartIsReady (pegs true p true q) (λ line. nat_lt line 1) (range kind (Some (0, 1)))
pegs_ready kind p q line column s is before =
    let start : p ≡ s.start = grind (arith, get_pegs true true p q 0, get_pegs true true p q 1) in
    (grind (arith, nat_tests), grind (arith, nat_tests))

-- a table of one range
pub lone_apart : (id : ℕ) (info : RangeInfo) → HoldsTwo info → CursorsApart (insert empty id info)
lone_apart id info two = comes_apart empty id info
    (record { own = λ i x is. absurd (grind (arith, gets)); others = λ i j n x y is_x is_y held_x held_y. absurd (grind (arith, gets)) })
    two (λ n held i x is. absurd (grind (arith, nat_tests, gets)))

pub lone_info : (P : RangeInfo → Type 0) (id : ℕ) (info : RangeInfo) → P info → AllInfos P (insert empty id info)
lone_info P id info holds i x is =
    let same : x ≡ info = grind (arith, nat_tests, gets) in
    subst P (sym same) holds

pub holds_two : (kind : Empty) → HoldsTwo (range kind (Some (0, 1)))
holds_two kind c is same =
    let pair : ◌≡◌ {A = ℕ × ℕ} (0, 1) c = grind arith in
    let apart : ◌≡◌ {A = ℕ} 0 1 = ap (λ p. p.0) pair ∙ same ∙ sym (ap (λ p. p.1) pair) in
    absurd (omega (arith, apart))
