-- The finite map of the cursors that a slab holds.
use Rattle.std.proofs.Common.{◌≡◌, ℕ, zero, suc, ◌+◌, ◌<◌, List, [], ◌∷◌, map, get_or, Option, Some, None, inl, inr, sym, ap, ◌∙◌, subst, refl, arith, ◌≢◌}
use Rattle.std.proofs.lemmas.Bool.{cases_eq}
use Rattle.std.proofs.lemmas.Bool.Decides.{nat_tests}
use Rattle.std.specs.Option.{option_map, IsSome}
use Rattle.std.specs.Ordering.{nat_cmp}
use Rattle.std.specs.Cmp.{nat_cmp_total}
use Rattle.std.specs.FinMap.{FinMap, find, same_map, nat_cmp-IsAntisymmetric, get-from_entries, gets}
use Rattle.std.specs.FinMap as map
use Rattle.slab.specs.Slab.{Slab, get, entries, entries_from, ContainsKey, Updates, with_value}
use Rattle.slab.proofs.SlabLemmas.{Updates-with_value}
use Rattle.kte_place.specs.Cursors.{Hanging, with_place}
use Rattle.kte_place.specs.declared.place.Place.{Place}
use Rattle.kte_place.proofs.CallerLemmas.{moves_one}
use Rattle.kte_buffer.specs.declared.cursors.Cursor.{Cursor}
use Rattle.kte_buffer.specs.Cursors.{shown, hung_in}
use Rattle.kte_buffer.specs.Buffer.{Contents}
use Rattle.kte_buffer.specs.Inside.{contents_of}
use Rattle.kte_buffer.specs.declared.buffer.Buffer.TheInside.{Inside}

-- an entry of the slab as one of the map
abbrev listed : (ℕ × Cursor) → (ℕ × Hanging)
listed e = (e.0, shown e.1)

-- no entry has a key below the first
find_below : (first q : ℕ) (slots : List (Option Cursor)) → q < first → find nat_cmp q (map listed (entries_from first slots)) ≡ None
find_below first q [] below = refl
find_below first q (None ∷ rest) below = find_below (first + 1) q rest (omega arith)
find_below first q (Some cursor ∷ rest) below =
    let later = find_below (first + 1) q rest (omega arith) in grind (arith, nat_tests)

-- the entry of a key is found where the slab has a value at that key
find_slot : (slots : List (Option Cursor)) (first k q : ℕ) → q ≡ first + k
    → find nat_cmp q (map listed (entries_from first slots)) ≡ option_map shown (get_or slots k None)
find_slot [] first k q is = refl
find_slot (None ∷ rest) first zero q is = find_below (first + 1) q rest (omega arith)
find_slot (None ∷ rest) first (suc k) q is = find_slot rest (first + 1) k q (omega arith)
find_slot (Some cursor ∷ rest) first zero q is = let here : q ≡ first = omega arith in grind (arith, nat_tests)
find_slot (Some cursor ∷ rest) first (suc k) q is =
    let later = find_slot rest (first + 1) k q (omega arith) in
    let other : q ≢ first = omega arith in
    grind (arith, nat_tests)

-- a cursor hangs exactly where the slab holds one
pub get-hung_in : (slab : Slab Cursor) (id : ℕ) → map.get (hung_in slab) id ≡ option_map shown (get slab id)
get-hung_in slab id = get-from_entries nat_cmp_total (map listed (entries slab)) id ∙ find_slot slab.slots 0 id id (omega arith)

-- a number under which a cursor hangs is a key of the slab
contains_by : (o : Option Cursor) → IsSome (option_map shown o) → IsSome o
contains_by None some = absurd (cc)
contains_by (Some cursor) some = refl

pub ContainsKey-hung : (slab : Slab Cursor) (hung : FinMap nat_cmp Hanging) (id : ℕ) → hung_in slab ≡ hung → IsSome (map.get hung id) → ContainsKey slab id
ContainsKey-hung slab hung id is some =
    contains_by (get slab id) (subst (λ o. IsSome o) (ap (λ m. map.get m id) (sym is) ∙ get-hung_in slab id) some)

-- what hangs under a number, as the slab has it
pub get-hung : (slab : Slab Cursor) (hung : FinMap nat_cmp Hanging) (id : ℕ) → hung_in slab ≡ hung → map.get hung id ≡ option_map shown (get slab id)
get-hung slab hung id is = ap (λ m. map.get m id) (sym is) ∙ get-hung_in slab id

-- a cursor comes into the slab
pub hung_in-insert : (old new : Slab Cursor) (hung : FinMap nat_cmp Hanging) (id : ℕ) (cursor : Cursor) → hung_in old ≡ hung
    → Updates old new id (Some cursor) → hung_in new ≡ map.insert hung id (shown cursor)
hung_in-insert old new hung id cursor is made =
    same_map nat_cmp_total nat_cmp-IsAntisymmetric _ _ (λ q.
    let was = get-hung old hung q is in
    let now = get-hung_in new q in
    elim (cases_eq q id) [
      | inl here ↦ let e : get new q ≡ Some cursor = ap (get new) here ∙ made.changed in grind (arith, nat_tests, gets)
      | inr other ↦ let e = made.others q other in grind (arith, nat_tests, gets)
    ])

-- a cursor goes out of the slab
pub hung_in-remove : (old new : Slab Cursor) (hung : FinMap nat_cmp Hanging) (id : ℕ) → hung_in old ≡ hung
    → Updates old new id None → hung_in new ≡ map.remove hung id
hung_in-remove old new hung id is made =
    same_map nat_cmp_total nat_cmp-IsAntisymmetric _ _ (λ q.
    let was = get-hung old hung q is in
    let now = get-hung_in new q in
    elim (cases_eq q id) [
      | inl here ↦ let e : get new q ≡ None = ap (get new) here ∙ made.changed in grind (arith, nat_tests, gets)
      | inr other ↦ let e = made.others q other in grind (arith, nat_tests, gets)
    ])

-- a cursor of the slab is put at another place
pub hung_in-moved : (old : Slab Cursor) (hung : FinMap nat_cmp Hanging) (id : ℕ) (cursor : Cursor) (place : Place) → hung_in old ≡ hung
    → get old id ≡ Some cursor → hung_in (with_value old id (record cursor { place = place })) ≡ with_place hung id place
hung_in-moved old hung id cursor place is read =
    let there : IsSome (get old id) = subst (λ o. IsSome o) (sym read) refl in
    let made = Updates-with_value old id (record cursor { place = place }) there in
    let held : map.get hung id ≡ Some (shown cursor) = get-hung old hung id is ∙ ap (option_map shown) read in
    same_map nat_cmp_total nat_cmp-IsAntisymmetric _ _ (λ q.
    let was = get-hung old hung q is in
    let now = get-hung_in (with_value old id (record cursor { place = place })) q in
    let moved = moves_one hung id place q in
    elim (cases_eq q id) [
      | inl here ↦
          let e : get (with_value old id (record cursor { place = place })) q ≡ Some (record cursor { place = place }) =
          ap (get (with_value old id (record cursor { place = place }))) here ∙ made.changed in
          now ∙ ap (option_map shown) e ∙ sym (moved ∙ rw (held) (grind (arith, nat_tests)))
      | inr other ↦ let e = made.others q other in now ∙ ap (option_map shown) e ∙ sym was ∙ sym (moved ∙ grind (arith, nat_tests))
    ])

-- the contents after a change of the cursors alone
pub contents_with : (buffer : Inside) (slab : Slab Cursor) (hung : FinMap nat_cmp Hanging) (contents : Contents)
    → contents_of buffer ≡ contents → hung_in slab ≡ hung → contents_of (record buffer { cursors = slab }) ≡ record contents { hung = hung }
contents_with buffer slab hung contents view is =
    ap (λ (m : FinMap nat_cmp Hanging). record (contents_of buffer) { hung = m }) is ∙ ap (λ (b : Contents). record b { hung = hung }) view
