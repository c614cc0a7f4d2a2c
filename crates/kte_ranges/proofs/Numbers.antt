-- What is found under a number among rows, and what an edit of the rows does to it.
use Rattle.std.proofs.Common.{◌≡◌, ℕ, zero, suc, ◌+◌, ◌<◌, ◌≤◌, eqb, ◌≢◌, Bool, true, false, cond, T, [], ◌∷◌, ◌++◌, length, get_or, set, Some, None, IsSome, map, refl, sym, ap, ◌∙◌, subst, arith}
use Rattle.std.proofs.lemmas.Bool.Decides.{nat_tests}
use Rattle.std.proofs.lemmas.Grind.{common_steps}
use Rattle.std.proofs.lemmas.List.{get_or-map, length-map}
use Rattle.std.specs.List.{All, remove}
use Rattle.std.specs.List.Sorted.{IsStrictlyIncreasing}
use Rattle.std.specs.Ordering.{nat_cmp, eq_by_cmp}
use Rattle.std.specs.FinMap as map
use Rattle.std.specs.FinMap.{find, is_sorted, get-from_entries, get-insert, get-remove, get-from_sorted, entries, entries-from_sorted, from_entries, from_sorted, from_entries_push, same_map, nat_cmp-IsAntisymmetric}
use Rattle.std.specs.FinMap.Entries.{below_all}
use Rattle.std.specs.Cmp.{nat_cmp_total}
use Rattle.kte_ranges.specs.declared.info.RangeInfo.{RangeInfo}
use Rattle.kte_ranges.specs.Table.{NumbersBelow}
use Rattle.kte_ranges.specs.Starts.{Rows}
use Rattle.kte_ranges.specs.Rows.{IsRising, IsAt}

-- no row before place i has the number
abbrev pub NotBefore : Rows → ℕ → ℕ → Type 0
NotBefore rows id i = (j : ℕ) (d : ℕ × RangeInfo) → j < i → (get_or rows j d).0 ≢ id

not_before_tail : (x : ℕ × RangeInfo) (rows : Rows) (id i : ℕ) → NotBefore (x ∷ rows) id (suc i) → NotBefore rows id i
not_before_tail x rows id i none j d lt = none (suc j) d (omega arith)

is_at_tail : (x : ℕ × RangeInfo) (rows : Rows) (id i : ℕ) → IsAt (x ∷ rows) id (suc i) → IsAt rows id i
is_at_tail x rows id i at = record { in_range = omega (arith, at.in_range); has_number = at.has_number }

pub find_absent : (rows : Rows) (id : ℕ) → NotBefore rows id (length rows) → find nat_cmp id rows ≡ None
find_absent [] id none = refl
find_absent (x ∷ rows) id none =
    grind (arith, nat_tests, none 0 x (omega arith), find_absent rows id (not_before_tail x rows id _ none))

find_first : (rows : Rows) (id i : ℕ) (d : ℕ × RangeInfo) → IsAt rows id i → NotBefore rows id i
    → find nat_cmp id rows ≡ Some (get_or rows i d).1
find_first [] id i d at none = absurd (omega (arith, at.in_range))
find_first (x ∷ rows) id zero d at none = grind (arith, nat_tests, at.has_number d)
find_first (x ∷ rows) id (suc i) d at none =
    grind (arith, nat_tests, none 0 d (omega arith), find_first rows id i d (is_at_tail x rows id i at) (not_before_tail x rows id i none))

find_set_first : (rows : Rows) (id i : ℕ) (info : RangeInfo) → IsAt rows id i → NotBefore rows id i
    → (q : ℕ) → find nat_cmp q (set rows i (id, info)) ≡ cond (eq_by_cmp nat_cmp q id) (Some info) (find nat_cmp q rows)
find_set_first [] id i info at none q = absurd (omega (arith, at.in_range))
find_set_first (x ∷ rows) id zero info at none q = grind (arith, nat_tests, at.has_number x)
find_set_first (x ∷ rows) id (suc i) info at none q =
    grind (arith, nat_tests, none 0 x (omega arith), find_set_first rows id i info (is_at_tail x rows id i at) (not_before_tail x rows id i none) q)

rising_tail : (x : ℕ × RangeInfo) (rows : Rows) → IsRising (x ∷ rows) → IsRising rows
rising_tail x rows rising i j d lt in_range = rising (suc i) (suc j) d (omega arith) (omega arith)

-- no row behind the first has its number
absent_behind : (x : ℕ × RangeInfo) (rows : Rows) → IsRising (x ∷ rows) → find nat_cmp x.0 rows ≡ None
absent_behind x rows rising = find_absent rows x.0 (λ j d lt same. omega (arith, rising 0 (suc j) d (omega arith) (omega arith)))

find_remove : (rows : Rows) (id i : ℕ) → IsRising rows → IsAt rows id i
    → (q : ℕ) → find nat_cmp q (remove rows i) ≡ cond (eq_by_cmp nat_cmp q id) None (find nat_cmp q rows)
find_remove [] id i rising at q = absurd (omega (arith, at.in_range))
find_remove (x ∷ rows) id zero rising at q = grind (arith, nat_tests, at.has_number x, absent_behind x rows rising)
find_remove (x ∷ rows) id (suc i) rising at q =
    grind (arith, nat_tests, rising 0 (suc i) x (omega arith) at.in_range, at.has_number x, find_remove rows id i (rising_tail x rows rising) (is_at_tail x rows id i at) q)

module _ (rows : Rows) (rising : IsRising rows) (id i : ℕ) (at : IsAt rows id i) where
  not_before_at : NotBefore rows id i
  not_before_at j d lt same = omega (arith, rising j i d lt at.in_range, at.has_number d)

  pub found : (d : ℕ × RangeInfo) → map.get (from_entries {R = nat_cmp} rows) id ≡ Some (get_or rows i d).1
  found d = get-from_entries nat_cmp_total rows id ∙ find_first rows id i d at not_before_at

  pub numbers_set : (info : RangeInfo) → from_entries {R = nat_cmp} (set rows i (id, info)) ≡ map.insert (from_entries rows) id info
  numbers_set info = same_map nat_cmp_total nat_cmp-IsAntisymmetric _ _ (λ q.
      get-from_entries nat_cmp_total _ q ∙ find_set_first rows id i info at not_before_at q
      ∙ sym (get-insert nat_cmp_total _ id info q ∙ ap (cond (eq_by_cmp nat_cmp q id) (Some info)) (get-from_entries nat_cmp_total rows q)))

  pub numbers-remove : from_entries {R = nat_cmp} (remove rows i) ≡ map.remove (from_entries rows) id
  numbers-remove = same_map nat_cmp_total nat_cmp-IsAntisymmetric _ _ (λ q.
      get-from_entries nat_cmp_total _ q ∙ find_remove rows id i rising at q
      ∙ sym (get-remove nat_cmp_total _ id q ∙ ap (cond (eq_by_cmp nat_cmp q id) None) (get-from_entries nat_cmp_total rows q)))

  pub rising_set : (info : RangeInfo) → IsRising (set rows i (id, info))
  rising_set info j k d lt in_range =
      grind (arith, common_steps, rising j k d, rising j i d, rising i k d, at.in_range, at.has_number d)

-- a number above all in use is not in use
unused : (rows : Rows) (next : ℕ) → All (λ row. (1 ≤ row.0) × (row.0 < next)) rows → find nat_cmp next rows ≡ None
unused rows next below = find_absent rows next (λ j d lt same. omega (arith, (below j d lt).1))

pub numbers_push : (rows : Rows) (next : ℕ) (info : RangeInfo) → All (λ row. (1 ≤ row.0) × (row.0 < next)) rows
    → from_entries {R = nat_cmp} (rows ++ (next, info) ∷ []) ≡ map.insert (from_entries rows) next info
numbers_push rows next info below = from_entries_push nat_cmp_total nat_cmp-IsAntisymmetric rows next info (unused rows next below)

find_below : (rows : Rows) (next id : ℕ) → All (λ row. (1 ≤ row.0) × (row.0 < next)) rows → IsSome (find nat_cmp id rows)
    → (1 ≤ id) × (id < next)
find_below [] next id below some = absurd (grind arith)
find_below (x ∷ rows) next id below some =
    by_first (eqb id x.0) refl (find_below rows next id (λ k d lt. below (suc k) d (omega arith)))
  where
    by_first : (b : Bool) → eqb id x.0 ≡ b → (IsSome (find nat_cmp id rows) → (1 ≤ id) × (id < next)) → (1 ≤ id) × (id < next)
    by_first true same behind = let own = below 0 x (omega arith) in (grind (arith, nat_tests), grind (arith, nat_tests))
    by_first false differs behind = behind (grind (arith, nat_tests))

pub numbers_below : (rows : Rows) (next : ℕ) → All (λ row. (1 ≤ row.0) × (row.0 < next)) rows → NumbersBelow next (from_entries rows)
numbers_below rows next below id some =
    find_below rows next id below (subst IsSome (get-from_entries nat_cmp_total rows id) some)

below_each : (n : ℕ) (rows : Rows) → All (λ row. n < row.0) rows → T (below_all nat_cmp n rows)
below_each n [] all = tt
below_each n (x ∷ rows) all =
    let first : n < x.0 = all 0 x (omega arith) in
    grind (arith, nat_tests, below_each n rows (λ k d lt. all (suc k) d (omega arith)))

in_order : (rows : Rows) → IsRising rows → T (is_sorted nat_cmp rows)
in_order [] rising = tt
in_order (x ∷ rows) rising =
    grind (arith, below_each x.0 rows (λ k d lt. rising 0 (suc k) d (omega arith) (omega arith)), in_order rows (rising_tail x rows rising))

-- the numbers in use are those of the rows, in their order
pub keys-from_entries : (rows : Rows) → IsRising rows → map.keys (from_entries {R = nat_cmp} rows) ≡ map (λ row. row.0) rows
keys-from_entries rows rising =
    let sorted = in_order rows rising in
    let same : from_entries {R = nat_cmp} rows ≡ from_sorted rows = same_map nat_cmp_total nat_cmp-IsAntisymmetric _ _
    (λ q. get-from_entries nat_cmp_total rows q ∙ sym (get-from_sorted nat_cmp rows q sorted)) in
    ap (map (λ row. row.0)) (ap entries same ∙ entries-from_sorted nat_cmp rows sorted)

numbers_rise : (rows : Rows) → IsRising rows → IsStrictlyIncreasing (map (λ row. row.0) rows)
numbers_rise [] rising k lt = absurd (omega arith)
numbers_rise (x ∷ rows) rising k lt =
    let last : k + 1 < length (x ∷ rows) = rw length-map at lt in
    rw (get_or-map (λ row. row.0) (x ∷ rows) k x 0 (omega arith), get_or-map (λ row. row.0) (x ∷ rows) (k + 1) x 0 last)
    (rising k (k + 1) x (omega arith) last)

pub unused_number : (rows : Rows) (next : ℕ) → All (λ row. (1 ≤ row.0) × (row.0 < next)) rows → map.get (from_entries {R = nat_cmp} rows) next ≡ None
unused_number rows next below = get-from_entries nat_cmp_total rows next ∙ unused rows next below

pub keys_rise : (rows : Rows) → IsRising rows → IsStrictlyIncreasing (map.keys (from_entries {R = nat_cmp} rows))
keys_rise rows rising = rw (keys-from_entries rows rising) (numbers_rise rows rising)
