-- What a binary search finds among rows whose numbers rise.
use Rattle.std.proofs.Common.{◌≡◌, ℕ, ◌<◌, ◌≤◌, length, get_or, None, Result, Ok, Err, IfSome, IfNone, sym, ap, ◌∙◌, ⊎_elim, arith}
use Rattle.std.specs.Result.{result_ok}
use Rattle.std.specs.List.Sorted.{IsSearchInRange, IsBinarySearchResult, IsNonDecreasingBy}
use Rattle.std.specs.Ordering.{nat_cmp, ordering_index}
use Rattle.std.specs.FinMap as map
use Rattle.std.specs.FinMap.{get-from_entries, from_entries}
use Rattle.std.specs.Cmp.{nat_cmp_total}
use Rattle.std.proofs.lemmas.Cmp.{ranked}
use Rattle.std.proofs.lemmas.Bool.{cases_lt}
use Rattle.std.proofs.lemmas.Bool.Decides.{nat_tests}
use Rattle.kte_ranges.specs.Starts.{Rows}
use Rattle.kte_ranges.specs.Rows.{IsRising, IsAt}
use Rattle.kte_ranges.proofs.Numbers.{find_absent}

module _ (rows : Rows) (rising : IsRising rows) (id : ℕ) where
  comparisons_rise : IsNonDecreasingBy (λ row. ordering_index (nat_cmp row.0 id)) rows
  comparisons_rise i j d le in_range =
      let rise : (get_or rows i d).0 ≤ (get_or rows j d).0 = grind (arith, rising i j d, λ (same : i ≡ j). ap (λ k. (get_or rows k d).0) same) in
      grind (arith, nat_tests)

  pub searched : (r : Result ℕ ℕ) → IsSearchInRange r (length rows) → IsBinarySearchResult (λ row. nat_cmp row.0 id) rows r
      → IfSome (result_ok r) (IsAt rows id) × IfNone (result_ok r) (map.get (from_entries {R = nat_cmp} rows) id ≡ None)
  searched (Ok i) in_range equal = (record { in_range = in_range; has_number = λ d. ranked _ id _ (sym (equal d)) }, tt)
  searched (Err i) in_range parted =
      let sides = parted comparisons_rise in (
        tt,
        get-from_entries nat_cmp_total rows id ∙ find_absent rows id (λ j d lt same.
            ⊎_elim
            (λ left. let below : (get_or rows j d).0 < id = ranked _ id _ (sym (sides.0 j d (omega arith) left)) in omega arith)
            (λ right. let above : id < (get_or rows j d).0 = ranked _ id _ (sym (sides.1 j d right lt)) in omega arith)
            (cases_lt j i)),
      )
