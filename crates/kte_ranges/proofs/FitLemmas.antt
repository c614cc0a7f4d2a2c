-- The rows of a table fit its index and its next number as ranges come, are set, and go.
use Rattle.std.proofs.Common.{◌≡◌, ◌≢◌, ℕ, suc, ◌+◌, ◌^◌, ◌<◌, ◌≤◌, [], ◌∷◌, ◌++◌, false, length, take, drop, get_or, set, length-set, All, sym, subst, ⊎_elim, arith}
use Rattle.std.proofs.lemmas.Bool.{cases_lt, cases_eq}
use Rattle.std.proofs.lemmas.List.{get_or-set_same, get_or-set_other}
use Rattle.std.proofs.lemmas.List.Elements.{All-append, All-take, All-drop, All-push, All-set}
use Rattle.std.proofs.lemmas.List.Quantifiers.{all_pairs_remove, all_pairs_push}
use Rattle.std.specs.List.{remove}
use Rattle.kte_ranges.specs.declared.info.RangeInfo.{RangeInfo}
use Rattle.kte_ranges.specs.declared.starts.Starts.{Starts}
use Rattle.kte_ranges.specs.Rows.{IsAt, RowsFit}
use Rattle.kte_ranges.specs.Starts.{Rows, StartsAt, LeadTo}
use Rattle.kte_ranges.proofs.Numbers.{rising_set}

All-removed : (P : ℕ × RangeInfo → Type 0) (rows : Rows) (i : ℕ) → All P rows → All P (remove rows i)
All-removed P rows i all = All-append P (take i rows) (drop (suc i) rows) (All-take P i rows all) (All-drop P (suc i) rows all)

pub fits_removed : (rows : Rows) (next i : ℕ) (starts : Starts) → RowsFit rows next starts → i < length rows → RowsFit (remove rows i) next starts
fits_removed rows next i starts fit inside = record {
  rising = all_pairs_remove (λ x y. x.0 < y.0) rows i inside fit.rising;
  numbers = All-removed (λ row. (1 ≤ row.0) × (row.0 < next)) rows i fit.numbers;
  first = fit.first;
  bound = fit.bound;
  led = λ near. All-removed (LeadTo starts.ids.items) rows i (fit.led near);
}

-- the rows of other numbers than this are led to
abbrev pub OthersLed : Starts → Rows → ℕ → Type 0
OthersLed starts rows id = starts.far ≡ false → All (λ row. row.0 ≢ id → LeadTo starts.ids.items row) rows

pub fits_pushed : (rows : Rows) (next : ℕ) (old starts : Starts) (info : RangeInfo) → RowsFit rows next old → next < 2 ^ 63
    → (starts.far ≡ false → StartsAt starts.ids.items next info.cursors) → OthersLed starts rows next
    → RowsFit (rows ++ (next, info) ∷ []) (next + 1) starts
fits_pushed rows next old starts info fit room own others = record {
  rising = all_pairs_push (λ x y. x.0 < y.0) rows (next, info) fit.rising (λ k d lt. (fit.numbers k d lt).1);
  numbers = All-push (λ row. (1 ≤ row.0) × (row.0 < next + 1)) rows (next, info)
      (λ k d lt. let at = fit.numbers k d lt in (at.0, omega (arith, at.1))) (let first = fit.first in (first, omega arith));
  first = omega arith;
  bound = omega arith;
  led = λ near. All-push (LeadTo starts.ids.items) rows (next, info)
      (λ k d lt. others near k d lt (λ same. let at = (fit.numbers k d lt).1 in omega arith)) (own near);
}

pub fits_set : (rows : Rows) (next id i : ℕ) (old starts : Starts) (info : RangeInfo) → RowsFit rows next old → IsAt rows id i
    → (starts.far ≡ false → StartsAt starts.ids.items id info.cursors) → OthersLed starts rows id
    → RowsFit (set rows i (id, info)) next starts
fits_set rows next id i old starts info fit at own others = record {
  rising = rising_set rows fit.rising id i at info;
  numbers = All-set (λ row. (1 ≤ row.0) × (row.0 < next)) rows i (id, info)
      (subst (λ n. (1 ≤ n) × (n < next)) (at.has_number (id, info)) (fit.numbers i (id, info) at.in_range)) fit.numbers;
  first = fit.first;
  bound = fit.bound;
  led = λ near k d lt. ⊎_elim
      (λ same. subst (λ j. LeadTo starts.ids.items (get_or (set rows i (id, info)) j d)) (sym same)
      (subst (LeadTo starts.ids.items) (sym (get_or-set_same rows i (id, info) d at.in_range)) (own near)))
      (λ differs. let inside : k < length rows = rw length-set at lt in
      subst (LeadTo starts.ids.items) (sym (get_or-set_other rows i k (id, info) d differs)) (others near k d inside (λ number. ⊎_elim
      (λ before. let less = fit.rising k i d before at.in_range in let here = at.has_number d in omega arith)
      (λ from. ⊎_elim
      (λ after. let less = fit.rising i k d after inside in let here = at.has_number d in omega arith)
      (λ until. differs (omega (arith, from, until)))
      (cases_lt i k))
      (cases_lt k i))))
      (cases_eq k i);
}
