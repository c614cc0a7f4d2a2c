-- Folds: ranges that hide lines, under the numbers of the ranges. Source: Kate's folding ranges; that
-- they draw from the same numbers is this project's own.
use Rattle.std.specs.Prelude.{ℕ, Bool, true, false, List, Option, None, Some, if◌then◌else◌}
use Rattle.std.specs.List.{filter_map}
use Rattle.std.specs.Option.{option_map}
use Rattle.std.specs.Ordering.{nat_cmp}
use Rattle.std.specs.FinMap.{FinMap, entries, from_entries}
use Rattle.kte_place.specs.Ends.{Ends}
use Rattle.kte_place.specs.declared.span.Empty.TheVariants.{Void}
use Rattle.kte_ranges.specs.declared.info.RangeKind.{RangeKind}
use Rattle.kte_ranges.specs.declared.info.RangeKind.TheVariants as kind
use Rattle.kte_fold.specs.Folds.{Spans, is_hidden, refusal}
use Rattle.kte_fold.specs.Laws.{grows_at_no_end}
use Rattle.kte_fold.specs.declared.refused.FoldRefused.{FoldRefused}
use Rattle.kte_core.specs.Editing.{Editing, text_of}
use Rattle.kte_core.specs.State.{Range, stands, made_now, State}

-- whether ranges of this kind are folds
abbrev pub is_fold_kind : RangeKind → Bool
is_fold_kind kind.User = false
is_fold_kind kind.Fold = true
is_fold_kind (kind.Job job) = false

-- the range, if there is one and it is a fold
abbrev pub only_fold : Option Range → Option Range
only_fold None = None
only_fold (Some range) = if is_fold_kind range.kind then Some range else None

-- .. and if it is none: commands on ranges take no fold
abbrev pub no_fold : Option Range → Option Range
no_fold None = None
no_fold (Some range) = if is_fold_kind range.kind then None else Some range

-- a fold that is made now does not grow, and is invalid once it is empty
abbrev pub fold_now : Editing → Ends → Range
fold_now editing span = made_now editing span grows_at_no_end Void kind.Fold

-- the numbers of the folds
abbrev pub folds_of : FinMap nat_cmp Range → List ℕ
folds_of ranges =
    filter_map (λ e. option_map (λ range. e.0) (only_fold (Some e.1))) (entries ranges)

-- where the valid ranges stand now, by their numbers
abbrev pub spans_now : State → Spans
spans_now state =
    from_entries (filter_map (λ e. option_map (λ span. (e.0, span)) (stands state.editing e.1))
    (entries state.ranges))

-- why a span may not be folded now, if it may not
abbrev pub fold_refusal : State → Ends → Option FoldRefused
fold_refusal state span =
    refusal (text_of state.editing) (spans_now state) (folds_of state.ranges) span

-- a fold hides this line now
abbrev pub is_line_hidden : State → ℕ → Bool
is_line_hidden state line = is_hidden (spans_now state) (folds_of state.ranges) line
