use Rattle.std.proofs.Common.{◌≡◌, ◌+◌, ◌-◌, length, sym, ap, ◌∙◌, arith}
use Rattle.std.specs.Prelude.{slice_get, IsSomeAnd}
use Rattle.std.proofs.lemmas.Bool.{false≢true}
use Rattle.kte_report.proofs.HiddenLemmas.{extended, added}
use Rattle.kte_report.proofs.hidden.add_line.Goals as goal

pub returns-then-is_next : goal.returns-then-is_next
returns-then-is_next c lines was =
    let value = c.as_slice.ensures.value in
    let ends = c.is_next.ensures.0 c.if-is_next.true in
    extended c.args.runs.now.items (c.len-last.result - 1) c.args.line c.index_mut.result.now lines
    (omega (arith, c.len-last.ensures, c.as_slice.ensures.len, ap length value)) (rw value at ends) c.index_mut.ensures.value was

pub returns : goal.returns
returns c lines was =
    let runs = c.args.runs.now.items in
    let apart : IsSomeAnd (slice_get runs (length runs - 1)) (λ run. run.1 + 1 ≡ c.args.line) → ⊥ =
    λ ends. absurd (false≢true (sym c.if-is_next.false ∙ c.is_next.ensures.1 (rw c.as_slice.ensures.value ends))) in
    c.in_ok-push.ensures.items ∙ added runs c.args.line lines apart was
