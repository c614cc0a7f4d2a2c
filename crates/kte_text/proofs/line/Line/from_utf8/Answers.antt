use Rattle.std.proofs.Common.{◌≡◌, ◌∙◌, ℕ, None, Some, Result, Ok, Err, sym}
use Rattle.std.proofs.lemmas.Option.{none-some}
use Rattle.std.specs.Result.{IsErrAnd}
use Rattle.std.specs.List.{position}
use Rattle.kte_text.specs.Units.{is_line_end}
use Rattle.kte_text.specs.declared.line.LineFault.{LineFault}
use Rattle.kte_text.proofs.CharLemmas.{utf8_of-utf16_of}
use Rattle.kte_text.proofs.SplitLemmas.{none_found, position-found}
use Rattle.kte_text.proofs.line.Line.from_utf8.Goals as goal

other_fault : {A : Type 0} (r : Result A LineFault) (n : ℕ) → IsErrAnd r (λ e. e ≡ LineFault.NoMemory) → r ≡ Err (LineFault.HasEnd n) → ⊥
other_fault (Ok a) n h e = h
other_fault (Err fault) n h e = absurd cc

pub of_text-requires : goal.of_text-requires
of_text-requires c = none_found c.args.text.now (rw c.as_bytes.ensures.value at c.in-None.ensures)

pub returns-in_err-of_text-in-None-clause-has_end : goal.returns-in_err-of_text-in-None-clause-has_end
returns-in_err-of_text-in-None-clause-has_end c =
    let none : position is_line_end c.args.text.now ≡ None = position-found c.args.text.now None (rw c.as_bytes.ensures.value at c.in-None.ensures) in
    λ at'. ((λ e. absurd (other_fault c.from_residual.result at' c.from_residual.ensures.1 e)), (λ e. absurd (none-some at' (sym none ∙ e))))

pub returns-in-Some-clause-has_end : goal.returns-in-Some-clause-has_end
returns-in-Some-clause-has_end c =
    let found : position is_line_end c.args.text.now ≡ Some c.in-Some.at =
    position-found c.args.text.now (Some c.in-Some.at) (rw c.as_bytes.ensures.value at c.in-Some.ensures) in
    λ at'. ((λ e. cc), (λ e. cc))

pub returns-in_ok-of_text-in-None-clause-line : goal.returns-in_ok-of_text-in-None-clause-line
returns-in_ok-of_text-in-None-clause-line c = rw c.in_ok-of_text-in-None.ensures (utf8_of-utf16_of c.args.text.now c.utf8.text)

pub returns-in_ok-of_text-in-None-clause-has_end : goal.returns-in_ok-of_text-in-None-clause-has_end
returns-in_ok-of_text-in-None-clause-has_end c =
    let none : position is_line_end c.args.text.now ≡ None = position-found c.args.text.now None (rw c.as_bytes.ensures.value at c.in-None.ensures) in
    λ at'. ((λ e. absurd cc), (λ e. absurd cc))
