use Rattle.std.proofs.Common.{◌≡◌, ◌≢◌, ℕ, List, drop, Result, Ok, Err, ap, subst, ◌∙◌}
use Rattle.std.proofs.lemmas.Result.{err_from_is_err_and}
use Rattle.std.proofs.lemmas.Str.{IsCharBoundary-from_drop}
use Rattle.std.specs.Str.{IsUtf8}
use Rattle.kte_text.specs.Files.{Refuses}
use Rattle.kte_text.specs.Reading.{lines_of, mark_len}
use Rattle.kte_text.specs.declared.loading.LoadFault.{LoadFault}
use Rattle.kte_text.specs.declared.loading.LoadFault.TheVariants as fault
use Rattle.kte_text.proofs.FileLemmas.{IsUtf8-rest, IsText-read, Loads-IsUtf8, Refuses_same, Refuses-small}
use Rattle.kte_text.proofs.loading.load.Goals as goal

-- a result names exactly the fault of the file
exact_fault : {A : Type 0} (bytes : List ℕ) (r : Result A LoadFault) (found : LoadFault) → r ≡ Err found → Refuses bytes found
    → (given : LoadFault) → given ≢ fault.NoMemory → (r ≡ Err given → Refuses bytes given) × (Refuses bytes given → r ≡ Err given)
exact_fault bytes r found is h given other = (
  (λ e. let same : found ≡ given = cc in subst (Refuses bytes) same h),
  (λ g. is ∙ ap Err (Refuses_same bytes found given h g)),
)

no_fault : {A : Type 0} (bytes : List ℕ) (r : Result A LoadFault) → ((given : LoadFault) → ¬ (Refuses bytes given))
    → ((given : LoadFault) → given ≢ fault.NoMemory → r ≡ Err given → ⊥)
    → (given : LoadFault) → given ≢ fault.NoMemory → (r ≡ Err given → Refuses bytes given) × (Refuses bytes given → r ≡ Err given)
no_fault bytes r none unlike given other = ((λ e. absurd (unlike given other e)), (λ g. absurd (none given g)))

ok_unlike : {A : Type 0} (a : A) (given : LoadFault) → given ≢ fault.NoMemory → Ok a ≡ Err given → ⊥
ok_unlike a given other e = absurd cc

memory_unlike : {A : Type 0} (r : Result A LoadFault) → r ≡ Err fault.NoMemory → (given : LoadFault) → given ≢ fault.NoMemory → r ≡ Err given → ⊥
memory_unlike r is given other e = other cc

pub returns-in_err-file-clause-refused : goal.returns-in_err-file-clause-refused
returns-in_err-file-clause-refused c =
    let found = err_from_is_err_and c.from_residual.result c.from_residual.ensures.1 in
    exact_fault c.args.bytes.now c.from_residual.result found.0 found.1 (rw found.2 c.in_err-file.ensures.refused)

pub range_from-text-requires : goal.range_from-text-requires
range_from-text-requires c =
    let bytes = c.args.bytes.now in
    let rest : IsUtf8 (drop c.mark_len.result bytes) = rw c.mark_len.ensures.len (IsUtf8-rest bytes c.in_ok-file.ensures.utf8) in
    λ _. rw c.in_ok-file.ensures.text (IsCharBoundary-from_drop bytes c.mark_len.result c.mark_len.ensures.within rest)

pub returns-in_err-lines_of-clause-refused : goal.returns-in_err-lines_of-clause-refused
returns-in_err-lines_of-clause-refused c =
    let bytes = c.args.bytes.now in
    let found = err_from_is_err_and c.from_residual-in_err-lines_of.result c.from_residual-in_err-lines_of.ensures.1 in
    let judged = c.in_ok-file.ensures in
    let none = λ (given : LoadFault). Refuses-small bytes given judged.short judged.utf8 judged.small in
    let memory : c.from_residual-in_err-lines_of.result ≡ Err fault.NoMemory = found.1 ∙ ap Err found.2 in
    no_fault bytes c.from_residual-in_err-lines_of.result none (memory_unlike c.from_residual-in_err-lines_of.result memory)

pub of_lines-requires : goal.of_lines-requires
of_lines-requires c =
    let bytes = c.args.bytes.now in
    let judged = c.in_ok-file.ensures in
    let text : c.range_from-text.result.now ≡ drop (mark_len bytes) bytes = c.range_from-text.ensures.value ∙ rw (judged.text, c.mark_len.ensures.len) in
    let lines : c.in_ok-lines_of.field-0.items ≡ lines_of (drop (mark_len bytes) bytes) = c.in_ok-lines_of.ensures ∙ ap lines_of text in
    rw lines (IsText-read bytes judged.utf8 judged.small)

pub returns-clause-loaded : goal.returns-clause-loaded
returns-clause-loaded c =
    let bytes = c.args.bytes.now in
    let judged = c.in_ok-file.ensures in
    let text : c.range_from-text.result.now ≡ drop (mark_len bytes) bytes = c.range_from-text.ensures.value ∙ rw (judged.text, c.mark_len.ensures.len) in
    let lines : c.of_lines.result ≡ lines_of (drop (mark_len bytes) bytes) = c.of_lines.ensures ∙ c.in_ok-lines_of.ensures ∙ ap lines_of text in
    rw (lines, c.first_end.ensures, text, c.has_mark-bom.ensures) (Loads-IsUtf8 bytes judged.utf8)

pub returns-clause-refused : goal.returns-clause-refused
returns-clause-refused c =
    let judged = c.in_ok-file.ensures in
    let none = λ (given : LoadFault). Refuses-small c.args.bytes.now given judged.short judged.utf8 judged.small in
    no_fault c.args.bytes.now _ none (ok_unlike _)
