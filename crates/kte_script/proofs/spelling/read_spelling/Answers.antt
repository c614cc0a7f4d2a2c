use Rattle.std.proofs.Common.{◌≡◌, ◌∙◌, ℕ, List, ◌++◌, ◌∷◌, [], length, ap, arith}
use Rattle.kte_script.specs.Table.{spelling}
use Rattle.kte_script.proofs.FoundLemmas.{unread, found, missed, never}
use Rattle.kte_script.proofs.spelling.read_spelling.Goals as goal

pub returns-in-Err-Misfit : goal.returns-in-Err-Misfit
returns-in-Err-Misfit c =
    unread c.args.bytes.now c.in-Err-Misfit.field-0-0 (rw c.in-Err-Misfit.field-0-is at c.in-Err-Misfit.ensures)

pub returns-then-begins : goal.returns-then-begins
returns-then-begins c =
    let command = c.in-Ok.command in
    let spelled : c.spell.new.out.items ≡ spelling command =
    c.in_ok-spell.ensures.ok ∙ ap (λ (xs : List ℕ). xs ++ spelling command) c.new-spelled.ensures.items in
    let front = (rw c.deref.ensures.value at c.begins.ensures).0 c.if-begins.true in
    found c.args.bytes.now command c.command.new.self.rest.now c.push.new.self.items c.len-size.result c.in-Ok.ensures
    (c.in_ok-push.ensures.items ∙ ap (λ (xs : List ℕ). xs ++ 32 ∷ []) spelled) (omega (arith, c.len-size.ensures, ap length spelled)) front

pub returns-else-begins : goal.returns-else-begins
returns-else-begins c =
    let command = c.in-Ok.command in
    let spelled : c.spell.new.out.items ≡ spelling command =
    c.in_ok-spell.ensures.ok ∙ ap (λ (xs : List ℕ). xs ++ spelling command) c.new-spelled.ensures.items in
    let only = (rw c.deref.ensures.value at c.begins.ensures).1 in
    missed c.args.bytes.now command c.command.new.self.rest.now c.push.new.self.items c.in-Ok.ensures
    (c.in_ok-push.ensures.items ∙ ap (λ (xs : List ℕ). xs ++ 32 ∷ []) spelled) (λ front. never c.begins.result c.if-begins.false (only front))
