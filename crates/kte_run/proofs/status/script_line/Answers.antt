use Rattle.std.proofs.Common.{◌≡◌, ◌++◌, IfOk, string_bytes, codes, decimal, append_assoc, sym, subst}
use Rattle.kte_run.proofs.status.script_line.Goals as goal

pub returns-in-Bad : goal.returns-in-Bad
returns-in-Bad c =
    let line = decimal c.in-Bad.line in
    let column = decimal c.in-Bad.column in
    let joined : (line ++ codes " column ") ++ column ≡ line ++ (codes " column " ++ column) = simp append_assoc in
    rw c.in-Bad.is
    (subst (λ rest. IfOk c.format.result (λ text. string_bytes text ≡ codes "kted: script line " ++ rest)) (sym joined) c.format.ensures.ok)

pub returns-in-TooMany : goal.returns-in-TooMany
returns-in-TooMany c = rw c.in-TooMany.is c.format-in-TooMany.ensures.ok
