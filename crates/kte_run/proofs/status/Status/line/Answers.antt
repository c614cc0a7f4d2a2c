use Rattle.std.proofs.Common.{◌≡◌, ◌++◌, IfOk, string_bytes, codes, decimal, append_assoc, sym, subst}
use Rattle.kte_run.proofs.status.Status.line.Goals as goal

pub returns-in-Damaged : goal.returns-in-Damaged
returns-in-Damaged c =
    let at = decimal c.in-Damaged.at in
    let done = decimal c.in-Damaged.done in
    let joined : ((at ++ codes " after ") ++ done) ++ codes " transactions" ≡ at ++ (codes " after " ++ (done ++ codes " transactions")) = simp append_assoc in
    rw c.in-Damaged.is
    (subst (λ rest. IfOk c.format-in-Damaged.result (λ text. string_bytes text ≡ codes "kted: swap damaged at byte " ++ rest)) (sym joined) c.format-in-Damaged.ensures.ok)
