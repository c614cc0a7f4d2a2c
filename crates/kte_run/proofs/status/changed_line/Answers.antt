use Rattle.std.proofs.Common.{◌≡◌, ◌++◌, IfOk, string_bytes, codes, append_assoc, sym, subst}
use Rattle.hex.specs.Hex.{encode_lower}
use Rattle.kte_run.proofs.status.changed_line.Goals as goal

pub returns : goal.returns
returns c =
    let kept = encode_lower c.args.kept.now.0 in
    let found = encode_lower c.args.found.now.0 in
    let joined : (kept ++ codes " file ") ++ found ≡ kept ++ (codes " file " ++ found) = simp append_assoc in
    let hex : string_bytes c.in_ok-kept.kept ++ (codes " file " ++ string_bytes c.in_ok-found.found) ≡ kept ++ (codes " file " ++ found) =
    rw (c.in_ok-kept.ensures, c.in_ok-found.ensures) in
    subst (λ rest. IfOk c.format.result (λ text. string_bytes text ≡ codes "kted: file changed: swap " ++ rest)) (sym joined)
    (subst (λ rest. IfOk c.format.result (λ text. string_bytes text ≡ codes "kted: file changed: swap " ++ rest)) hex c.format.ensures.ok)
