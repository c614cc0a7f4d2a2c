-- Documents with the same fields.
use Rattle.std.proofs.Common.{◌≡◌, ℕ, List, ap, ◌∙◌}
use Rattle.kte_place.specs.declared.entry.Entry.{Entry}
use Rattle.kte_history.specs.declared.lock.Lock.{Lock}
use Rattle.kte_doc.specs.Standings.{Standings}
use Rattle.kte_doc.specs.Documents.{Document}

pub by_fields : (a b : Document) → a.text ≡ b.text → a.revision ≡ b.revision → a.limit ≡ b.limit
    → a.ranges ≡ b.ranges → a.next ≡ b.next → a.locks ≡ b.locks → a.kept ≡ b.kept → a ≡ b
by_fields a b text revision limit ranges next locks kept =
    ap (λ (text : List (List ℕ)). record a { text = text }) text
    ∙ ap (λ (revision : ℕ). record a { text = b.text; revision = revision }) revision
    ∙ ap (λ (limit : ℕ). record a { text = b.text; revision = b.revision; limit = limit }) limit
    ∙ ap (λ (ranges : Standings). record b { ranges = ranges; next = a.next; locks = a.locks; kept = a.kept }) ranges
    ∙ ap (λ (next : ℕ). record b { next = next; locks = a.locks; kept = a.kept }) next
    ∙ ap (λ (locks : List Lock). record b { locks = locks; kept = a.kept }) locks
    ∙ ap (λ (kept : List Entry). record b { kept = kept }) kept
