use Rattle.std.proofs.Common.{rules}
use Rattle.std.proofs.lemmas.List.Sorted.{answers_always}
use Rattle.kte_ranges.proofs.Search.{searched}
use Rattle.kte_ranges.proofs.rows.position.Goals as goal

-- the closure gives a row's number
pub returns : goal.returns
returns c =
    let facts = c.binary_search_by_key.ensures in
    let by_key = facts.position (λ row. row.0) (answers_always _ _ _ (λ f a r g called. search rules)) in
    let found = searched c.args.rows.now c.requires c.args.id _ facts.bound by_key in
    rw c.ok.ensures.value (record { found = found.0; absent = found.1 })
