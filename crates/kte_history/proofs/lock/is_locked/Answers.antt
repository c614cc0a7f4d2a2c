use Rattle.std.proofs.Common.{rules, ◌∙◌}
use Rattle.std.proofs.lemmas.List.Sorted.{answers_always}
use Rattle.kte_history.proofs.InsideLemmas.{searched}
use Rattle.kte_history.proofs.lock.is_locked.Goals as goal

-- the closure gives a lock's revision
pub returns : goal.returns
returns c =
    let facts = c.binary_search_by_key.ensures in
    let by_key = facts.position (λ lock. lock.revision) (answers_always _ _ _ (λ f a r g called. search rules)) in
    c.is_ok.ensures.value ∙ searched c.args.locks.now c.requires c.args.revision _ facts.bound by_key
