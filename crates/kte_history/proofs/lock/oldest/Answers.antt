use Rattle.kte_history.proofs.InsideLemmas.{get_or-oldest}
use Rattle.kte_history.proofs.lock.oldest.Goals as goal

pub returns-in-len1-up : goal.returns-in-len1-up
returns-in-len1-up c = get_or-oldest c.args.locks.now _ c.requires c.in-len1-up.len_at_least
