use Rattle.std.proofs.Common.{◌≡◌, List, ℕ, drop, subst}
use Rattle.kte_recover.specs.declared.replay.End.{End}
use Rattle.kte_recover.specs.Replay.{Ends}
use Rattle.kte_recover.proofs.RecoveryLemmas.{ends_stands, clean_beside, torn_beside, damaged_beside}
use Rattle.kte_recover.proofs.recovery.replay.Goals as goal

pub close-requires-clause-undo : goal.close-requires-clause-undo
close-requires-clause-undo c =
    let body = drop 46 c.args.swap.now in
    let text = c.args.loaded.text in
    let ends = c.in_ok-end.ensures.ends text (c.in_ok-replay.ensures.stands body) in
    (ends_stands text body c.in_ok-end.end c.run.new.self ends).1.can_undo

pub returns-in-Clean-clause-answer : goal.returns-in-Clean-clause-answer
returns-in-Clean-clause-answer c digest header =
    let body = drop 46 c.args.swap.now in
    let text = c.args.loaded.text in
    let ends = c.in_ok-end.ensures.ends text (c.in_ok-replay.ensures.stands body) in
    clean_beside c.args.swap.now digest text c.run.new.self c.in_ok-text.text header
    (subst (λ (e : End). Ends text body e c.run.new.self) c.in-Clean.is ends) c.in_ok-text.ensures

pub returns-in-Torn-clause-answer : goal.returns-in-Torn-clause-answer
returns-in-Torn-clause-answer c digest header =
    let body = drop 46 c.args.swap.now in
    let text = c.args.loaded.text in
    let ends = c.in_ok-end.ensures.ends text (c.in_ok-replay.ensures.stands body) in
    torn_beside c.args.swap.now digest text c.run.new.self c.in_ok-text.text header
    (subst (λ (e : End). Ends text body e c.run.new.self) c.in-Torn.is ends) c.in_ok-text.ensures

pub returns-in-Damaged-clause-answer : goal.returns-in-Damaged-clause-answer
returns-in-Damaged-clause-answer c digest header =
    let body = drop 46 c.args.swap.now in
    let text = c.args.loaded.text in
    let ends = c.in_ok-end.ensures.ends text (c.in_ok-replay.ensures.stands body) in
    damaged_beside c.args.swap.now digest text c.in-Damaged.at c.run.new.self c.in_ok-text.text header
    (subst (λ (e : End). Ends text body e c.run.new.self) c.in-Damaged.is ends) c.in_ok-text.ensures
