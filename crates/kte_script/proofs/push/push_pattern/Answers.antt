use Rattle.kte_script.proofs.SpellingLemmas.{pattern_closed}
use Rattle.kte_script.proofs.push.push_pattern.Goals as goal

pub returns-clause-ok : goal.returns-clause-ok
returns-clause-ok c =
    pattern_closed c.args.out.now.items c.extend_from_slice.new.self.items c.push_line.new.out.items c.push.new.self.items c.args.line.now
    c.in_ok-extend_from_slice.ensures.items c.in_ok-push_line.ensures.ok c.in_ok-push.ensures.items
