use Rattle.std.proofs.Common.{◌∙◌, ap, List, ℕ, ◌++◌}
use Rattle.kte_report.proofs.WritingLemmas.{event_line, then_ok}
use Rattle.kte_report.proofs.spelling.push_event.Goals as goal

pub returns-clause-ok : goal.returns-clause-ok
returns-clause-ok c =
    then_ok c.push_reply.result
    (event_line c.args.event.now c.args.out.now.items c.extend_from_slice.new.self.items c.push.new.self.items c.push_request.new.out.items c.extend_from_slice-2.new.self.items c.push_reply.new.out.items
    (c.in_ok-extend_from_slice.ensures.items ∙ ap (λ (xs : List ℕ). c.args.out.now.items ++ xs) (c.as_bytes.ensures.value ∙ c.format.ensures.text))
    c.in_ok-push.ensures.items c.in_ok-push_request.ensures.ok c.in_ok-extend_from_slice-2.ensures.items)
    c.push_reply.ensures.ok
