use Rattle.std.proofs.Common.{ap, ◌∙◌}
use Rattle.std.specs.Option.{option_map}
use Rattle.kte_buffer.specs.declared.buffer.Ready.TheVariants.{Nothing}
use Rattle.kte_buffer.specs.Buffer.{Contents}
use Rattle.kte_buffer.specs.Cursors.{shown}
use Rattle.kte_buffer.proofs.HungLemmas.{get-hung, hung_in-insert, contents_with}
use Rattle.kte_buffer.proofs.buffer.Buffer.hang.Goals as goal

pub returns-clause-free : goal.returns-clause-free
returns-clause-free c = get-hung c.self.inside.cursors _ _ (ap (λ b. b.hung) c.self.view_is) ∙ ap (option_map shown) c.in_ok-id.ensures.was_vacant

pub returns-clause-ok : goal.returns-clause-ok
returns-clause-ok c =
    ap (λ (b : Contents). record b { ready = Nothing })
    (contents_with c.self.inside c.insert.new.self _ _ c.self.view_is
    (hung_in-insert c.self.inside.cursors c.insert.new.self _ _ _ (ap (λ b. b.hung) c.self.view_is) c.in_ok-id.ensures.updates))
