use Rattle.std.proofs.Common.{ap}
use Rattle.kte_buffer.proofs.HungLemmas.{ContainsKey-hung, hung_in-remove, contents_with}
use Rattle.kte_buffer.proofs.buffer.BufferCursors.unhang.Goals as goal

pub remove-requires : goal.remove-requires
remove-requires c = ContainsKey-hung c.self.inside.cursors _ _ (ap (λ b. b.hung) c.self.view_is) c.requires

pub returns : goal.returns
returns c = record {
  gone = contents_with c.self.inside c.remove.new.self _ _ c.self.view_is
      (hung_in-remove c.self.inside.cursors c.remove.new.self _ _ (ap (λ b. b.hung) c.self.view_is) c.remove.ensures.updates);
}
