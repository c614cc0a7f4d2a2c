use Rattle.std.proofs.Common.{ap, ◌∙◌}
use Rattle.std.specs.Option.{option_map}
use Rattle.kte_place.specs.Cursors.{place_of}
use Rattle.kte_buffer.specs.Cursors.{shown}
use Rattle.kte_buffer.proofs.HungLemmas.{get-hung, ContainsKey-hung}
use Rattle.kte_buffer.proofs.buffer.BufferCursors.place.Goals as goal

pub index-requires : goal.index-requires
index-requires c = ContainsKey-hung c.self.inside.cursors _ _ (ap (λ b. b.hung) c.self.view_is) c.requires

pub returns : goal.returns
returns c = ap place_of (get-hung c.self.inside.cursors _ _ (ap (λ b. b.hung) c.self.view_is) ∙ ap (option_map shown) c.index.ensures)
