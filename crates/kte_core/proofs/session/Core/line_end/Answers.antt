use Rattle.std.proofs.Common.{ap}
use Rattle.kte_text.specs.declared.loading.Loaded.{Loaded}
use Rattle.kte_core.proofs.ReplayLemmas.{loaded_sound}
use Rattle.kte_core.proofs.session.Core.line_end.Goals as goal

pub returns-clause-eol : goal.returns-clause-eol
returns-clause-eol c = ap (λ (l : Loaded). l.eol) (loaded_sound c.self.inside c.args.self.now c.self.view_is)

pub returns-clause-bom : goal.returns-clause-bom
returns-clause-bom c = ap (λ (l : Loaded). l.bom) (loaded_sound c.self.inside c.args.self.now c.self.view_is)
