use Rattle.std.proofs.Common.{◌≡◌, ℕ, List, subst}
use Rattle.std.specs.Prelude.{IfOk}
use Rattle.kte_core.proofs.ReplayLemmas.{saved_sound}
use Rattle.kte_core.proofs.session.Core.saved_form.Goals as goal

pub returns : goal.returns
returns c =
    subst (λ (saved : List ℕ). IfOk c.save.result (λ bytes. bytes.items ≡ saved))
    (saved_sound c.self.inside c.args.self.now c.self.invariant c.self.view_is) c.save.ensures
