use Rattle.std.proofs.Common.{sym, subst, refl, ◌∙◌, ap, IsNone}
use Rattle.std.specs.Option.{option_copied}
use Rattle.kte_words.proofs.MisfitLemmas.{exact-misfit}
use Rattle.kte_words.proofs.CommandLemmas.{no-word}
use Rattle.kte_words.proofs.parsing.parse.Goals as goal

pub returns-in-Some-clause-misfit : goal.returns-in-Some-clause-misfit
returns-in-Some-clause-misfit c =
    exact-misfit c.args.words.now c.named.result c.named.ensures.command c.named.ensures.misfit

pub returns-in-None-clause-misfit : goal.returns-in-None-clause-misfit
returns-in-None-clause-misfit c =
    exact-misfit c.args.words.now _ tt (no-word c.args.words.now
    (subst (λ first. IsNone first)
    (ap option_copied (sym c.in-None.is) ∙ c.first.ensures.value) refl))
