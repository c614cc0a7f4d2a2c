use Rattle.std.proofs.Common.{◌∙◌, sym, refl}
use Rattle.kte_script.proofs.PartLemmas.{first_part, last_part}
use Rattle.kte_script.proofs.ends.split_end.Goals as goal

pub returns-in-Some-clause-parts : goal.returns-in-Some-clause-parts
returns-in-Some-clause-parts c =
    let p = first_part c.args.bytes.now c.in-Some.at (sym c.first_end.ensures.first ∙ c.in-Some.is) in
    rw (c.split_at.ensures.front, c.split_at-in-Some.ensures.back) p

pub returns-in-None-clause-parts : goal.returns-in-None-clause-parts
returns-in-None-clause-parts c =
    (last_part c.args.bytes.now (sym c.first_end.ensures.first ∙ c.in-None.is), refl)
