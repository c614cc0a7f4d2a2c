use Rattle.std.proofs.Common.{ap, arith}
use Rattle.kte_turn.specs.Passes.{pass_known}
use Rattle.kte_desk.specs.Seen.{Sees}
use Rattle.kte_desk.proofs.JoinLemmas.{shares_of_fresh}
use Rattle.kte_desk.proofs.desk.Desk.start.Goals as goal

pub returns-in-Ok-new-clause-all : goal.returns-in-Ok-new-clause-all
returns-in-Ok-new-clause-all c =
    let split = c.split_off-pass.ensures in
    let knew = c.in-Ok-new.ensures.pass in
    record {
      editor_of = split.own;
      checkers_of = split.others;
      shares = omega (
        arith,
        split.count,
        ap (λ (s : Sees). s.share) split.rest,
        ap (λ (s : Sees). s.seats) split.rest,
        ap (λ (s : Sees). s.seats) knew,
        shares_of_fresh (pass_known c.split_off-pass.result.0) c.split_off-pass.result.1.items split.fresh
            (ap (λ (s : Sees). s.share) split.rest),
      );
    }
