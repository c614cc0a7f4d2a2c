use Rattle.std.proofs.Common.{◌∙◌}
use Rattle.kte_doc.proofs.Calls.{new_hang, new_two}
use Rattle.kte_doc.proofs.Batches.{last_comes, come_less}
use Rattle.kte_doc.proofs.batch.unhang_all.Goals as goal

pub unhang-requires-clause-hang : goal.unhang-requires-clause-hang
unhang-requires-clause-hang c n held =
    let it = last_comes _ c.pop.new.self.items c.in-Some.info _ c.in-Some.ensures.items c.loop-info.invariant.come in
    new_hang _ _ _ _ _ it.1.1 n held

pub unhang-requires-clause-two : goal.unhang-requires-clause-two
unhang-requires-clause-two c two is =
    let it = last_comes _ c.pop.new.self.items c.in-Some.info _ c.in-Some.ensures.items c.loop-info.invariant.come in
    new_two _ _ _ _ _ it.1.1 two is

pub loop-info-preserved : goal.loop-info-preserved
loop-info-preserved c =
    let have = c.loop-info.invariant.come in
    record {
      come = record {
        lines = have.lines;
        farthest = have.farthest;
        to = have.to;
        before = have.before;
        come = come_less have.lines have.farthest have.to _ c.pop.new.self.items c.in-Some.info have.before _ _ c.in-Some.ensures.items
            have.come c.unhang.ensures.hung;
      };
      before = λ lines farthest to before came.
          come_less lines farthest to _ c.pop.new.self.items c.in-Some.info before _ _ c.in-Some.ensures.items
          (c.loop-info.invariant.before lines farthest to before came) c.unhang.ensures.hung;
      text = c.unhang.ensures.text ∙ c.loop-info.invariant.text;
    }
