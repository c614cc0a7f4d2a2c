use Rattle.std.proofs.Common.{length}
use Rattle.kte_doc.specs.Within.{farthest_at}
use Rattle.kte_doc.proofs.Batches.{within_hangs}
use Rattle.kte_doc.proofs.batch.Batch.hang_one.Goals as goal

pub hang_at-requires : goal.hang_at-requires
hang_at-requires c = record {
  within = within_hangs (length c.args.buffer.now.text) (farthest_at c.args.history.now.revision) c.args.self.now.empty c.in-Ok.landed
      c.requires.near c.in-Ok.ensures.within;
}
