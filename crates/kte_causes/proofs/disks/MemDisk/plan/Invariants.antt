use Rattle.std.proofs.Common.{All, take}
use Rattle.kte_causes.specs.Memory.{IsFor}
use Rattle.kte_causes.proofs.disks.MemDisk.plan.Given as goal

abbrev pub invariant-loop-plan : goal.invariant-loop-plan
invariant-loop-plan l = All (λ plan. ¬ IsFor l.call l.nth plan) (take l.plan-index l.plan-items)
