-- `overrun::repair_each` meets its contract. Assumes nothing.
use Rattle.common_rules.specs.Overrun.{repaired}
use Rattle.store_rules.specs.Stores.{log}
use Prim.Native.Nat.{◌-◌}
use Rattle.common_rules.proofs.Walk.{Walking}
use Rattle.overrun.proofs.repair_each.Given as goal

abbrev pub invariant-loop-index : goal.invariant-loop-index
invariant-loop-index l = Walking repaired (log l.initial.w l.initial.list l.initial.m) l.count (log l.w l.list l.m) l.index

abbrev pub decreases-loop-index : goal.decreases-loop-index
decreases-loop-index l = l.count - l.index
