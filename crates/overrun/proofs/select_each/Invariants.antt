-- `overrun::select_each` meets its contract. Assumes nothing.
use Rattle.common_rules.specs.Overrun.{selected_only}
use Prim.Native.Nat.{◌-◌}
use Rattle.store_rules.specs.Stores.{log}
use Rattle.common_rules.proofs.Walk.{Walking}
use Rattle.overrun.proofs.select_each.Given as goal

abbrev pub invariant-loop-e : goal.invariant-loop-e
invariant-loop-e l = Walking selected_only (log l.initial.w l.initial.list l.initial.m) l.count (log l.w l.list l.m) l.e

abbrev pub decreases-loop-e : goal.decreases-loop-e
decreases-loop-e l = l.count - l.e
