-- `usb_device_reset::enable_below` meets its contract. Assumes nothing.
use Prim.Native.Nat.{◌-◌}
use Rattle.store_rules.specs.Stores.{log}
use Rattle.call_rules.proofs.ResetWalk.{Walking}
use Rattle.usb_device_reset.proofs.enable_below.Given as goal

abbrev pub invariant-loop-index : goal.invariant-loop-index
invariant-loop-index l = Walking l.endpoints (log l.initial.w l.initial.list l.initial.m) l.count (log l.w l.list l.m) l.index

abbrev pub decreases-loop-index : goal.decreases-loop-index
decreases-loop-index l = l.count - l.index
