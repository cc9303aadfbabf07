-- `usb_device_interrupt::take` meets its contract. Assumes nothing.
use Prim.Native.Nat.{◌-◌}
use Rattle.call_rules.proofs.Interrupt.{Taking}
use Rattle.usb_device_interrupt.proofs.take.Given as goal

abbrev pub invariant-loop-index : goal.invariant-loop-index
invariant-loop-index l = Taking l.s l.initial.o l.count l.o l.index

abbrev pub decreases-loop-index : goal.decreases-loop-index
decreases-loop-index l = l.count - l.index
