-- `usb_device_interrupt::snap` meets its contract. Assumes nothing.
use Rattle.call_rules.specs.Interrupt.{snapshot_of, cleared}
use Rattle.usb_device_interrupt.proofs.snap.Goals as goal

pub returns : goal.returns
unfolding snapshot_of cleared
returns c = (cc, cc)
