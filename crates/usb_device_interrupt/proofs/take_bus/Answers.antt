-- `usb_device_interrupt::take_bus` meets its contract. Assumes nothing.
use Rattle.call_rules.specs.Interrupt.{bus_taken}
use Rattle.usb_device_interrupt.proofs.take_bus.Goals as goal

pub returns : goal.returns
unfolding bus_taken
returns c = cc
