-- `usb_device_interrupt::take_endpoint` meets its contract. Assumes nothing.
use Rattle.call_rules.specs.Interrupt.{endpoint_taken}
use Rattle.usb_device_interrupt.proofs.take_endpoint.Goals as goal

pub returns : goal.returns
unfolding endpoint_taken
returns c = rw (c.raise_if-2.ensures, c.raise_if.ensures)
