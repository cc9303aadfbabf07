-- `usb_device_interrupt::has_event` meets its contract. Assumes nothing.
use Rattle.usb_device_interrupt.proofs.has_event.Goals as goal

pub returns : goal.returns
returns c = cc
