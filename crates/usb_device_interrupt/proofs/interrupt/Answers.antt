-- `usb_device_interrupt::interrupt` meets its contract. Assumes nothing.
use Rattle.usb_device_interrupt.proofs.interrupt.Goals as goal

pub returns : goal.returns
returns c = (rw (← c.endpoints.ensures.0, ← c.snap-s.ensures.0) c.take.ensures, c.snap-s.ensures.1)
