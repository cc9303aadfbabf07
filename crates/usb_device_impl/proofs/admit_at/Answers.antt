-- `usb_device_impl::admit_at` meets its contract. Assumes nothing.
use Rattle.record.specs.Record.{endpoints_of}
use Rattle.usb_device_impl.proofs.admit_at.Goals as goal

pub returns : goal.returns
unfolding endpoints_of
returns c = rw (← c.endpoints.ensures.0) c.admit.ensures
