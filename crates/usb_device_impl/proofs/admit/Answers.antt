-- `usb_device_impl::admit` meets its contract. Assumes nothing.
use Rattle.record.specs.Record.{record_sound}
use Rattle.call_rules.proofs.Calls.{room}
use Rattle.usb_device_impl.proofs.admit.Goals as goal

pub returns : goal.returns
unfolding record_sound
returns c = (c.admit.ensures, room c.args.numbers (record_sound c.args.k.now) c.args.beyond c.admit.ensures)
