-- `usb_device_stall::is_stalled` meets its contract. Assumes nothing.
use borrow.Author.Rules.{rules}
use Rattle.record.specs.Record.{record_sound, endpoints_of}
use Rattle.call_rules.specs.Stall.{is_stalled_call}
use Rattle.call_rules.proofs.Stall.{not_telling, telling}
use Rattle.usb_device_stall.proofs.is_stalled.Goals as goal
use Rattle.usb_device_stall.proofs.is_stalled.Goals.{in-Ok, in-Err}

pub returns : goal.returns
unfolding is_stalled_call record_sound endpoints_of
returns c = elim c.match-admit_at.branch [ in-Ok w ↦ search (telling, rules) | in-Err w ↦ search (not_telling, rules) ]
