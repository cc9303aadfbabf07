-- `usb_device_stall::set_stalled` meets its contract. Assumes nothing.
use borrow.Author.Rules.{rules}
use Rattle.record.specs.Record.{record_sound, endpoints_of}
use Rattle.call_rules.specs.Stall.{set_stalled_call}
use Rattle.call_rules.proofs.Calls.{refusing, doing_after}
use Rattle.usb_device_stall.proofs.set_stalled.Goals as goal
use Rattle.usb_device_stall.proofs.set_stalled.Goals.{in-Ok, in-Err}

pub returns : goal.returns
unfolding set_stalled_call record_sound endpoints_of
returns c = elim c.match-admit_at.branch [ in-Ok w ↦ search (doing_after, rules) | in-Err w ↦ search (refusing, rules) ]
