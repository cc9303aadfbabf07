-- `usb_device_stall::ep_stall` meets its contract. Assumes nothing.
use Rattle.call_rules.proofs.Stall.{stalled_in, stalled_out}
use borrow.Author.Rules.{rules}
use Rattle.usb_device_stall.proofs.ep_stall.Goals as goal

pub returns-in-In : goal.returns-in-In
returns-in-In c = search (stalled_in, rules)

pub returns-in-Out : goal.returns-in-Out
returns-in-Out c = search (stalled_out, rules)
