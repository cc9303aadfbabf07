-- `usb_device_stall::ep_is_stalled` meets its contract. Assumes nothing.
use Rattle.call_rules.proofs.Stall.{told_at}
use borrow.Author.Rules.{rules}
use Rattle.usb_device_stall.proofs.ep_is_stalled.Goals as goal

pub returns-in-In : goal.returns-in-In
returns-in-In c = (search rules, search (told_at, rules))

pub returns-in-Out : goal.returns-in-Out
returns-in-Out c = (search rules, search (told_at, rules))
