-- `usb_device_reset::enable_used` meets its contract. Assumes nothing.
use Rattle.call_rules.proofs.Reset.{both}
use borrow.Author.Rules.{rules}
use Rattle.usb_device_reset.proofs.enable_used.Goals as goal

pub returns : goal.returns
returns c = (search (both, rules), search rules)
