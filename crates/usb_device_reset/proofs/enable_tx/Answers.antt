-- `usb_device_reset::enable_tx` meets its contract. Assumes nothing.
use Rattle.call_rules.proofs.Reset.{tx_used, tx_unused}
use borrow.Author.Rules.{rules}
use Rattle.usb_device_reset.proofs.enable_tx.Goals as goal

pub returns-then-ep : goal.returns-then-ep
returns-then-ep c = (search (tx_used, rules), search rules)

pub returns : goal.returns
returns c = (search (tx_unused, rules), search rules)
