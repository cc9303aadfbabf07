-- `usb_device_reset::enable_rx` meets its contract. Assumes nothing.
use Rattle.call_rules.proofs.Reset.{rx_used, rx_unused}
use borrow.Author.Rules.{rules}
use Rattle.usb_device_reset.proofs.enable_rx.Goals as goal

pub returns-then-ep : goal.returns-then-ep
returns-then-ep c = (search (rx_used, rules), search rules)

pub returns : goal.returns
returns c = (search (rx_unused, rules), search rules)
