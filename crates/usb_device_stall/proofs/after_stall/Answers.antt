-- `usb_device_stall::after_stall` meets its contract. Assumes nothing.
use Rattle.call_rules.specs.Stall.{after_stall}
use Rattle.usb_device_stall.proofs.after_stall.Goals as goal

pub returns-then-index-stalled : goal.returns-then-index-stalled
unfolding after_stall
returns-then-index-stalled c = rw c.if-index-stalled.true c.idle.ensures

pub returns : goal.returns
unfolding after_stall
returns c = rw c.if-index-stalled.false
