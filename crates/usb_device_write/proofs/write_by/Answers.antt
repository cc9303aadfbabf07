-- `usb_device_write::write_by` meets its contract. Assumes nothing.
use native.Mathlib.Omega.{arith}
use Rattle.transfer_rules.proofs.WriteVerdicts.{clear_fits, blocked_fits}
use Rattle.usb_device_write.proofs.write_by.Goals as goal

pub send-requires : goal.send-requires
send-requires c = let p = clear_fits _ _ _ _ _ _ _ _ c.refusal.ensures c.in-Clear.is in (p.1, p.2, p.3)

pub block-requires : goal.block-requires
block-requires c = omega (arith, blocked_fits _ _ _ _ _ _ _ _ c.refusal.ensures c.in-Blocked.is)
