-- `usb_device_read::read_by` meets its contract. Assumes nothing.
use native.Mathlib.Omega.{arith}
use Rattle.transfer_rules.proofs.ReadVerdicts.{clear_fits, blocked_fits}
use Rattle.transfer_rules.proofs.Read.{packet_fits}
use Rattle.usb_device_read.proofs.read_by.Goals as goal

pub take-requires : goal.take-requires
take-requires c =
    let p = clear_fits _ _ _ _ _ _ _ _ c.refusal.ensures c.in-Clear.is in
    (packet_fits _ _ c.args.f _ p.0, p.1, p.2, p.3)

pub block-requires : goal.block-requires
block-requires c = omega (arith, blocked_fits _ _ _ _ _ _ _ _ c.refusal.ensures c.in-Blocked.is)
