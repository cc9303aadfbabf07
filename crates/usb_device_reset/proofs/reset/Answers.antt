-- `usb_device_reset::reset` meets its contract. Assumes nothing.
use mathlib.Core.Path.{refl}
use native.Mathlib.Omega.{arith}
use borrow.Author.Rules.{rules}
use Rattle.call_rules.specs.Reset.{reset_call}
use Rattle.call_rules.proofs.Calls.{refusing, doing_after}
use Rattle.call_rules.proofs.Reset.{resets}
use Rattle.usb_device_reset.proofs.reset.Goals as goal

pub write_power-a-requires : goal.write_power-a-requires
write_power-a-requires c = omega (arith, c.admit.ensures.1 c.in_default.is)

pub enable_below-n-requires : goal.enable_below-n-requires
enable_below-n-requires c =
    (c.endpoints-count.ensures.1, omega (arith, c.write_power-a.ensures.1, c.write_power-a.auto.list, c.admit.ensures.1 c.in_default.is))

pub returns-in-Err : goal.returns-in-Err
unfolding reset_call
returns-in-Err c = search (refusing, rules)

pub returns : goal.returns
unfolding reset_call
returns c =
    doing_after _ _ c.admit.ensures.0 _ _ c.in_default.is
    (resets _ _ c.write_power-a.ensures.0 c.endpoints-count.ensures.0 c.enable_below-n.ensures) c.idle-k.ensures refl
