-- `usb_device_impl::set_device_address` meets its contract. Assumes nothing.
use native.Mathlib.Omega.{arith}
use borrow.Author.Rules.{rules}
use Rattle.call_rules.specs.Calls.{address_call}
use Rattle.call_rules.proofs.Calls.{refusing, doing}
use Rattle.usb_device_impl.proofs.set_device_address.Goals as goal

pub write_faddr-requires : goal.write_faddr-requires
write_faddr-requires c = omega (arith, c.admit_address.ensures.1 c.in-Ok.is)

pub returns-in-Err : goal.returns-in-Err
unfolding address_call
returns-in-Err c = search (refusing, rules)

pub returns-in-Ok : goal.returns-in-Ok
unfolding address_call
returns-in-Ok c = search (doing, rules)
