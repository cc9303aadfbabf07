-- `usb_device_impl::bus_init` meets its contract. Assumes nothing.
use native.Mathlib.Omega.{arith}
use borrow.Author.Rules.{rules}
use Rattle.call_rules.specs.Calls.{bus_init_call}
use Rattle.call_rules.proofs.Calls.{refusing, doing}
use Rattle.usb_device_impl.proofs.bus_init.Goals as goal

pub bus_init-requires : goal.bus_init-requires
bus_init-requires c = omega (arith, c.admit.ensures.1 c.in-Ok.is)

pub returns-in-Err : goal.returns-in-Err
unfolding bus_init_call
returns-in-Err c = search (refusing, rules)

pub returns-in-Ok : goal.returns-in-Ok
unfolding bus_init_call
returns-in-Ok c = search (doing, rules)
