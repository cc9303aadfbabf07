-- `usb_device_impl::admit_address` meets its contract. Assumes nothing.
use Rattle.std.proofs.lemmas.Result.{err_from_is_err_and}
use Rattle.call_rules.proofs.Calls.{address_refused, address_fits, address_over}
use Rattle.record.proofs.Rows.{unlike}
use borrow.Author.Rules.{rules}
use Rattle.usb_device_impl.proofs.admit_address.Goals as goal

pub returns-then-addr-le127 : goal.returns-then-addr-le127
returns-then-addr-le127 c = (search (address_fits, rules), λ e. c.admit.ensures.1 c.in_ok-admit.was)

pub returns-in_err-admit : goal.returns-in_err-admit
returns-in_err-admit c =
    let p = err_from_is_err_and c.from_residual.result c.from_residual.ensures.1 in
    rw (p.1, p.2) (search (address_refused, rules), unlike)

pub returns : goal.returns
returns c = (search (address_over, rules), unlike)
