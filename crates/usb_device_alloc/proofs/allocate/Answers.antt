-- `usb_device_alloc::allocate` meets its contract. Assumes nothing.
use Rattle.std.proofs.lemmas.Result.{err_from_is_err_and}
use Rattle.usb_device_alloc.proofs.allocate.Goals as goal

pub returns-in_err-n : goal.returns-in_err-n
returns-in_err-n c =
    let p = err_from_is_err_and c.from_residual.result c.from_residual.ensures.1 in
    rw (p.1, p.2, ← c.alloc_endpoint.ensures, c.in_err-n.was)

pub returns : goal.returns
returns c = rw (← c.alloc_endpoint.ensures, c.in_ok-n.was)
