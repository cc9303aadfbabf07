-- `common_impl::send_stall` meets its contract. Assumes nothing.
use Rattle.common_rules.specs.Common.{has_send_stall}
use Rattle.common_impl.proofs.send_stall.Goals as goal

pub returns-in-Out : goal.returns-in-Out
unfolding has_send_stall
returns-in-Out c = rw c.in-Out.is cc

pub returns-in-In : goal.returns-in-In
unfolding has_send_stall
returns-in-In c = rw c.in-In.is cc
