-- `enabling::packet_waits` meets its contract. Assumes nothing.
use Rattle.common_rules.specs.Enable.{waits}
use Rattle.enabling.proofs.packet_waits.Goals as goal

pub returns-in-Out : goal.returns-in-Out
unfolding waits
returns-in-Out c = rw c.in-Out.is cc

pub returns-in-In : goal.returns-in-In
unfolding waits
returns-in-In c = rw c.in-In.is cc
