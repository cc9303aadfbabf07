-- `enabling::flush_fifo` meets its contract. Assumes nothing.
use Rattle.common_rules.specs.Enable.{flush}
use Rattle.enabling.proofs.flush_fifo.Goals as goal

pub returns-in-Out : goal.returns-in-Out
unfolding flush
returns-in-Out c = rw c.in-Out.is c.modify.ensures

pub returns-in-In : goal.returns-in-In
unfolding flush
returns-in-In c = rw c.in-In.is c.modify-in-In.ensures
