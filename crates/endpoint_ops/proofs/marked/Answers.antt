-- `endpoint_ops::marked` meets its contract.
-- Assumes nothing.
use Rattle.endpoints.specs.Endpoints.{granted}
use Rattle.endpoint_ops.proofs.marked.Goals as goal

pub returns-in-Out : goal.returns-in-Out
unfolding granted
returns-in-Out c = rw c.in-Out.is

pub returns-in-In : goal.returns-in-In
unfolding granted
returns-in-In c = rw c.in-In.is
