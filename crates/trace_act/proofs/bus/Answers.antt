-- `trace_act::bus` meets its contract.
-- Assumes nothing.
use mathlib.Core.Path.{ap}
use Rattle.calls.specs.Calls as calls
use Rattle.trace_act.proofs.bus.Goals as goal

pub returns-in-Reset : goal.returns-in-Reset
returns-in-Reset c = rw c.in-Reset.is (ap calls.answered c.bus_reset.ensures)

pub returns-in-Suspend : goal.returns-in-Suspend
returns-in-Suspend c = rw c.in-Suspend.is (ap calls.answered c.suspend.ensures)

pub returns-in-Resume : goal.returns-in-Resume
returns-in-Resume c = rw c.in-Resume.is (ap calls.answered c.resume.ensures)
