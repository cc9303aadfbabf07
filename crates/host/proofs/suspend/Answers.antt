-- `host::suspend` meets its contract. Assumes nothing.
use Rattle.event_rules.specs.Events.{bus_suspend}
use Rattle.host_rules.specs.Host.{suspend_call}
use Rattle.host.proofs.suspend.Goals as goal

pub returns : goal.returns
unfolding suspend_call bus_suspend
returns c = c.on_signal.ensures
