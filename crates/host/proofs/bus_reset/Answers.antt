-- `host::bus_reset` meets its contract. Assumes nothing.
use Rattle.event_rules.specs.Events.{bus_reset}
use Rattle.host_rules.specs.Host.{bus_reset_call}
use Rattle.host.proofs.bus_reset.Goals as goal

pub returns : goal.returns
unfolding bus_reset_call bus_reset
returns c = c.on_signal.ensures
