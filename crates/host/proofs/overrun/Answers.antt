-- `host::overrun` meets its contract. Assumes nothing.
use Rattle.host_rules.specs.Host.{overrun_call}
use Rattle.host.proofs.overrun.Goals as goal

pub returns : goal.returns
unfolding overrun_call
returns c = c.miss.ensures
