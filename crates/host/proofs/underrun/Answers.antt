-- `host::underrun` meets its contract. Assumes nothing.
use Rattle.host_rules.specs.Host.{underrun_call}
use Rattle.host.proofs.underrun.Goals as goal

pub returns : goal.returns
unfolding underrun_call
returns c = c.miss.ensures
