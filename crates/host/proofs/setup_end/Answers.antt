-- `host::setup_end` meets its contract. Assumes nothing.
use Rattle.host_rules.specs.Host.{setup_end_call}
use Rattle.host.proofs.setup_end.Goals as goal

pub returns : goal.returns
unfolding setup_end_call
returns c = c.on_signal.ensures
