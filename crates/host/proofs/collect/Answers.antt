-- `host::collect` meets its contract. Assumes nothing.
use Rattle.host.proofs.collect.Goals as goal

pub returns : goal.returns
returns c = (cc, cc)
