-- `host::admit` meets its contract. Assumes nothing.
use Rattle.host.proofs.admit.Goals as goal

pub returns : goal.returns
returns c = cc
