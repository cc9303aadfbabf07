-- `host::happen` meets its contract. Assumes nothing.
use Rattle.host.proofs.happen.Goals as goal

pub returns-in-Bus : goal.returns-in-Bus
returns-in-Bus c = cc

pub returns-in-SetupEnd : goal.returns-in-SetupEnd
returns-in-SetupEnd c = cc
