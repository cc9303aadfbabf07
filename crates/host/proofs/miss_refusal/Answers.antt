-- `host::miss_refusal` meets its contract. Assumes nothing.
use Rattle.host.proofs.miss_refusal.Goals as goal

pub returns : goal.returns
returns c = cc
