-- `host::collection` meets its contract. Assumes nothing.
use Rattle.host_rules.proofs.Host.{collecting, placed}
use Rattle.host.proofs.collection.Goals as goal

pub returns : goal.returns
returns c = placed _ _ _ (collecting _ _ _ c.collect_if-answer.ensures.0 c.collect_if-answer.ensures.1)
