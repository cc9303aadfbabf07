-- `trace_given::long` meets its contract.
-- Assumes nothing.
use Rattle.detail_rules.proofs.GivenMade.{long_is}
use Rattle.trace_given.proofs.long.Goals as goal

pub returns : goal.returns
returns c = long_is _ _ c.requires c.byte.ensures c.byte-2.ensures c.byte-3.ensures c.byte-4.ensures c.from_le_bytes.ensures
