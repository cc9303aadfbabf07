-- `trace_details::stores_line` meets its contract.
-- Assumes nothing.
use Rattle.trace_rules.proofs.Appended.{then}
use Rattle.detail_rules.specs.DetailLines.{stores_line}
use Rattle.trace_details.proofs.stores_line.Goals as goal

pub returns-clause-wrote : goal.returns-clause-wrote
unfolding stores_line
returns-clause-wrote c = then (then c.put_text-a.ensures c.put_stores-b.ensures.wrote) c.put_text.ensures
