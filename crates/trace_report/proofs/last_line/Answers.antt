-- `trace_report::last_line` meets its contract.
-- Assumes nothing.
use Rattle.trace_rules.proofs.Appended.{then}
use Rattle.trace_report.proofs.last_line.Goals as goal

pub returns-clause-wrote : goal.returns-clause-wrote
returns-clause-wrote c = then (then c.put_text-a.ensures c.put_field-b.ensures.wrote) c.put.ensures
