-- `trace_report::begin` meets its contract.
-- Assumes nothing.
use Rattle.trace_rules.proofs.LinesAppended.{begins}
use Rattle.trace_report.proofs.begin.Goals as goal

pub returns-clause-wrote : goal.returns-clause-wrote
returns-clause-wrote c = rw (← c.from.ensures, ← c.from-2.ensures) (begins _ _ c.put_decimal-m.ensures.wrote c.put_field.ensures.wrote)
