-- `trace_report::header_line` meets its contract.
-- Assumes nothing.
use Rattle.trace_rules.specs.Lines.{header}
use Rattle.trace_report.proofs.header_line.Goals as goal

pub returns-clause-wrote : goal.returns-clause-wrote
unfolding header
returns-clause-wrote c = c.put_text.ensures
