-- `trace_text::put_field` meets its contract.
-- Assumes nothing.
use Rattle.trace_rules.proofs.Appended.{then}
use Rattle.trace_rules.specs.Text.{field}
use Rattle.trace_text.proofs.put_field.Goals as goal

pub returns-clause-wrote : goal.returns-clause-wrote
unfolding field
returns-clause-wrote c = then c.put-m.ensures c.put_decimal.ensures.wrote
