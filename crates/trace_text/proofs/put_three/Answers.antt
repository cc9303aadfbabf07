-- `trace_text::put_three` meets its contract.
-- Assumes nothing.
use Rattle.trace_rules.proofs.Appended.{three_fields}
use Rattle.trace_text.proofs.put_three.Goals as goal

pub returns-clause-wrote : goal.returns-clause-wrote
returns-clause-wrote c = three_fields _ _ _ c.put_field-i.ensures.wrote c.put_field-j.ensures.wrote c.put_field.ensures.wrote
