-- `trace_details::put_endpoint` meets its contract.
-- Assumes nothing.
use Rattle.detail_rules.proofs.DetailWritten.{endpoint_ends}
use Rattle.trace_rules.proofs.Appended.{as_they_are}
use Rattle.trace_details.proofs.put_endpoint.Goals as goal

pub returns-clause-wrote : goal.returns-clause-wrote
returns-clause-wrote c = endpoint_ends _ _ _ c.shown_at-registers.ensures (as_they_are _ c.put_fields-a.ensures.wrote) c.rest_at-rest.ensures (as_they_are _ c.put_fields.ensures.wrote)
