-- `trace_act::read` meets its contract.
-- Assumes nothing.
use Rattle.report_rules.proofs.Act.{buffer_length, buffer_short, by_read}
use Rattle.trace_act.proofs.read.Goals as goal

pub slice_bounds-fetch-end : goal.slice_bounds-fetch-end
slice_bounds-fetch-end c = buffer_length _ c.requires.0 c.zeros-buf.ensures

pub fetch-requires : goal.fetch-requires
fetch-requires c = let p = c.requires in (buffer_short _ p.0 c.zeros-buf.ensures, p.1, p.2)

pub returns : goal.returns
returns c = by_read _ c.requires.0 c.zeros-buf.ensures _ _ _ _ c.fetch.ensures
