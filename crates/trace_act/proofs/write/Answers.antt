-- `trace_act::write` meets its contract.
-- Assumes nothing.
use Rattle.report_rules.proofs.Act.{by_written, wrote_fits}
use Rattle.trace_act.proofs.write.Goals as goal

pub returns : goal.returns
returns c = let a = c.args in by_written a.k a.ep a.bytes.now a.fifo.now a.list.now c.write-o.ensures c.written.ensures

pub written-requires : goal.written-requires
written-requires c = let a = c.args in (c.requires.1, wrote_fits a.k a.ep a.bytes.now a.fifo.now a.list.now c.write-o.ensures c.requires.0)
