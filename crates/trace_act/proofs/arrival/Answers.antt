-- `trace_act::arrival` meets its contract.
-- Assumes nothing.
use Rattle.report_rules.proofs.Act.{by_arrived}
use Rattle.trace_act.proofs.arrival.Goals as goal

pub returns : goal.returns
returns c = let a = c.args in λ l. by_arrived a.k a.ep a.bytes.now a.fifo.now l c.arrival.ensures c.answered.ensures
