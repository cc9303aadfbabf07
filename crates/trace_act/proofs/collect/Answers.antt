-- `trace_act::collect` meets its contract.
-- Assumes nothing.
use Rattle.report_rules.proofs.Act.{by_collected}
use Rattle.trace_act.proofs.collect.Goals as goal

pub returns : goal.returns
returns c = λ l. by_collected c.args.fifo.now l c.collection.ensures.0 c.collected.ensures
