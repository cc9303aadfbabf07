use Rattle.record.specs.Record.{need_in}
use Rattle.record_ops.proofs.need.Goals as goal

pub returns : goal.returns
unfolding need_in
returns c = c.need.ensures
