use Rattle.record.specs.Record.{passes}
use Rattle.laws.specs.Tests.{◌also◌}
use Rattle.record_ops.proofs.sound.Goals as goal

pub returns : goal.returns
unfolding passes ◌also◌
returns c = cc
