-- `overrun::has_missed` meets its contract. Assumes nothing.
use Rattle.common_rules.specs.Overrun.{missed_at}
use Rattle.overrun.proofs.has_missed.Goals as goal

pub returns : goal.returns
unfolding missed_at
returns c = cc
