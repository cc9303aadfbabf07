-- `endpoint_ops::is_in_use` meets its contract.
-- Assumes nothing.
use Rattle.endpoints.specs.Check.{in_use}
use Rattle.endpoints.proofs.Types.{is_same}
use Rattle.endpoint_ops.proofs.is_in_use.Goals as goal

pub returns : goal.returns
unfolding in_use
returns c = rw (c.eq-bulk.ensures, c.ne-other.ensures, c.used_dir.ensures, is_same _ _, is_same _ _)
