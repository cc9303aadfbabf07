-- `alloc_endpoint::check_at` meets its contract.
-- Assumes nothing.
use Rattle.endpoints.specs.Allocate.{check_at}
use Rattle.alloc_endpoint.proofs.check_at.Goals as goal

pub returns : goal.returns
unfolding check_at
returns c = c.check_endpoint.ensures
