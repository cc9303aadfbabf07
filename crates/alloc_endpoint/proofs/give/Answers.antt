-- `alloc_endpoint::give` meets its contract.
-- Assumes nothing.
use Rattle.endpoints.specs.Check.{given}
use Rattle.alloc_endpoint.proofs.give.Goals as goal

pub returns : goal.returns
unfolding given
returns c = rw c.marked.ensures
