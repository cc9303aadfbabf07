-- `alloc_endpoint::choose` meets its contract.
-- Assumes nothing.
use Rattle.alloc_endpoint.proofs.choose.Goals as goal

pub returns-in-Some : goal.returns-in-Some
returns-in-Some c = rw c.in-Some.is c.alloc_wanted.ensures

pub returns-in-None : goal.returns-in-None
returns-in-None c = rw c.in-None.is c.alloc_any.ensures
