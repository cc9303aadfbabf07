-- `alloc_endpoint::alloc_endpoint` meets its contract: an endpoint that is given lies in the table, so in the array.
-- Assumes nothing.
use Rattle.std.proofs.lemmas.Result.{err_from_is_err_and}
use Rattle.endpoints.proofs.Answers.{in_array}
use Rattle.endpoints.proofs.Allocate.{granting, refusing}
use borrow.Author.Rules.{rules}
use Rattle.alloc_endpoint.proofs.alloc_endpoint.Goals as goal

pub give-requires : goal.give-requires
give-requires c = search (in_array, rules)

pub returns : goal.returns
returns c = granting _ _ _ _ c.choose.ensures c.in_ok-index.was c.give.ensures

pub returns-in_err-index : goal.returns-in_err-index
returns-in_err-index c =
    let p = err_from_is_err_and c.from_residual.result c.from_residual.ensures.1 in
    rw (p.1, p.2) (search (refusing, rules))
