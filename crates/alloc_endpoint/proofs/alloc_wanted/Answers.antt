-- `alloc_endpoint::alloc_wanted` meets its contract: a law for each answer, by the tests that led there.
-- Assumes nothing.
use Rattle.std.proofs.lemmas.Result.{err_from_is_err_and}
use native.Mathlib.Omega.{arith}
use Rattle.board.specs.Boards.{at_most_six}
use Rattle.endpoints.proofs.Allocate.{beyond_table, unchecked, as_passes, as_fails}
use borrow.Author.Rules.{rules}
use Rattle.alloc_endpoint.proofs.alloc_wanted.Goals as goal

pub check_at-requires : goal.check_at-requires
check_at-requires c = omega (arith, at_most_six c.args.board)

pub returns-then-index-endpoints : goal.returns-then-index-endpoints
returns-then-index-endpoints c = search (beyond_table, rules)

pub returns-then-index-eq0 : goal.returns-then-index-eq0
returns-then-index-eq0 c = search (unchecked, rules)

pub returns-in_err-check_at : goal.returns-in_err-check_at
returns-in_err-check_at c =
    let p = err_from_is_err_and c.from_residual.result c.from_residual.ensures.1 in
    rw (p.1, p.2) (search (as_fails, rules))

pub returns : goal.returns
returns c = search (as_passes, rules)
