-- `endpoint_ops::check_endpoint` meets its contract: a law for each answer, by the tests that led there.
-- Assumes nothing.
use Rattle.endpoints.proofs.Check.{too_big, lacking, in_use_lem, passing}
use borrow.Author.Rules.{rules}
use Rattle.endpoint_ops.proofs.check_endpoint.Goals as goal

pub returns-then-ask-row : goal.returns-then-ask-row
returns-then-ask-row c = search (too_big, rules)

pub returns-then-not-row_has : goal.returns-then-not-row_has
returns-then-not-row_has c = search (lacking, rules)

pub returns-then-is_in_use : goal.returns-then-is_in_use
returns-then-is_in_use c = search (in_use_lem, rules)

pub returns : goal.returns
returns c = search (passing, rules)
