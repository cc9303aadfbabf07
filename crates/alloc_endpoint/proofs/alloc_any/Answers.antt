use native.Mathlib.Omega.{arith}
use borrow.Author.Rules.{rules}
use Rattle.board.specs.Boards.{at_most_six}
use Rattle.endpoints.specs.Allocate.{answer_to}
use Rattle.endpoints.proofs.Allocate.{at_end, stops, goes_on}
use Rattle.alloc_endpoint.proofs.alloc_any.Goals as goal

pub loop-i-init : goal.loop-i-init
unfolding answer_to
loop-i-init c = rw c.endpoints-count.ensures

pub check_at-requires : goal.check_at-requires
check_at-requires c = omega (arith, at_most_six c.args.board)

pub returns-then-is_ok : goal.returns-then-is_ok
returns-then-is_ok c = search (stops, rules)

pub loop-i-preserved : goal.loop-i-preserved
loop-i-preserved c = search (goes_on, rules)

pub returns : goal.returns
returns c = search (at_end, rules)
