-- `trace_arguments::two_at` meets its contract.
-- Assumes nothing.
use Rattle.std.specs.Prelude.{Some}
use borrow.Author.Rules.{rules}
use Rattle.trace_rules.specs.Groups.{place_after}
use Rattle.trace_rules.specs.Arguments.{arg_at, two_at}
use Rattle.trace_rules.proofs.Ranges.{two_within}
use Rattle.trace_arguments.proofs.two_at.Goals as goal

pub returns-clause-within : goal.returns-clause-within
unfolding two_at arg_at place_after
returns-clause-within c = two_within c.args.s.now c.args.at c.args.m c.args.n (Some (c.in_ok-a.a, c.in_ok-b.b, c.in_ok-b.past)) (search rules)
