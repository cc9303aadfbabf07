-- `trace_arguments::arg_at` meets its contract.
-- Assumes nothing.
use borrow.Author.Rules.{rules}
use Rattle.trace_rules.specs.Arguments.{arg_at}
use Rattle.trace_rules.proofs.Ranges.{arg_within}
use Rattle.trace_arguments.proofs.arg_at.Goals as goal

pub returns-clause-within : goal.returns-clause-within
unfolding arg_at
returns-clause-within c = arg_within _ c.args.at _ _ (search rules)
