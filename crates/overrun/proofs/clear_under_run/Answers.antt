-- `overrun::clear_under_run` meets its contract. Assumes nothing.
use Rattle.common_rules.proofs.Overrun.{under_run_lem, no_under_run}
use borrow.Author.Rules.{rules}
use Rattle.overrun.proofs.clear_under_run.Goals as goal

pub returns-then-v : goal.returns-then-v
returns-then-v c = (search (under_run_lem, rules), search rules)

pub returns : goal.returns
returns c = (search (no_under_run, rules), search rules)
