-- `overrun::clear_over_run` meets its contract. Assumes nothing.
use Rattle.common_rules.proofs.Overrun.{over_run_lem, no_over_run}
use borrow.Author.Rules.{rules}
use Rattle.overrun.proofs.clear_over_run.Goals as goal

pub returns-then-v : goal.returns-then-v
returns-then-v c = (search (over_run_lem, rules), search rules)

pub returns : goal.returns
returns c = (search (no_over_run, rules), search rules)
