-- `enabling::enable` meets its contract. Assumes nothing.
use Rattle.common_rules.specs.Enable.{enabled}
use Rattle.common_rules.proofs.Common.{selected_zero, selected_other}
use borrow.Author.Rules.{rules}
use Rattle.enabling.proofs.enable.Goals as goal

pub returns-then-index-eq0 : goal.returns-then-index-eq0
unfolding enabled
returns-then-index-eq0 c = (search (selected_zero, rules), search rules)

pub returns : goal.returns
unfolding enabled
returns c = (search (selected_other, rules), search rules)
