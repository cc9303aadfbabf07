-- `enabling::enable_zero` meets its contract. Assumes nothing.
use Rattle.common_rules.proofs.Enable.{enabled_zero_lem}
use borrow.Author.Rules.{rules}
use Rattle.enabling.proofs.enable_zero.Goals as goal

pub returns : goal.returns
returns c = (search (enabled_zero_lem, rules), search rules)
