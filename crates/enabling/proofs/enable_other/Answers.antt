-- `enabling::enable_other` meets its contract. Assumes nothing.
use Rattle.common_rules.proofs.Enable.{enabled_other_lem}
use borrow.Author.Rules.{rules}
use Rattle.enabling.proofs.enable_other.Goals as goal

pub returns : goal.returns
returns c = (search (enabled_other_lem, rules), search rules)
