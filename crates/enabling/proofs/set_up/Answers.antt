-- `enabling::set_up` meets its contract. Assumes nothing.
use Rattle.common_rules.proofs.Enable.{settled_one}
use borrow.Author.Rules.{rules}
use Rattle.enabling.proofs.set_up.Goals as goal

pub returns : goal.returns
returns c = (search (settled_one, rules), search rules)
