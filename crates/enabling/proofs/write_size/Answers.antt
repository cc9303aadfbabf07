-- `enabling::write_size` meets its contract. Assumes nothing.
use Rattle.common_rules.specs.Enable.{sized}
use borrow.Author.Rules.{rules}
use Rattle.enabling.proofs.write_size.Goals as goal

pub returns : goal.returns
unfolding sized
returns c = search rules
