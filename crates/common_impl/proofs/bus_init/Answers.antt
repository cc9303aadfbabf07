-- `common_impl::bus_init` meets its contract. Assumes nothing.
use Rattle.common_rules.proofs.Common.{initialised}
use borrow.Author.Rules.{rules}
use Rattle.common_impl.proofs.bus_init.Goals as goal

pub returns : goal.returns
returns c = (search (initialised, rules), search rules)
