-- `host::miss` meets its contract. Assumes nothing.
use Rattle.host_rules.specs.Host.{miss_call}
use Rattle.host_rules.proofs.Host.{together}
use borrow.Author.Rules.{rules}
use Rattle.host.proofs.miss.Goals as goal

pub returns : goal.returns
unfolding miss_call
returns c = search (together, rules)
