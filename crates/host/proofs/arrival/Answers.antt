-- `host::arrival` meets its contract. Assumes nothing.
use Rattle.host_rules.proofs.Host.{arriving}
use borrow.Author.Rules.{rules}
use Rattle.host.proofs.arrival.Goals as goal

pub returns : goal.returns
returns c = search (arriving, rules)
