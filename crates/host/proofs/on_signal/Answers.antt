-- `host::on_signal` meets its contract. Assumes nothing.
use Rattle.record.specs.Record.{record_sound}
use Rattle.host_rules.proofs.Host.{together}
use borrow.Author.Rules.{rules}
use Rattle.host.proofs.on_signal.Goals as goal

pub returns : goal.returns
unfolding record_sound
returns c = search (together, rules)
