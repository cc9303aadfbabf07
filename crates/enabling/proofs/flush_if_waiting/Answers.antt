-- `enabling::flush_if_waiting` meets its contract. Assumes nothing.
use Rattle.common_rules.proofs.Enable.{flushed_twice, flushed_never}
use borrow.Author.Rules.{rules}
use Rattle.enabling.proofs.flush_if_waiting.Goals as goal

pub returns-then-packet_waits : goal.returns-then-packet_waits
returns-then-packet_waits c = (search (flushed_twice, rules), search rules)

pub returns : goal.returns
returns c = (search (flushed_never, rules), search rules)
