-- `trace_text::put_decimal` meets its contract.
-- Assumes nothing.
use borrow.Author.Rules.{rules}
use native.Mathlib.Omega.{arith}
use Rattle.trace_rules.proofs.Appended.{small_ends, more_ends, room}
use Rattle.trace_text.proofs.+put_decimal.Goals as goal

pub returns-then-n-lt10-clause-wrote : goal.returns-then-n-lt10-clause-wrote
returns-then-n-lt10-clause-wrote t c = (small_ends (omega arith) c.put.ensures).0

pub put-requires-2 : goal.put-requires-2
put-requires-2 t c = search (room, rules)

pub returns-clause-wrote : goal.returns-clause-wrote
returns-clause-wrote t c = (more_ends (omega arith) (omega arith) c.put_decimal-m.ensures.wrote c.put-2.ensures).0

pub returns-clause-upper_bound : goal.returns-clause-upper_bound
returns-clause-upper_bound t c = (more_ends (omega arith) (omega arith) c.put_decimal-m.ensures.wrote c.put-2.ensures).1
