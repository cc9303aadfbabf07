-- `trace_act::fetch` meets its contract.
-- Assumes nothing.
use Rattle.report_rules.proofs.Act.{by_fetched, got_fits}
use borrow.Author.Rules.{rules}
use Rattle.trace_act.proofs.fetch.Goals as goal

pub fetched-requires : goal.fetched-requires
fetched-requires c = (search rules, got_fits _ _ _ _ _ c.read-o.ensures c.requires.0)

pub returns : goal.returns
returns c = by_fetched _ c.read-o.ensures c.fetched.ensures
