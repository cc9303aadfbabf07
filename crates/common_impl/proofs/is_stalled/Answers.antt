-- `common_impl::is_stalled` meets its contract. Assumes nothing.
use Rattle.common_rules.proofs.Common.{stalled_zero, stalled_other}
use borrow.Author.Rules.{rules}
use Rattle.common_impl.proofs.is_stalled.Goals as goal

pub returns-then-index-eq0 : goal.returns-then-index-eq0
returns-then-index-eq0 c = (search rules, search (stalled_zero, rules), search rules)

pub returns : goal.returns
returns c = (search rules, search (stalled_other, rules), search rules)
