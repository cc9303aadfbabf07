-- `common_impl::stall` meets its contract. Assumes nothing.
use Rattle.common_rules.proofs.Common.{selected_zero, selected_other}
use borrow.Author.Rules.{rules}
use Rattle.common_impl.proofs.stall.Goals as goal

pub returns-then-index-eq0 : goal.returns-then-index-eq0
returns-then-index-eq0 c = (search (selected_zero, rules), search rules)

pub returns : goal.returns
returns c = (search (selected_other, rules), search rules)
