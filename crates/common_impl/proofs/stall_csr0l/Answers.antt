-- `common_impl::stall_csr0l` meets its contract. Assumes nothing.
use Rattle.common_rules.specs.Common.{stall_csr0l}
use borrow.Author.Rules.{rules}
use Rattle.common_impl.proofs.stall_csr0l.Goals as goal

pub returns : goal.returns
unfolding stall_csr0l
returns c = search rules
