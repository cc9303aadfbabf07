-- `common_impl::ep_tx_stall` meets its contract. Assumes nothing.
use Rattle.common_rules.specs.Common.{ep_tx_stall}
use borrow.Author.Rules.{rules}
use Rattle.common_impl.proofs.ep_tx_stall.Goals as goal

pub returns : goal.returns
unfolding ep_tx_stall
returns c = search rules
