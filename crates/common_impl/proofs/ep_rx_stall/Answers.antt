-- `common_impl::ep_rx_stall` meets its contract. Assumes nothing.
use Rattle.common_rules.specs.Common.{ep_rx_stall}
use borrow.Author.Rules.{rules}
use Rattle.common_impl.proofs.ep_rx_stall.Goals as goal

pub returns : goal.returns
unfolding ep_rx_stall
returns c = search rules
