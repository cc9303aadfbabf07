-- `enabling::ep_tx_enable` meets its contract. Assumes nothing.
use Rattle.endpoints.proofs.Types.{is_same}
use Rattle.common_rules.specs.Enable.{isochronous, ep_tx_enable}
use Rattle.enabling.proofs.ep_tx_enable.Goals as goal

pub returns : goal.returns
unfolding isochronous ep_tx_enable
returns c = rw (← is_same _ _, ← c.eq.ensures) c.enable.ensures
