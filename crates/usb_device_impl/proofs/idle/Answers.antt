-- `usb_device_impl::idle` meets its contract. Assumes nothing.
use mathlib.Core.Path.{ap, ◌∙◌}
use Rattle.control_state.specs.Control.{with_tx_len}
use Rattle.control_state.specs.declared.ControlState.{ControlState}
use Rattle.call_rules.specs.Calls.{idled}
use Rattle.usb_device_impl.proofs.idle.Goals as goal

pub returns : goal.returns
unfolding idled
returns c = c.reset_tx_len.ensures ∙ ap (λ (x : ControlState). with_tx_len x 0) c.set_state.ensures
