-- What the Accepted step leaves, beside its definition and apart from it. `usb-device` sends an empty packet after the data of a control write,
-- which MUSB does not need: "we still need to tell `usb-device` that this packet was sent successfully".
-- Assumes nothing.
use Rattle.std.specs.Prelude.{ℕ, ◌<◌, ◌≡◌, true, false, ◌||◌}
use Rattle.laws.specs.Words.{bit}
use Rattle.control_state.specs.declared.ControlState.{ControlState}
use Rattle.control_state.specs.declared.ControlStateEnum.TheVariants.{Idle}
use Rattle.record.specs.declared.Flags.{Flags}
use Rattle.round_rules.specs.Zero.{AfterAccept}

-- in Accepted: endpoint 0 is to be named as sent and not for reading ("Ignore RX. This will be addressed in the next poll.", so that its own
-- flag goes up), Idle follows, and nothing else changes
pub record Accepts (c : ControlState) (f : Flags) (o : AfterAccept) : Type 0 where
  pub idle : o.control_state.state ≡ Idle
  pub remaining : o.control_state.tx_len ≡ c.tx_len
  pub sent : bit o.irq.ep_tx 0 ≡ true
  pub other_sent : (j : ℕ) → j < 6 → (j ≡ 0 → ⊥) → bit o.irq.ep_tx j ≡ bit f.ep_tx j
  pub unread : bit o.irq.ep_rx 0 ≡ false
  pub other_unread : (j : ℕ) → j < 6 → (j ≡ 0 → ⊥) → bit o.irq.ep_rx j ≡ bit f.ep_rx j
  pub postponed : o.irq.ep0 ≡ (f.ep0 || bit f.ep_rx 0)
  pub reset : o.irq.reset ≡ f.reset
  pub suspend : o.irq.suspend ≡ f.suspend
  pub resume : o.irq.resume ≡ f.resume
  pub low : (o.irq.ep_tx < 64) × (o.irq.ep_rx < 64)
