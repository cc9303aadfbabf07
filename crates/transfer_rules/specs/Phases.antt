-- What a write at endpoint 0 leaves in NodataPhase and in DataIn, beside its definition and apart from it.
-- Assumes nothing.
use Rattle.std.specs.Prelude.{ℕ, ◌+◌, ◌≤◌, ◌<◌, ◌≡◌, true, false}
use Rattle.laws.specs.Words.{bit}
use Rattle.store_rules.specs.Stores.{Log}
use Rattle.control_state.specs.declared.ControlState.{ControlState}
use Rattle.control_state.specs.declared.ControlStateEnum.TheVariants.{Idle}
use Rattle.record.specs.declared.Flags.{Flags}
use Rattle.transfer_rules.specs.Peek.{After}
use Rattle.transfer_rules.specs.Setup.{StoresZero}

-- NodataPhase: endpoint 0 is to be named as sent, Idle follows, nothing is stored
pub record Acknowledges (f : Flags) (g : Log) (o : After) : Type 0 where
  pub idle : o.control.state ≡ Idle
  pub sent : bit o.irq.ep_tx 0 ≡ true
  pub others : (j : ℕ) → j < 6 → (j ≡ 0 → ⊥) → bit o.irq.ep_tx j ≡ bit f.ep_tx j
  pub log : o.log ≡ g

-- DataIn has ended: Idle and nothing remaining, and to the registers and the list g DataEnd is stored (document 02, T-12: "DataEnd is stored in that write and in no other
-- of the transfer")
pub record Ended (g : Log) (o : After) : Type 0 where
  pub idle : o.control.state ≡ Idle
  pub none : o.control.tx_len ≡ 0
  pub told : StoresZero true false g o.log

-- it goes on: n bytes less remain, and nothing more is stored
pub record GoesOn (n : ℕ) (c : ControlState) (g : Log) (o : After) : Type 0 where
  pub still : o.control.state ≡ c.state
  pub left : o.control.tx_len + n ≡ c.tx_len
  pub untold : o.log ≡ g

-- DataIn, n bytes sent where the recorded size is t: "It ends at 0, or at a packet shorter than the recorded transmit size."
pub record Sends (n t : ℕ) (c : ControlState) (g : Log) (o : After) : Type 0 where
  pub all : c.tx_len ≤ n → Ended g o
  pub short : n < t → Ended g o
  pub more : n < c.tx_len → t ≤ n → GoesOn n c g o
