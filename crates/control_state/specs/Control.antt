-- The control state of endpoint 0 and the length that is left to send: a value for each function of the source's control_state.rs.
-- Assumes nothing.
use Rattle.std.specs.Prelude.{ℕ, ◌-◌}
use Rattle.control_state.specs.declared.ControlState.{ControlState}
use Rattle.control_state.specs.declared.ControlStateEnum.{ControlStateEnum}
use Rattle.control_state.specs.declared.ControlStateEnum.TheVariants.{Idle}

-- `new`; document 01, of a fresh record: "Idle, nothing remaining"
abbrev pub idle : ControlState
idle = record { state = Idle; tx_len = 0 }

-- `set_state`
abbrev pub with_state : ControlState → ControlStateEnum → ControlState
with_state c s = record { state = s; tx_len = c.tx_len }

-- `set_tx_len`; `reset_tx_len` where n is 0
abbrev pub with_tx_len : ControlState → ℕ → ControlState
with_tx_len c n = record { state = c.state; tx_len = n }

-- `decrease_tx_len`; document 01: "the remaining length falls, never below 0". The difference of numbers is 0 where the second is larger.
abbrev pub decreased : ControlState → ℕ → ControlState
decreased c n = with_tx_len c (c.tx_len - n)
