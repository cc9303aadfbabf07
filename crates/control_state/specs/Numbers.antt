-- The number of each control state.
-- Assumes nothing.
use Rattle.std.specs.Prelude.{ℕ}
use Rattle.control_state.specs.declared.ControlStateEnum.{ControlStateEnum}
use Rattle.control_state.specs.declared.ControlStateEnum.TheVariants.{Idle, Setup, DataIn, DataOut, Accepted, NodataPhase}

-- `From<u8>` of the source, the other way round
abbrev pub state_number : ControlStateEnum → ℕ
state_number Idle = 0
state_number Setup = 1
state_number DataIn = 2
state_number DataOut = 3
state_number Accepted = 4
state_number NodataPhase = 5
