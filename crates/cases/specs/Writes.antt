-- Document 01's proved table, 'Cases': P11 and P12.
-- Assumes nothing.
use Rattle.std.specs.Prelude.{ℕ, List, [], ◌∷◌, ◌++◌, set, replicate}
use Rattle.board.specs.declared.Board.{Board}
use Rattle.board.specs.declared.Direction.TheVariants.{In}
use Rattle.endpoints.specs.declared.EndpointType.TheVariants.{Control}
use Rattle.endpoints.specs.Endpoints.{fresh, marked}
use Rattle.cases.specs.Allocations.{Case}
use Rattle.control_state.specs.Numbers.{state_number}
use Rattle.control_state.specs.declared.ControlStateEnum.{ControlStateEnum}
use Rattle.control_state.specs.declared.ControlStateEnum.TheVariants.{Idle, DataIn}
use Rattle.record.specs.declared.Record.{Record}
use Rattle.record.specs.Record.{fresh_record, with_control, with_endpoints, need_of}
use Rattle.transfer_rules.specs.Write.{WriteOutcome, write_call}
use Rattle.transfer_rules.specs.WriteZero.{write_number, write_values}

-- a fresh record, but for endpoint 0: in DataIn with m bytes remaining
abbrev pub sending : Board → ℕ → Record
sending b m = with_control (fresh_record b) (record { state = DataIn; tx_len = m })

-- .. and with a transmit size recorded
abbrev pub sized : ℕ → Record → Record
sized n k = with_endpoints k (set k.endpoints 0 (marked fresh Control In n))

-- what a write gives, as the report prints it, and then the control state's number and the length that remains
abbrev pub shown : WriteOutcome → List ℕ
shown o =
    write_number o.result.answer ∷ write_values o.result.answer
    ++ (state_number o.result.«record».control_state.state ∷ o.result.«record».control_state.tx_len ∷ [])

-- a write of n bytes at endpoint 0, as much memory lent as is asked for: it is done, and leaves the state and the remaining length
abbrev pub writing : Record → ℕ → ControlStateEnum → ℕ → Case
writing k n s m = record {
  gives = shown (write_call k 0 (replicate n 7) (replicate (need_of k) 0) (replicate 384 0)) ∷ [];
  says = (0 ∷ n ∷ state_number s ∷ m ∷ []) ∷ [];
}

abbrev pub writes : Board → List Case
writes b =
    -- P11: "remaining 5, write 6: Idle, 0 left"
    writing (sending b 5) 6 Idle 0
    -- P12: "transmit size 64, remaining 65: write 64 stays with 1; write 63 ends"
    ∷ writing (sized 64 (sending b 65)) 64 DataIn 1
    ∷ writing (sized 64 (sending b 65)) 63 Idle 0
    ∷ []
