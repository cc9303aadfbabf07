-- Document 01's proved table, 'Cases': P13; and cases of document 02's T-02.
-- Assumes nothing.
use Rattle.std.specs.Prelude.{ℕ, true, false, List, [], ◌∷◌, ◌++◌, set, replicate, Err, Ok}
use Rattle.board.specs.declared.Board.{Board}
use Rattle.board.specs.declared.Direction.TheVariants.{Out}
use Rattle.csr.specs.declared.Side.{Side}
use Rattle.register_file.specs.Registers.{with_side}
use Rattle.endpoints.specs.declared.EndpointType.TheVariants.{Control}
use Rattle.endpoints.specs.Endpoints.{fresh, marked}
use Rattle.cases.specs.Allocations.{Case}
use Rattle.control_state.specs.Numbers.{state_number}
use Rattle.control_state.specs.declared.ControlStateEnum.{ControlStateEnum}
use Rattle.control_state.specs.declared.ControlStateEnum.TheVariants.{Idle, Setup, DataOut}
use Rattle.record.specs.declared.Record.{Record}
use Rattle.record.specs.Record.{fresh_record, with_regs, with_control, with_endpoints, need_of, Reply}
use Rattle.transfer_rules.specs.Read.{ReadOutcome, read_call}
use Rattle.transfer_rules.specs.ReadZero.{read_number}

-- a receive side where a packet of n bytes waits
abbrev pub waits : ℕ → Side
waits n = record { ready = true; missed = false; stall = false; stalled = false; iso = false; maxp = 0; len = n }

-- k, with a packet of n bytes waiting at an endpoint
abbrev pub holding : Record → ℕ → ℕ → Record
holding k e n = with_regs k (with_side k.regs.words e Out (waits n))

-- k in a control state, nothing remaining
abbrev pub in_state : Record → ControlStateEnum → Record
in_state k s = with_control k (record { state = s; tx_len = 0 })

-- a fresh record, but for endpoint 0: in DataOut, with a receive size recorded and a packet of n bytes waiting
abbrev pub receiving : Record → ℕ → ℕ → Record
receiving k size n = holding (in_state (with_endpoints k (set k.endpoints 0 (marked fresh Control Out size))) DataOut) 0 n

-- what a read gives, without the bytes: its reply, its count, and then the control state's number
abbrev pub counted : Reply ℕ → List ℕ
counted (Ok n) = n ∷ []
counted (Err x) = []

abbrev pub shown : ReadOutcome → List ℕ
shown o = read_number o.result.answer ∷ counted o.result.answer ++ (state_number o.result.«record».control_state.state ∷ [])

-- a read at an endpoint, into a buffer of so many bytes, as much memory lent as is asked for
abbrev pub into : Record → ℕ → ℕ → List ℕ → Case
into k e room what = record {
  gives = shown (read_call k e (replicate room 0) (replicate (need_of k) 7) (replicate 384 0)) ∷ [];
  says = what ∷ [];
}

-- what it then shows: where it is done 0, the count and the state; where it is refused its number, and the state that stays
abbrev pub done : ℕ → ControlStateEnum → List ℕ
done n s = 0 ∷ n ∷ state_number s ∷ []

abbrev pub refused : ℕ → ControlStateEnum → List ℕ
refused n s = n ∷ state_number s ∷ []

-- of a packet at endpoint 0: it is done, and leaves the state
abbrev pub reading : Board → ℕ → ℕ → ControlStateEnum → Case
reading b size n s = into (receiving (fresh_record b) size n) 0 64 (done n s)

abbrev pub readings : Board → List Case
readings b =
    -- P13: "DataOut, receive size 64: 64 stays, 63 ends"
    reading b 64 64 DataOut
    ∷ reading b 64 63 Idle
    -- "with receive size 0 none ends"
    ∷ reading b 0 64 DataOut
    ∷ reading b 0 63 DataOut
    ∷ reading b 0 1 DataOut
    ∷ reading b 0 0 DataOut
    ∷ []

-- T-02
abbrev pub buffers : Board → List Case
buffers b =
    -- "A fitter's tool lent 48 bytes for a 64-byte packet", a chart row at endpoint 5
    into (holding (fresh_record b) 5 64) 5 48 (refused 18 Idle)
    ∷ into (holding (fresh_record b) 5 64) 5 63 (refused 18 Idle)
    -- "A buffer of exactly the packet's length is enough, and an empty packet fits any buffer."
    ∷ into (holding (fresh_record b) 5 64) 5 64 (done 64 Idle)
    ∷ into (holding (fresh_record b) 5 0) 5 0 (done 0 Idle)
    -- endpoint 0: DataOut stays, until a read with room ends it
    ∷ into (receiving (fresh_record b) 64 63) 0 62 (refused 18 DataOut)
    ∷ into (receiving (fresh_record b) 64 63) 0 63 (done 63 Idle)
    -- "reply 18, after 13"
    ∷ into (holding (in_state (fresh_record b) Setup) 0 8) 0 7 (refused 13 Setup)
    ∷ []
