-- The call `read` at endpoint 0, by the control state, its steps in the source's order; and what a read gives back.
-- Assumes nothing.
use Rattle.std.specs.Prelude.{ℕ, ◌+◌, ◌*◌, Bool, cond, List, [], ◌∷◌, leb, ltb, eqb, get_or, take, Err, Ok}
use Rattle.board.specs.declared.Direction.TheVariants.{Out}
use Rattle.csr.specs.declared.Csr0lSet.TheVariants as csr0l
use Rattle.store_rules.specs.Stores.{Log, modify_csr0l}
use Rattle.control_state.specs.Control.{with_state, with_tx_len}
use Rattle.control_state.specs.declared.ControlState.{ControlState}
use Rattle.control_state.specs.declared.ControlStateEnum.{ControlStateEnum}
use Rattle.control_state.specs.declared.ControlStateEnum.TheVariants.{Idle, Setup, DataIn, DataOut, Accepted, NodataPhase}
use Rattle.endpoints.specs.Endpoints.{blank, size_in}
use Rattle.record.specs.declared.Flags.{Flags}
use Rattle.record.specs.declared.Record.{Record}
use Rattle.record.specs.Record.{refusal_number, Reply}
use Rattle.transfer_rules.specs.Peek.{After, after, ended}

-- document 01's number and values of each answer: "for reads the count then stored bytes"
abbrev pub read_number : Reply ℕ → ℕ
read_number (Ok n) = 0
read_number (Err x) = refusal_number x

abbrev pub read_values : Reply ℕ → List ℕ → List ℕ
read_values (Ok n) b = n ∷ take n b
read_values (Err x) b = []

-- the steps --------------------------------------------------------------------------------------------------------------------

-- of a Setup packet: `buf[6] as u16 | (buf[7] as u16) << 8` and `buf[0] & 0x80`
unfoldable pub w_length : List ℕ → ℕ
w_length b = get_or b 6 0 + get_or b 7 0 * 256

unfoldable pub way_in : List ℕ → Bool
way_in b = leb 128 (get_or b 0 0)

-- Setup: "wLength 0 goes to NodataPhase with DataEnd, for either direction; otherwise to DataOut, or DataIn with that length remaining"
abbrev pub after_setup : ControlState → Bool → ℕ → ControlState
after_setup c to_host n = cond to_host (with_tx_len (with_state c DataIn) n) (with_state c DataOut)

unfoldable pub set_up : List ℕ → ControlState → Flags → Log → After
set_up b c f g = cond (eqb (w_length b) 0) (ended (with_state c NodataPhase) f g) (after (after_setup c (way_in b) (w_length b)) f g)

-- endpoint 0's recorded receive size
unfoldable pub rx_size : Record → ℕ
rx_size k = size_in (get_or k.endpoints 0 blank) Out

-- "DataOut ends at a packet shorter than the recorded receive size."
unfoldable pub data_out : ℕ → ℕ → ControlState → Flags → Log → After
data_out n size c f g = cond (ltb n size) (ended (with_state c Idle) f g) (after c f g)

-- endpoint 0: the source's `match self.control_state.get_state()`. In the other four states it panics; reply 12 came before.
abbrev pub zero_by : ControlStateEnum → List ℕ → ℕ → ℕ → ControlState → Flags → Log → After
zero_by Setup b n size c f g = set_up b c f g
zero_by DataOut b n size c f g = data_out n size c f g
zero_by Idle b n size c f g = after c f g
zero_by DataIn b n size c f g = after c f g
zero_by Accepted b n size c f g = after c f g
zero_by NodataPhase b n size c f g = after c f g

-- `csr0l().modify(|w| w.set_serviced_rx_pkt_rdy(true))`, which drops the packet: it has n bytes, b is the buffer that they went to, and
-- size is the recorded receive size
unfoldable pub read_zero : List ℕ → ℕ → ℕ → ControlState → Flags → Log → After
read_zero b n size c f g = zero_by c.state b n size c f (modify_csr0l csr0l.ServicedRxPktRdy g)
