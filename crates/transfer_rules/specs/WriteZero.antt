-- The call `write` at endpoint 0, by the control state, its steps in the source's order; and what a write gives back.
-- Assumes nothing.
use Rattle.std.specs.Prelude.{ℕ, cond, List, [], ◌∷◌, ltb, eqb, get_or, Err, Ok}
use Rattle.laws.specs.Words.{raised}
use Rattle.board.specs.declared.Direction.TheVariants.{In}
use Rattle.csr.specs.declared.Csr0lSet.TheVariants as csr0l
use Rattle.store_rules.specs.Stores.{Log, modify_csr0l}
use Rattle.control_state.specs.Control.{with_state, with_tx_len, decreased}
use Rattle.control_state.specs.declared.ControlState.{ControlState}
use Rattle.control_state.specs.declared.ControlStateEnum.{ControlStateEnum}
use Rattle.control_state.specs.declared.ControlStateEnum.TheVariants.{Idle, Setup, DataIn, DataOut, Accepted, NodataPhase}
use Rattle.endpoints.specs.declared.EndpointData.{EndpointData}
use Rattle.endpoints.specs.Endpoints.{blank, size_in}
use Rattle.record.specs.declared.Flags.{Flags}
use Rattle.record.specs.declared.Record.{Record}
use Rattle.record.specs.Record.{refusal_number, with_tx, Reply}
use Rattle.transfer_rules.specs.Peek.{After, after, ended}

-- document 01's number and values of each answer
abbrev pub write_number : Reply ℕ → ℕ
write_number (Ok n) = 0
write_number (Err x) = refusal_number x

abbrev pub write_values : Reply ℕ → List ℕ
write_values (Ok n) = n ∷ []
write_values (Err x) = []

-- the steps --------------------------------------------------------------------------------------------------------------------

-- In each: n bytes are written, t is endpoint 0's recorded transmit size, c and f are the control state and the flags before.

-- NodataPhase: `set_state(Idle)`, `IRQ_EP_TX | 1`
unfoldable pub nodata_phase : ControlState → Flags → Log → After
nodata_phase c f g = after (with_state c Idle) (with_tx f (raised f.ep_tx 0)) g

-- Idle: `set_state(Accepted)`. "An empty write in Idle gives Accepted."
unfoldable pub accepted : ControlState → Flags → Log → After
accepted c f g = after (with_state c Accepted) f g

-- endpoint 0's recorded transmit size
unfoldable pub tx_size_in : List EndpointData → ℕ
tx_size_in es = size_in (get_or es 0 blank) In

unfoldable pub tx_size : Record → ℕ
tx_size k = tx_size_in k.endpoints

-- DataIn, with c what `decrease_tx_len` leaves: "It ends at 0, or at a packet shorter than the recorded transmit size."
abbrev pub ends_by : ℕ → ℕ → ControlState → Flags → Log → After
ends_by n t c f g =
    cond (eqb c.tx_len 0) (ended (with_state c Idle) f g)
    (cond (ltb n t) (ended (with_tx_len (with_state c Idle) 0) f g)
    (after c f g))

unfoldable pub data_in : ℕ → ℕ → ControlState → Flags → Log → After
data_in n t c f g = ends_by n t (decreased c n) f g

unfoldable pub sent_data_in : ℕ → ℕ → ControlState → Flags → Log → After
sent_data_in n t c f g = data_in n t c f (modify_csr0l csr0l.TxPktRdy g)

-- endpoint 0: the source's `match self.control_state.get_state()`. In Setup, DataOut and Accepted it panics; reply 11 came before.
abbrev pub sent_zero : ControlStateEnum → ℕ → ℕ → ControlState → Flags → Log → After
sent_zero NodataPhase n t c f g = nodata_phase c f g
sent_zero DataIn n t c f g = sent_data_in n t c f g
sent_zero Idle n t c f g = accepted c f g
sent_zero Setup n t c f g = after c f g
sent_zero DataOut n t c f g = after c f g
sent_zero Accepted n t c f g = after c f g
