-- What a read of a Setup packet leaves, and an empty write in Idle, beside their definitions and apart from them.
-- Assumes nothing.
use Rattle.std.specs.Prelude.{ℕ, ◌+◌, ◌*◌, ◌≡◌, Bool, true, false, List, get_or, Ok}
use Rattle.laws.specs.Words.{bit}
use Rattle.board.specs.declared.Direction.TheVariants.{Out, In}
use Rattle.csr.specs.declared.Csr0l.{Csr0l}
use Rattle.register_file.specs.Registers.{side_at, setupend}
use Rattle.store_rules.specs.Stores.{Log, write_csr0l, write_index}
use Rattle.control_state.specs.declared.ControlState.{ControlState}
use Rattle.control_state.specs.declared.ControlStateEnum.TheVariants.{DataIn, DataOut, Accepted, NodataPhase}
use Rattle.record.specs.declared.Flags.{Flags}
use Rattle.transfer_rules.specs.Peek.{After}
use Rattle.transfer_rules.specs.Write.{WriteLeft}

-- one store to CSR0L, with DataEnd and ServicedRxPktRdy as told: the other bits as they read
pub record StoresZero (has_data_end serviced : Bool) (g h : Log) : Type 0 where
  pub word : Csr0l
  pub store : h ≡ write_csr0l word g
  pub ends : word.data_end ≡ has_data_end
  pub answers : word.serviced_rx_pkt_rdy ≡ serviced
  pub received : word.rx_pkt_rdy ≡ (side_at g.regs 0 Out).ready
  pub sending : word.tx_pkt_rdy ≡ (side_at g.regs 0 In).ready
  pub sent : word.sent_stall ≡ (side_at g.regs 0 In).stalled
  pub halt : word.send_stall ≡ (side_at g.regs 0 In).stall
  pub setup : word.setup_end ≡ setupend g.regs
  pub unanswered : word.serviced_setup_end ≡ false

-- w_length stands in bytes 6 and 7, low byte first; it is 0 where both are
abbrev pub NoData : List ℕ → Type 0
NoData b = (get_or b 6 0 ≡ 0) × (get_or b 7 0 ≡ 0)

-- DataEnd is stored, after ServicedRxPktRdy
pub record Ends (g h : Log) : Type 0 where
  pub between : Log
  pub first : StoresZero false true g between
  pub then : StoresZero true false between h

-- "Setup with wLength 0 goes to NodataPhase with DataEnd, for either direction; otherwise to DataOut, or DataIn with that length remaining": the
-- packet's bytes are b, the direction is bit 7 of byte 0, and all else stays
pub record SetsUp (b : List ℕ) (c : ControlState) (f : Flags) (g : Log) (o : After) : Type 0 where
  pub nodata : NoData b → (o.control.state ≡ NodataPhase) × (o.control.tx_len ≡ c.tx_len) × Ends g o.log
  pub from_host : (NoData b → ⊥) → bit (get_or b 0 0) 7 ≡ false → (o.control.state ≡ DataOut) × (o.control.tx_len ≡ c.tx_len) × StoresZero false true g o.log
  pub to_host : (NoData b → ⊥) → bit (get_or b 0 0) 7 ≡ true
      → (o.control.state ≡ DataIn) × (o.control.tx_len ≡ get_or b 6 0 + 256 * get_or b 7 0) × StoresZero false true g o.log
  pub flags : o.irq ≡ f

-- "An empty write in Idle gives Accepted.": endpoint 0 is selected, and nothing else is stored
pub record Accepts (c : ControlState) (f : Flags) (x : List ℕ) (g : Log) (o : WriteLeft) : Type 0 where
  pub accepted : o.after.control.state ≡ Accepted
  pub remaining : o.after.control.tx_len ≡ c.tx_len
  pub flags : o.after.irq ≡ f
  pub stored : o.after.log ≡ write_index 0 g
  pub fifo : o.fifo ≡ x
  pub answer : o.answer ≡ Ok 0
