-- What the calls `write` and `read` share: whether enough is lent, the ready bits and the count of an endpoint as the source reads them once
-- that endpoint is selected, the order of their tests, and what their steps leave.
-- Assumes nothing.
use Rattle.std.specs.Prelude.{ℕ, Bool, ◌||◌, leb, ltb, Err, Ok}
use Rattle.board.specs.declared.Board.{Board}
use Rattle.board.specs.declared.Direction.TheVariants.{Out, In}
use Rattle.csr.specs.declared.Csr0lSet.TheVariants.{DataEnd}
use Rattle.register_file.specs.Registers.{File, side_at}
use Rattle.store_rules.specs.Stores.{Log, write_index, modify_csr0l}
use Rattle.control_state.specs.declared.ControlState.{ControlState}
use Rattle.record.specs.declared.Flags.{Flags}
use Rattle.record.specs.declared.Record.{Record}
use Rattle.record.specs.Record.{need_in, endpoints_in, passes, admission_by, list_need, refusal_number, Reply}
use Rattle.transfer_rules.specs.declared.Verdict.{Verdict}
use Rattle.transfer_rules.specs.declared.Verdict.TheVariants as verdict

-- reply 15: "FIFO buffer under 1,664 bytes or list under 384 numbers": what the board needs is 1,664
unfoldable pub short_in : Board → ℕ → ℕ → Bool
short_in b fifo list = ltb fifo (need_in b) || ltb list list_need

unfoldable pub short : Record → ℕ → ℕ → Bool
short k fifo list = short_in k.regs.board fifo list

-- TxPktRdy, RxPktRdy and the count of an endpoint. proofs/Readings.antt: this is what the source's `if index == 0 { regs.csr0l() } else
-- { regs.txcsrl() }.read().tx_pkt_rdy()` and its like read, once the endpoint is selected.
abbrev pub has_tx_pkt_rdy : ℕ → File → Bool
has_tx_pkt_rdy e w = (side_at w e In).ready

abbrev pub has_rx_pkt_rdy : ℕ → File → Bool
has_rx_pkt_rdy e w = (side_at w e Out).ready

abbrev pub rx_count : ℕ → File → ℕ
rx_count e w = (side_at w e Out).len

-- "Order: 15, 16, 8, then ..": the three that come first,
abbrev pub first_tests : Board → File → Flags → ℕ → ℕ → ℕ → Reply Unit
first_tests b w f ep fifo list = admission_by (short_in b fifo list) (passes b w f) (leb (endpoints_in b) ep)

-- and then the call's own
abbrev pub tests_by : Reply Unit → Verdict → Verdict
tests_by (Ok tt) own = own
tests_by (Err x) own = verdict.Refused x

-- document 01's reply of a verdict, 0 where none is refused
abbrev pub verdict_number : Verdict → ℕ
verdict_number verdict.Clear = 0
verdict_number verdict.Blocked = 6
verdict_number (verdict.Refused x) = refusal_number x

-- what the steps of a call leave: the registers, the list and its count, the control state, the flags
pub record After : Type 0 where
  pub log : Log
  pub control : ControlState
  pub irq : Flags

abbrev pub after : ControlState → Flags → Log → After
after c f g = record { log = g; control = c; irq = f }

-- the record with what the steps left
abbrev pub leaving : Record → After → Record
leaving k a = record {
  regs = record { board = k.regs.board; words = a.log.regs };
  endpoints = k.endpoints;
  control_state = a.control;
  irq = a.irq;
}

-- "The one exception is 6, which has selected the endpoint and listed that store."
unfoldable pub blocked : ℕ → ControlState → Flags → Log → After
blocked ep c f g = after c f (write_index ep g)

-- `csr0l().modify(|w| w.set_data_end(true))`, and then the control state c
unfoldable pub ended : ControlState → Flags → Log → After
ended c f g = after c f (modify_csr0l DataEnd g)
