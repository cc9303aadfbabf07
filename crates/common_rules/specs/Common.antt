-- What the functions of the source's common_impl.rs store for the bus and for stalling, each as a step from a Log to a Log over the model's
-- operations.
-- Assumes nothing.
use Rattle.std.specs.Prelude.{ℕ, Bool, false, not, cond, eqb}
use Rattle.board.specs.declared.Direction.{Direction}
use Rattle.board.specs.declared.Direction.TheVariants.{Out, In}
use Rattle.register_file.specs.Registers.{File}
use Rattle.register_file.specs.Control.{csr0l_read, txcsrl_read, rxcsrl_read}
use Rattle.store_rules.specs.Stores.{Log, write_index, write_csr0l, write_txcsrl, write_rxcsrl, write_intrusbe, write_intre}

-- `bus_init`: intrusbe, then 0xFE to intrrxe (endpoint 0 has no receive interrupt), then 0xFF to intrtxe
unfoldable pub bus_init : Log → Log
bus_init g = write_intre In 255 (write_intre Out 254 (write_intrusbe g))

-- how each function of an endpoint begins: `index().write(..)`, then `if index == 0 { .. } else { .. }`
unfoldable pub selected : ℕ → (Log → Log) → (Log → Log) → Log → Log
selected e atZero atOther g = cond (eqb e 0) (atZero (write_index e g)) (atOther (write_index e g))

-- the source's `write` of CSR0L, and of RXCSRL or TXCSRL: from zeros, with the two bits that its closures may set.
-- SentStall, which they set to false, is so already.
unfoldable pub stall_csr0l : Bool → Bool → Log → Log
stall_csr0l stall serviced g = write_csr0l (record { rx_pkt_rdy = false; tx_pkt_rdy = false; sent_stall = false; data_end = false; setup_end = false; send_stall = stall; serviced_rx_pkt_rdy = serviced; serviced_setup_end = false }) g

unfoldable pub write_csrl : Direction → Bool → Bool → Log → Log
write_csrl Out stall toggle g = write_rxcsrl (record { rx_pkt_rdy = false; fifo_full = false; over_run = false; data_error = false; flush_fifo = false; send_stall = stall; sent_stall = false; clr_data_tog = toggle }) g
write_csrl In stall toggle g = write_txcsrl (record { tx_pkt_rdy = false; fifo_not_empty = false; under_run = false; flush_fifo = false; send_stall = stall; sent_stall = false; clr_data_tog = toggle }) g

-- `ep_tx_stall`
unfoldable pub ep_tx_stall : ℕ → Bool → Log → Log
ep_tx_stall e stalled g = selected e (stall_csr0l stalled false) (write_csrl In stalled (not stalled)) g

-- `ep_rx_stall`: at endpoint 0 stalling also answers the waiting packet (`set_serviced_rx_pkt_rdy`)
unfoldable pub ep_rx_stall : ℕ → Bool → Log → Log
ep_rx_stall e stalled g = selected e (stall_csr0l stalled stalled) (write_csrl Out stalled (not stalled)) g

-- what `ep_tx_is_stalled` and `ep_rx_is_stalled` answer; all that they store is the index
unfoldable pub has_send_stall : Direction → File → Bool
has_send_stall Out r = (rxcsrl_read r).send_stall
has_send_stall In r = (txcsrl_read r).send_stall

unfoldable pub is_stalled : Direction → ℕ → Log → Bool
is_stalled d e g = cond (eqb e 0) (csr0l_read (write_index e g).regs).send_stall (has_send_stall d (write_index e g).regs)
