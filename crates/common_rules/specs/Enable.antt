-- What the functions of the source's common_impl.rs store when an endpoint is enabled, each as a step from a Log to a Log over the model's
-- operations.
-- Assumes nothing.
use Rattle.std.specs.Prelude.{ℕ, Bool, true, false, cond}
use Rattle.board.specs.declared.Direction.{Direction}
use Rattle.board.specs.declared.Direction.TheVariants.{Out, In}
use Rattle.register_file.specs.Registers.{File}
use Rattle.csr.specs.declared.Csr0lSet.TheVariants.{ServicedBoth}
use Rattle.csr.specs.declared.TxcsrlSet.TheVariants as txcsrl
use Rattle.csr.specs.declared.RxcsrlSet.TheVariants as rxcsrl
use Rattle.register_file.specs.Control.{txcsrl_read, rxcsrl_read}
use Rattle.endpoints.specs.Endpoints.{same_type}
use Rattle.endpoints.specs.declared.EndpointConfig.{EndpointConfig}
use Rattle.endpoints.specs.declared.EndpointType.{EndpointType}
use Rattle.endpoints.specs.declared.EndpointType.TheVariants.{Isochronous}
use Rattle.store_rules.specs.Stores.{Log, modify_csr0l, modify_txcsrl, modify_rxcsrl, flush_csr0h, write_iso, write_maxp, modify_intre}
use Rattle.common_rules.specs.Common.{selected, write_csrl}

-- `csr0h().modify(|w| w.set_flush_fifo(true))`, of the full core alone
unfoldable pub flushed_zero : Log → Log
flushed_zero g = flush_csr0h g

-- enabling endpoint 0, the same in `ep_tx_enable` and `ep_rx_enable`: "EP0 has only one interrupt enable register"
unfoldable pub enabled_zero : Log → Log
enabled_zero g = flushed_zero (modify_csr0l ServicedBoth (modify_intre In 0 g))

-- "Full version uses full packet size": maxp counts bytes
unfoldable pub sized : Direction → ℕ → Log → Log
sized d size g = write_maxp d size g

-- the interrupt, the size and the data toggle of an endpoint of 1 to 5
unfoldable pub settled : Direction → ℕ → ℕ → Log → Log
settled d e size g = write_csrl d false true (sized d size (modify_intre d e g))

-- `if config.ep_type == EndpointType::Isochronous { .. }`
unfoldable pub iso_written : Direction → Bool → Log → Log
iso_written d iso g = cond iso (write_iso d g) g

-- `if txcsrl().read().fifo_not_empty()`, `if rxcsrl().read().rx_pkt_rdy()`: then flush, twice
unfoldable pub waits : Direction → File → Bool
waits Out r = (rxcsrl_read r).rx_pkt_rdy
waits In r = (txcsrl_read r).fifo_not_empty

unfoldable pub flush : Direction → Log → Log
flush Out g = modify_rxcsrl rxcsrl.FlushFifo g
flush In g = modify_txcsrl txcsrl.FlushFifo g

unfoldable pub flushed : Direction → Log → Log
flushed d g = cond (waits d g.regs) (flush d (flush d g)) g

-- enabling an endpoint of 1 to 5
unfoldable pub enabled_other : Direction → ℕ → Bool → ℕ → Log → Log
enabled_other d e iso size g = flushed d (iso_written d iso (settled d e size g))

-- the direction is all that the two differ in
unfoldable pub enabled : Direction → ℕ → Bool → ℕ → Log → Log
enabled d e iso size g = selected e enabled_zero (enabled_other d e iso size) g

unfoldable pub isochronous : EndpointType → Bool
isochronous t = same_type t Isochronous

-- `ep_tx_enable`
unfoldable pub ep_tx_enable : ℕ → EndpointConfig → Log → Log
ep_tx_enable e config g = enabled In e (isochronous config.ep_type) config.tx_max_packet_size g

-- `ep_rx_enable`
unfoldable pub ep_rx_enable : ℕ → EndpointConfig → Log → Log
ep_rx_enable e config g = enabled Out e (isochronous config.ep_type) config.rx_max_packet_size g
