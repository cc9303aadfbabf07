-- The control registers over the whole file: what CSR0L reads, what stores to CSR0L and CSR0H do, what the selected endpoint's registers
-- read, and the counts.
-- Assumes nothing.
use Rattle.std.specs.Prelude.{ℕ, Bool, true, false, not, ◌&&◌}
use Rattle.board.specs.declared.Direction.TheVariants.{Out, In}
use Rattle.csr.specs.declared.Csr0l.{Csr0l}
use Rattle.csr.specs.declared.Csr0lSet.{Csr0lSet}
use Rattle.csr.specs.declared.Csr0lSet.TheVariants as csr0l
use Rattle.csr.specs.declared.Txcsrl.{Txcsrl}
use Rattle.csr.specs.declared.Rxcsrl.{Rxcsrl}
use Rattle.register_file.specs.Registers.{File, side_at, with_side, setupend, with_setupend, chosen}
use Rattle.csr.specs.Control.{txcsrl_of, rxcsrl_of, zero_tx_stored, dropped}

-- what is read: "DataEnd, Serviced, Flush and ClrDataTog read 0"; "FIFONotEmpty reads as TxPktRdy. FIFOFull and DataError read 0."
unfoldable pub csr0l_read : File → Csr0l
csr0l_read r = record {
  rx_pkt_rdy = (side_at r 0 Out).ready;
  tx_pkt_rdy = (side_at r 0 In).ready;
  sent_stall = (side_at r 0 In).stalled;
  data_end = false;
  setup_end = setupend r;
  send_stall = (side_at r 0 In).stall;
  serviced_rx_pkt_rdy = false;
  serviced_setup_end = false;
}

-- both are the selected endpoint's
abbrev pub txcsrl_read : File → Txcsrl
txcsrl_read r = txcsrl_of (chosen r In)

abbrev pub rxcsrl_read : File → Rxcsrl
rxcsrl_read r = rxcsrl_of (chosen r Out)

-- "Counts are the waiting packet's length, 0 if none": a length is 0 where no packet waits, or the record is refused (reply 16); that is
-- `count0_none` and `rxcount_none` of proofs/AsWritten.antt
abbrev pub count0 : File → ℕ
count0 r = (side_at r 0 Out).len

unfoldable pub rxcount : File → ℕ
rxcount r = (chosen r Out).len

-- "RxPktRdy and SetupEnd of endpoint 0 are cleared only by their Serviced bits or a flush (RxPktRdy)." DataEnd changes nothing.
unfoldable pub csr0l_stored : Csr0l → File → File
csr0l_stored w r =
    with_setupend
    (with_side (with_side r 0 In (zero_tx_stored w (side_at r 0 In))) 0 Out (dropped w.serviced_rx_pkt_rdy (side_at r 0 Out)))
    (setupend r && not w.serviced_setup_end)

-- which of the source's settings of CSR0L answer the packet received, and which the setup end: proofs/Modified.antt has what a `modify` does
abbrev pub answers_packet : Csr0lSet → Bool
answers_packet csr0l.TxPktRdy = false
answers_packet csr0l.DataEnd = false
answers_packet csr0l.ServicedRxPktRdy = true
answers_packet csr0l.ServicedSetupEnd = false
answers_packet csr0l.ServicedBoth = true

abbrev pub answers_end : Csr0lSet → Bool
answers_end csr0l.TxPktRdy = false
answers_end csr0l.DataEnd = false
answers_end csr0l.ServicedRxPktRdy = false
answers_end csr0l.ServicedSetupEnd = true
answers_end csr0l.ServicedBoth = true

-- "CSR0H's flush does both sides"
unfoldable pub csr0h_flushed : File → File
csr0h_flushed r = with_side (with_side r 0 In (dropped true (side_at r 0 In))) 0 Out (dropped true (side_at r 0 Out))
