-- The control registers: their bits, what is read of one side, what a store does to it, and the number that the store list has.
-- Bits follow the public MUSB layout, as document 01 gives it under 'Register model'.
-- Assumes nothing.
use Rattle.std.specs.Prelude.{ℕ, ◌+◌, ◌*◌, Bool, true, false, not, ◌&&◌, ◌||◌, cond, List, [], ◌∷◌}
use Rattle.csr.specs.declared.Side.{Side}
use Rattle.csr.specs.declared.Csr0l.{Csr0l}
use Rattle.csr.specs.declared.Txcsrl.{Txcsrl}
use Rattle.csr.specs.declared.Rxcsrl.{Rxcsrl}
use Rattle.csr.specs.declared.Csr0lSet.{Csr0lSet}
use Rattle.csr.specs.declared.Csr0lSet.TheVariants as csr0l
use Rattle.csr.specs.declared.TxcsrlSet.{TxcsrlSet}
use Rattle.csr.specs.declared.TxcsrlSet.TheVariants as txcsrl
use Rattle.csr.specs.declared.RxcsrlSet.{RxcsrlSet}
use Rattle.csr.specs.declared.RxcsrlSet.TheVariants as rxcsrl

-- "A drop makes its length 0 and leaves the bytes": the packet's length, dropped or not
abbrev pub unless : Bool → ℕ → ℕ
unless drop n = cond drop 0 n

-- CSR0L "from bit 0: RxPktRdy, TxPktRdy, SentStall, DataEnd, SetupEnd, SendStall, ServicedRxPktRdy, ServicedSetupEnd"
unfoldable pub csr0l_number : Csr0l → ℕ
csr0l_number w =
    cond w.rx_pkt_rdy 1 0 + cond w.tx_pkt_rdy 2 0 + cond w.sent_stall 4 0 + cond w.data_end 8 0
    + cond w.setup_end 16 0 + cond w.send_stall 32 0 + cond w.serviced_rx_pkt_rdy 64 0 + cond w.serviced_setup_end 128 0

-- TXCSRL: "TxPktRdy, FIFONotEmpty, UnderRun, FlushFIFO, SendStall, SentStall, ClrDataTog"
unfoldable pub txcsrl_number : Txcsrl → ℕ
txcsrl_number w =
    cond w.tx_pkt_rdy 1 0 + cond w.fifo_not_empty 2 0 + cond w.under_run 4 0 + cond w.flush_fifo 8 0
    + cond w.send_stall 16 0 + cond w.sent_stall 32 0 + cond w.clr_data_tog 64 0

-- RXCSRL: "RxPktRdy, FIFOFull, OverRun, DataError, FlushFIFO, SendStall, SentStall, ClrDataTog"
unfoldable pub rxcsrl_number : Rxcsrl → ℕ
rxcsrl_number w =
    cond w.rx_pkt_rdy 1 0 + cond w.fifo_full 2 0 + cond w.over_run 4 0 + cond w.data_error 8 0
    + cond w.flush_fifo 16 0 + cond w.send_stall 32 0 + cond w.sent_stall 64 0 + cond w.clr_data_tog 128 0

-- a number by its bits, from bit 0: proofs/AsWritten.antt says of each of the three that it is its bits in document 01's order
unfoldable pub from_bits : List Bool → ℕ
from_bits [] = 0
from_bits (b ∷ bs) = cond b 1 0 + 2 * from_bits bs

unfoldable pub txcsrl_of : Side → Txcsrl
txcsrl_of s = record {
  tx_pkt_rdy = s.ready;
  fifo_not_empty = s.ready;
  under_run = s.missed;
  flush_fifo = false;
  send_stall = s.stall;
  sent_stall = s.stalled;
  clr_data_tog = false;
}

unfoldable pub rxcsrl_of : Side → Rxcsrl
rxcsrl_of s = record {
  rx_pkt_rdy = s.ready;
  fifo_full = false;
  over_run = s.missed;
  data_error = false;
  flush_fifo = false;
  send_stall = s.stall;
  sent_stall = s.stalled;
  clr_data_tog = false;
}

-- the three registers by their bits in order, from bit 0
abbrev pub csr0l_bits : Bool → Bool → Bool → Bool → Bool → Bool → Bool → Bool → Csr0l
csr0l_bits a b c d e f g h = record {
  rx_pkt_rdy = a;
  tx_pkt_rdy = b;
  sent_stall = c;
  data_end = d;
  setup_end = e;
  send_stall = f;
  serviced_rx_pkt_rdy = g;
  serviced_setup_end = h;
}

abbrev pub txcsrl_bits : Bool → Bool → Bool → Bool → Bool → Bool → Bool → Txcsrl
txcsrl_bits a b c d e f g = record {
  tx_pkt_rdy = a;
  fifo_not_empty = b;
  under_run = c;
  flush_fifo = d;
  send_stall = e;
  sent_stall = f;
  clr_data_tog = g;
}

abbrev pub rxcsrl_bits : Bool → Bool → Bool → Bool → Bool → Bool → Bool → Bool → Rxcsrl
rxcsrl_bits a b c d e f g h = record {
  rx_pkt_rdy = a;
  fifo_full = b;
  over_run = c;
  data_error = d;
  flush_fifo = e;
  send_stall = f;
  sent_stall = g;
  clr_data_tog = h;
}

-- "The source's `write` starts from all zeros"
abbrev pub zero_csr0l : Csr0l
zero_csr0l = csr0l_bits false false false false false false false false

abbrev pub zero_txcsrl : Txcsrl
zero_txcsrl = txcsrl_bits false false false false false false false

abbrev pub zero_rxcsrl : Rxcsrl
zero_rxcsrl = rxcsrl_bits false false false false false false false false

-- a store to TXCSRL. "SendStall takes the written bit. SentStall, UnderRun, .. are cleared by a written 0; a written 1 changes
-- nothing." "A written 1 sets TxPktRdy; a written 0 changes nothing." "Flush drops that side's packet and ready bit and wins over the
-- rest of the same store": over TxPktRdy and the packet; the other bits of the store act by their own rules (docs/DECISIONS.md).
unfoldable pub tx_stored : Txcsrl → Side → Side
tx_stored w s = record {
  ready = not w.flush_fifo && (s.ready || w.tx_pkt_rdy);
  missed = s.missed && w.under_run;
  stall = w.send_stall;
  stalled = s.stalled && w.sent_stall;
  iso = s.iso;
  maxp = s.maxp;
  len = unless w.flush_fifo s.len;
}

-- a store to RXCSRL. "SentStall, .. OverRun, and RxPktRdy of endpoints 1 to 5, are cleared by a written 0; a written 1 changes nothing.
-- Clearing RxPktRdy drops the packet."
abbrev pub rx_drops : Rxcsrl → Bool
rx_drops w = w.flush_fifo || not w.rx_pkt_rdy

unfoldable pub rx_stored : Rxcsrl → Side → Side
rx_stored w s = record {
  ready = s.ready && not (rx_drops w);
  missed = s.missed && w.over_run;
  stall = w.send_stall;
  stalled = s.stalled && w.sent_stall;
  iso = s.iso;
  maxp = s.maxp;
  len = unless (rx_drops w) s.len;
}

-- a store to CSR0L, on endpoint 0's transmit side: TxPktRdy, SendStall and SentStall by the same rules. CSR0L is endpoint 0's, whatever is
-- selected; the source selects 0 first.
unfoldable pub zero_tx_stored : Csr0l → Side → Side
zero_tx_stored v s = record {
  ready = s.ready || v.tx_pkt_rdy;
  missed = s.missed;
  stall = v.send_stall;
  stalled = s.stalled && v.sent_stall;
  iso = s.iso;
  maxp = s.maxp;
  len = s.len;
}

-- the packet and the ready bit of a side go, if they are to go
unfoldable pub dropped : Bool → Side → Side
dropped drop s = record {
  ready = s.ready && not drop;
  missed = s.missed;
  stall = s.stall;
  stalled = s.stalled;
  iso = s.iso;
  maxp = s.maxp;
  len = unless drop s.len;
}

-- what the source's closures set in a `modify`, a case for each that it has
unfoldable pub csr0l_set : Csr0lSet → Csr0l → Csr0l
csr0l_set csr0l.TxPktRdy w = record { rx_pkt_rdy = w.rx_pkt_rdy; tx_pkt_rdy = true; sent_stall = w.sent_stall; data_end = w.data_end; setup_end = w.setup_end; send_stall = w.send_stall; serviced_rx_pkt_rdy = w.serviced_rx_pkt_rdy; serviced_setup_end = w.serviced_setup_end }
csr0l_set csr0l.DataEnd w = record { rx_pkt_rdy = w.rx_pkt_rdy; tx_pkt_rdy = w.tx_pkt_rdy; sent_stall = w.sent_stall; data_end = true; setup_end = w.setup_end; send_stall = w.send_stall; serviced_rx_pkt_rdy = w.serviced_rx_pkt_rdy; serviced_setup_end = w.serviced_setup_end }
csr0l_set csr0l.ServicedRxPktRdy w = record { rx_pkt_rdy = w.rx_pkt_rdy; tx_pkt_rdy = w.tx_pkt_rdy; sent_stall = w.sent_stall; data_end = w.data_end; setup_end = w.setup_end; send_stall = w.send_stall; serviced_rx_pkt_rdy = true; serviced_setup_end = w.serviced_setup_end }
csr0l_set csr0l.ServicedSetupEnd w = record { rx_pkt_rdy = w.rx_pkt_rdy; tx_pkt_rdy = w.tx_pkt_rdy; sent_stall = w.sent_stall; data_end = w.data_end; setup_end = w.setup_end; send_stall = w.send_stall; serviced_rx_pkt_rdy = w.serviced_rx_pkt_rdy; serviced_setup_end = true }
csr0l_set csr0l.ServicedBoth w = record { rx_pkt_rdy = w.rx_pkt_rdy; tx_pkt_rdy = w.tx_pkt_rdy; sent_stall = w.sent_stall; data_end = w.data_end; setup_end = w.setup_end; send_stall = w.send_stall; serviced_rx_pkt_rdy = true; serviced_setup_end = true }

unfoldable pub txcsrl_set : TxcsrlSet → Txcsrl → Txcsrl
txcsrl_set txcsrl.TxPktRdy w = record { tx_pkt_rdy = true; fifo_not_empty = w.fifo_not_empty; under_run = w.under_run; flush_fifo = w.flush_fifo; send_stall = w.send_stall; sent_stall = w.sent_stall; clr_data_tog = w.clr_data_tog }
txcsrl_set txcsrl.FlushFifo w = record { tx_pkt_rdy = w.tx_pkt_rdy; fifo_not_empty = w.fifo_not_empty; under_run = w.under_run; flush_fifo = true; send_stall = w.send_stall; sent_stall = w.sent_stall; clr_data_tog = w.clr_data_tog }
txcsrl_set txcsrl.NoUnderRun w = record { tx_pkt_rdy = w.tx_pkt_rdy; fifo_not_empty = w.fifo_not_empty; under_run = false; flush_fifo = w.flush_fifo; send_stall = w.send_stall; sent_stall = w.sent_stall; clr_data_tog = w.clr_data_tog }

unfoldable pub rxcsrl_set : RxcsrlSet → Rxcsrl → Rxcsrl
rxcsrl_set rxcsrl.NoRxPktRdy w = record { rx_pkt_rdy = false; fifo_full = w.fifo_full; over_run = w.over_run; data_error = w.data_error; flush_fifo = w.flush_fifo; send_stall = w.send_stall; sent_stall = w.sent_stall; clr_data_tog = w.clr_data_tog }
rxcsrl_set rxcsrl.FlushFifo w = record { rx_pkt_rdy = w.rx_pkt_rdy; fifo_full = w.fifo_full; over_run = w.over_run; data_error = w.data_error; flush_fifo = true; send_stall = w.send_stall; sent_stall = w.sent_stall; clr_data_tog = w.clr_data_tog }
rxcsrl_set rxcsrl.NoOverRun w = record { rx_pkt_rdy = w.rx_pkt_rdy; fifo_full = w.fifo_full; over_run = false; data_error = w.data_error; flush_fifo = w.flush_fifo; send_stall = w.send_stall; sent_stall = w.sent_stall; clr_data_tog = w.clr_data_tog }
