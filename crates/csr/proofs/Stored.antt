-- What a drop and a store to CSR0L leave alone of a side, and the numbers that the list has of the driver's own stores.
-- Assumes nothing.
use Prim.Native.Nat.{ℕ, ◌+◌}
use mathlib.Core.Path.{◌≡◌, refl}
use mathlib.Core.Bool.{Bool, true, false, not, cond, and-true}
use native.Mathlib.Omega.{arith}
use Rattle.csr.specs.declared.Side.{Side}
use Rattle.csr.specs.declared.Csr0l.{Csr0l}
use Rattle.csr.specs.declared.Csr0lSet.TheVariants as csr0l
use Rattle.csr.specs.declared.TxcsrlSet.TheVariants as txcsrl
use Rattle.csr.specs.Kept.{SameBits}
use Rattle.csr.specs.Control.{zero_tx_stored, dropped, csr0l_number, txcsrl_number, rxcsrl_number, csr0l_bits, txcsrl_bits, rxcsrl_bits, csr0l_set, txcsrl_of, txcsrl_set}

-- a packet goes, and nothing else
pub dropped_rest : (b : Bool) (s : Side) → SameBits s (dropped b s)
unfolding dropped
dropped_rest b s = record { missed = refl; stall = refl; stalled = refl; iso = refl; maxp = refl }

pub dropped_twice : (b c : Bool) (s : Side) → SameBits s (dropped c (dropped b s))
unfolding dropped
dropped_twice b c s = record { missed = refl; stall = refl; stalled = refl; iso = refl; maxp = refl }

pub not_dropped : (s : Side) → dropped false s ≡ s
unfolding dropped
not_dropped s = rw (and-true s.ready)

-- endpoint 0's transmit side: no store to CSR0L takes its packet
pub zero_packet_kept : (w : Csr0l) (s : Side) → (zero_tx_stored w s).len ≡ s.len
unfolding zero_tx_stored
zero_packet_kept w s = refl

-- SendStall is bit 4 of TXCSRL and bit 5 of RXCSRL, ClrDataTog bit 6 and bit 7: a `write` from zeros that sets the one or the other
pub tx_stall_number : (s : Bool) → txcsrl_number (txcsrl_bits false false false false s false (not s)) ≡ cond s 16 64
unfolding txcsrl_number
tx_stall_number true = refl
tx_stall_number false = refl

pub rx_stall_number : (s : Bool) → rxcsrl_number (rxcsrl_bits false false false false false s false (not s)) ≡ cond s 32 128
unfolding rxcsrl_number
rx_stall_number true = refl
rx_stall_number false = refl

-- SendStall is bit 5 of CSR0L, ServicedRxPktRdy bit 6
pub zero_stall_number : (s t : Bool) → csr0l_number (csr0l_bits false false false false false s t false) ≡ cond s 32 0 + cond t 64 0
unfolding csr0l_number
zero_stall_number true true = refl
zero_stall_number true false = refl
zero_stall_number false true = refl
zero_stall_number false false = refl

-- a flush by `modify`, where UnderRun, SendStall and SentStall read 0: FlushFIFO, bit 3, with TxPktRdy and FIFONotEmpty if they stand
pub tx_flush_number : (s : Side) → s.missed ≡ false → s.stall ≡ false → s.stalled ≡ false
    → txcsrl_number (txcsrl_set txcsrl.FlushFifo (txcsrl_of s)) ≡ cond s.ready 11 8
unfolding txcsrl_number txcsrl_set txcsrl_of
tx_flush_number s a b c = rw (a, b, c) (go s.ready)
  where
    go : (r : Bool) → ◌≡◌ {A = ℕ} (cond r 1 0 + cond r 2 0 + 0 + 8 + 0 + 0 + 0) (cond r 11 8)
    go true = refl
    go false = refl

-- both Serviced bits, 64 and 128, on top of what was read
pub both_serviced : (w : Csr0l) → (csr0l_set csr0l.ServicedBoth w).serviced_setup_end ≡ true
unfolding csr0l_set
both_serviced w = refl

pub both_number : (w : Csr0l) → w.serviced_rx_pkt_rdy ≡ false → w.serviced_setup_end ≡ false
    → csr0l_number (csr0l_set csr0l.ServicedBoth w) ≡ csr0l_number w + 192
unfolding csr0l_number csr0l_set
both_number w a b = rw (a, b) (omega arith)
