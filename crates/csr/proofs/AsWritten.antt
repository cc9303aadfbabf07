-- Document 01's sentences about the control registers of one side, each as a law over the definitions. The sentence stands above its laws.
-- Assumes nothing.
use Prim.Native.Nat.{ℕ, ◌*◌}
use mathlib.Core.Path.{◌≡◌, refl}
use mathlib.Core.Bool.{Bool, true, false, cond, and-false, and-true, or-false, or-true}
use mathlib.Core.List.{[], ◌∷◌}
use native.Mathlib.Omega.{arith}
use Rattle.csr.specs.declared.Side.{Side}
use Rattle.csr.specs.declared.Csr0l.{Csr0l}
use Rattle.csr.specs.declared.Txcsrl.{Txcsrl}
use Rattle.csr.specs.declared.Rxcsrl.{Rxcsrl}
use Rattle.csr.specs.Control.{csr0l_number, txcsrl_number, rxcsrl_number, from_bits, tx_stored, rx_stored, zero_tx_stored, dropped, txcsrl_of, rxcsrl_of}

-- "Bits follow the public MUSB layout .. from bit 0"
weighs : (b : Bool) (n : ℕ) → cond b n 0 ≡ n * cond b 1 0
weighs true n = omega arith
weighs false n = omega arith

pub csr0l_places : (w : Csr0l)
    → csr0l_number w
    ≡ from_bits (w.rx_pkt_rdy ∷ w.tx_pkt_rdy ∷ w.sent_stall ∷ w.data_end
    ∷ w.setup_end ∷ w.send_stall ∷ w.serviced_rx_pkt_rdy ∷ w.serviced_setup_end ∷ [])
unfolding csr0l_number from_bits
csr0l_places w =
    omega (
      arith,
      weighs w.tx_pkt_rdy 2,
      weighs w.sent_stall 4,
      weighs w.data_end 8,
      weighs w.setup_end 16,
      weighs w.send_stall 32,
      weighs w.serviced_rx_pkt_rdy 64,
      weighs w.serviced_setup_end 128,
    )

pub txcsrl_places : (w : Txcsrl)
    → txcsrl_number w
    ≡ from_bits (w.tx_pkt_rdy ∷ w.fifo_not_empty ∷ w.under_run ∷ w.flush_fifo
    ∷ w.send_stall ∷ w.sent_stall ∷ w.clr_data_tog ∷ [])
unfolding txcsrl_number from_bits
txcsrl_places w =
    omega (
      arith,
      weighs w.fifo_not_empty 2,
      weighs w.under_run 4,
      weighs w.flush_fifo 8,
      weighs w.send_stall 16,
      weighs w.sent_stall 32,
      weighs w.clr_data_tog 64,
    )

pub rxcsrl_places : (w : Rxcsrl)
    → rxcsrl_number w
    ≡ from_bits (w.rx_pkt_rdy ∷ w.fifo_full ∷ w.over_run ∷ w.data_error
    ∷ w.flush_fifo ∷ w.send_stall ∷ w.sent_stall ∷ w.clr_data_tog ∷ [])
unfolding rxcsrl_number from_bits
rxcsrl_places w =
    omega (
      arith,
      weighs w.fifo_full 2,
      weighs w.over_run 4,
      weighs w.data_error 8,
      weighs w.flush_fifo 16,
      weighs w.send_stall 32,
      weighs w.sent_stall 64,
      weighs w.clr_data_tog 128,
    )

-- "SendStall takes the written bit."
pub tx_stall : (w : Txcsrl) (s : Side) → (tx_stored w s).stall ≡ w.send_stall
unfolding tx_stored
tx_stall w s = refl

pub rx_stall : (w : Rxcsrl) (s : Side) → (rx_stored w s).stall ≡ w.send_stall
unfolding rx_stored
rx_stall w s = refl

pub zero_stall : (w : Csr0l) (s : Side) → (zero_tx_stored w s).stall ≡ w.send_stall
unfolding zero_tx_stored
zero_stall w s = refl

-- "SentStall, UnderRun, OverRun, and RxPktRdy of endpoints 1 to 5, are cleared by a written 0; a written 1 changes nothing."
module _ (w : Txcsrl) (s : Side) where
  pub sent_cleared : w.sent_stall ≡ false → (tx_stored w s).stalled ≡ false
  unfolding tx_stored
  sent_cleared e = rw e (and-false s.stalled)

  pub sent_kept : w.sent_stall ≡ true → (tx_stored w s).stalled ≡ s.stalled
  unfolding tx_stored
  sent_kept e = rw e (and-true s.stalled)

  pub underrun_cleared : w.under_run ≡ false → (tx_stored w s).missed ≡ false
  unfolding tx_stored
  underrun_cleared e = rw e (and-false s.missed)

  pub underrun_kept : w.under_run ≡ true → (tx_stored w s).missed ≡ s.missed
  unfolding tx_stored
  underrun_kept e = rw e (and-true s.missed)

  -- "A written 1 sets TxPktRdy; a written 0 changes nothing."
  pub ready_set : w.flush_fifo ≡ false → w.tx_pkt_rdy ≡ true → (tx_stored w s).ready ≡ true
  unfolding tx_stored
  ready_set f e = rw (f, e) (or-true s.ready)

  pub ready_kept : w.flush_fifo ≡ false → w.tx_pkt_rdy ≡ false → (tx_stored w s).ready ≡ s.ready
  unfolding tx_stored
  ready_kept f e = rw (f, e) (or-false s.ready)

  pub packet_kept : w.flush_fifo ≡ false → (tx_stored w s).len ≡ s.len
  unfolding tx_stored
  packet_kept f = rw f

  -- "Flush drops that side's packet and ready bit and wins over the rest of the same store"
  pub flushed : w.flush_fifo ≡ true → ((tx_stored w s).ready ≡ false) × ((tx_stored w s).len ≡ 0)
  unfolding tx_stored
  flushed f = (rw f, rw f)

  -- and what is no bit of TXCSRL stays
  pub tx_rest : ((tx_stored w s).iso ≡ s.iso) × ((tx_stored w s).maxp ≡ s.maxp)
  unfolding tx_stored
  tx_rest = (refl, refl)

module _ (w : Rxcsrl) (s : Side) where
  pub rx_sent_cleared : w.sent_stall ≡ false → (rx_stored w s).stalled ≡ false
  unfolding rx_stored
  rx_sent_cleared e = rw e (and-false s.stalled)

  pub rx_sent_kept : w.sent_stall ≡ true → (rx_stored w s).stalled ≡ s.stalled
  unfolding rx_stored
  rx_sent_kept e = rw e (and-true s.stalled)

  pub overrun_cleared : w.over_run ≡ false → (rx_stored w s).missed ≡ false
  unfolding rx_stored
  overrun_cleared e = rw e (and-false s.missed)

  pub overrun_kept : w.over_run ≡ true → (rx_stored w s).missed ≡ s.missed
  unfolding rx_stored
  overrun_kept e = rw e (and-true s.missed)

  -- "Clearing RxPktRdy drops the packet. A drop makes its length 0 and leaves the bytes": no store to a control register has the bytes
  pub rx_cleared : w.rx_pkt_rdy ≡ false → ((rx_stored w s).ready ≡ false) × ((rx_stored w s).len ≡ 0)
  unfolding rx_stored
  rx_cleared e = (rw (e, or-true w.flush_fifo, and-false s.ready), rw (e, or-true w.flush_fifo))

  pub rx_kept : w.flush_fifo ≡ false → w.rx_pkt_rdy ≡ true → ((rx_stored w s).ready ≡ s.ready) × ((rx_stored w s).len ≡ s.len)
  unfolding rx_stored
  rx_kept f e = (rw (f, e, and-true s.ready), rw (f, e))

  pub rx_flushed : w.flush_fifo ≡ true → ((rx_stored w s).ready ≡ false) × ((rx_stored w s).len ≡ 0)
  unfolding rx_stored
  rx_flushed f = (rw (f, and-false s.ready), rw f)

  pub rx_rest : ((rx_stored w s).iso ≡ s.iso) × ((rx_stored w s).maxp ≡ s.maxp)
  unfolding rx_stored
  rx_rest = (refl, refl)

-- the same sentences of CSR0L, on endpoint 0's transmit side
module _ (w : Csr0l) (s : Side) where
  pub zero_sent_cleared : w.sent_stall ≡ false → (zero_tx_stored w s).stalled ≡ false
  unfolding zero_tx_stored
  zero_sent_cleared e = rw e (and-false s.stalled)

  pub zero_sent_kept : w.sent_stall ≡ true → (zero_tx_stored w s).stalled ≡ s.stalled
  unfolding zero_tx_stored
  zero_sent_kept e = rw e (and-true s.stalled)

  pub zero_ready_set : w.tx_pkt_rdy ≡ true → (zero_tx_stored w s).ready ≡ true
  unfolding zero_tx_stored
  zero_ready_set e = rw e (or-true s.ready)

  pub zero_ready_kept : w.tx_pkt_rdy ≡ false → (zero_tx_stored w s).ready ≡ s.ready
  unfolding zero_tx_stored
  zero_ready_kept e = rw e (or-false s.ready)

  -- what is no bit of CSR0L stays, and so does the packet
  pub zero_rest :
      ((zero_tx_stored w s).len ≡ s.len) × ((zero_tx_stored w s).missed ≡ s.missed)
      × ((zero_tx_stored w s).iso ≡ s.iso) × ((zero_tx_stored w s).maxp ≡ s.maxp)
  unfolding zero_tx_stored
  zero_rest = (refl, refl, refl, refl)

pub drops : (s : Side) → ((dropped true s).ready ≡ false) × ((dropped true s).len ≡ 0)
unfolding dropped
drops s = (and-false s.ready, refl)

-- "FIFONotEmpty reads as TxPktRdy. FIFOFull and DataError read 0." "DataEnd, Serviced, Flush and ClrDataTog read 0."
pub not_empty_lem : (s : Side) → (txcsrl_of s).fifo_not_empty ≡ (txcsrl_of s).tx_pkt_rdy
unfolding txcsrl_of
not_empty_lem s = refl

pub tx_read_zero : (s : Side) → ((txcsrl_of s).flush_fifo ≡ false) × ((txcsrl_of s).clr_data_tog ≡ false)
unfolding txcsrl_of
tx_read_zero s = (refl, refl)

pub rx_read_zero : (s : Side)
    → ((rxcsrl_of s).fifo_full ≡ false) × ((rxcsrl_of s).data_error ≡ false) × ((rxcsrl_of s).flush_fifo ≡ false) × ((rxcsrl_of s).clr_data_tog ≡ false)
unfolding rxcsrl_of
rx_read_zero s = (refl, refl, refl, refl)
