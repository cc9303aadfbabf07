-- Document 01's sentences about CSR0L, CSR0H and the counts, each as a law over the definitions. The sentence stands above its laws.
-- Assumes nothing.
use Prim.Native.Nat.{ℕ, ◌<◌}
use mathlib.Core.Path.{◌≡◌, refl, ap, ◌∙◌}
use mathlib.Core.Bool.{Bool, true, false, not, ◌&&◌, cond, and-false, and-true}
use mathlib.Core.List.{List}
use native.Mathlib.Omega.{arith}
use lib.Dec.{eqb}
use lib.ListN.{length, get_or, length-set}
use lib.Seq.{get_or-set_same, get_or-set_other}
use Rattle.board.specs.declared.Direction.{Direction}
use Rattle.board.specs.declared.Direction.TheVariants.{Out, In}
use Rattle.csr.specs.declared.Csr0l.{Csr0l}
use Rattle.register_file.specs.Registers.{File, Whole, side_at, with_side, index, setupend, with_setupend}
use Rattle.csr.specs.Control.{zero_tx_stored, dropped, rxcsrl_of}
use Rattle.register_file.specs.Control.{csr0l_stored, csr0h_flushed, csr0l_read, rxcsrl_read, count0, rxcount}
use Rattle.register_file.specs.Sound.{Sound}
use Rattle.register_file.proofs.Sides.{side_same, side_other, side_flip, set_keeps, keeps, keeps_length}
use Rattle.csr.proofs.Sides.{in_out}
use Rattle.register_file.proofs.Words.{is_one}

pub setupend_keeps : (q : File) (b : Bool) (e : ℕ) (d : Direction) → side_at (with_setupend q b) e d ≡ side_at q e d
unfolding with_setupend
setupend_keeps q b e d = set_keeps q 9 (cond b 1 0) e d (omega arith)

setupend_is : (q : File) (b : Bool) → Whole q → setupend (with_setupend q b) ≡ b
unfolding setupend with_setupend
setupend_is q b k = ap (λ (n : ℕ). eqb n 1) (get_or-set_same q 9 (cond b 1 0) 0 (omega arith)) ∙ is_one b

-- what a store to CSR0L and a flush by CSR0H leave on endpoint 0's two sides
module _ (w : Csr0l) (r : File) (six : Whole r) where
  pub zero_in : side_at (csr0l_stored w r) 0 In ≡ zero_tx_stored w (side_at r 0 In)
  unfolding csr0l_stored
  zero_in = setupend_keeps _ _ 0 In ∙ side_flip (with_side r 0 In (zero_tx_stored w (side_at r 0 In))) 0 Out _ In in_out ∙ side_same r 0 In _ six (omega arith)

  pub zero_out : side_at (csr0l_stored w r) 0 Out ≡ dropped w.serviced_rx_pkt_rdy (side_at r 0 Out)
  unfolding csr0l_stored
  zero_out =
      setupend_keeps _ _ 0 Out
      ∙ side_same (with_side r 0 In (zero_tx_stored w (side_at r 0 In))) 0 Out _ (keeps_length r 0 In _ ∙ six) (omega arith)

  -- "RxPktRdy and SetupEnd of endpoint 0 are cleared only by their Serviced bits or a flush (RxPktRdy)."
  pub zero_serviced : w.serviced_rx_pkt_rdy ≡ true → ((side_at (csr0l_stored w r) 0 Out).ready ≡ false) × ((side_at (csr0l_stored w r) 0 Out).len ≡ 0)
  unfolding dropped
  zero_serviced e = (rw (zero_out, e) (and-false (side_at r 0 Out).ready), rw (zero_out, e))

  pub zero_waits_lem : w.serviced_rx_pkt_rdy ≡ false → side_at (csr0l_stored w r) 0 Out ≡ side_at r 0 Out
  unfolding dropped
  zero_waits_lem e = rw (zero_out, e, and-true (side_at r 0 Out).ready)

  both : Whole (with_side (with_side r 0 In (zero_tx_stored w (side_at r 0 In))) 0 Out (dropped w.serviced_rx_pkt_rdy (side_at r 0 Out)))
  both = keeps_length _ 0 Out _ ∙ keeps_length r 0 In _ ∙ six

  pub setup_ends : setupend (csr0l_stored w r) ≡ (setupend r && not w.serviced_setup_end)
  unfolding csr0l_stored
  setup_ends = setupend_is _ _ both

  pub setup_serviced : w.serviced_setup_end ≡ true → setupend (csr0l_stored w r) ≡ false
  setup_serviced e = setup_ends ∙ rw e (and-false (setupend r))

  pub setup_kept : w.serviced_setup_end ≡ false → setupend (csr0l_stored w r) ≡ setupend r
  setup_kept e = setup_ends ∙ rw e (and-true (setupend r))

-- the rest of the file, and how long it is
pub zero_keeps : (w : Csr0l) (r : File) (q : ℕ) → q < 9 → get_or (csr0l_stored w r) q 0 ≡ get_or r q 0
unfolding csr0l_stored with_setupend
zero_keeps w r q h =
    get_or-set_other (with_side (with_side r 0 In (zero_tx_stored w (side_at r 0 In))) 0 Out (dropped w.serviced_rx_pkt_rdy (side_at r 0 Out))) 9 q (cond (setupend r && not w.serviced_setup_end) 1 0) 0 (λ e. omega arith)
    ∙ keeps (with_side r 0 In (zero_tx_stored w (side_at r 0 In))) 0 Out (dropped w.serviced_rx_pkt_rdy (side_at r 0 Out)) q (omega arith) ∙ keeps r 0 In (zero_tx_stored w (side_at r 0 In)) q (omega arith)

pub zero_length : (w : Csr0l) (r : File) → length (csr0l_stored w r) ≡ length r
unfolding csr0l_stored with_setupend
zero_length w r =
    length-set (with_side (with_side r 0 In (zero_tx_stored w (side_at r 0 In))) 0 Out (dropped w.serviced_rx_pkt_rdy (side_at r 0 Out))) 9 (cond (setupend r && not w.serviced_setup_end) 1 0)
    ∙ keeps_length (with_side r 0 In (zero_tx_stored w (side_at r 0 In))) 0 Out (dropped w.serviced_rx_pkt_rdy (side_at r 0 Out)) ∙ keeps_length r 0 In (zero_tx_stored w (side_at r 0 In))

pub flush_keeps : (r : File) (q : ℕ) → q < 10 → get_or (csr0h_flushed r) q 0 ≡ get_or r q 0
unfolding csr0h_flushed
flush_keeps r q h = keeps (with_side r 0 In (dropped true (side_at r 0 In))) 0 Out (dropped true (side_at r 0 Out)) q h ∙ keeps r 0 In (dropped true (side_at r 0 In)) q h

pub flush_length : (r : File) → length (csr0h_flushed r) ≡ length r
unfolding csr0h_flushed
flush_length r = keeps_length (with_side r 0 In (dropped true (side_at r 0 In))) 0 Out (dropped true (side_at r 0 Out)) ∙ keeps_length r 0 In (dropped true (side_at r 0 In))

-- no other endpoint is touched
pub zero_other : (w : Csr0l) (r : File) (e : ℕ) (d : Direction) → (e ≡ 0 → ⊥) → side_at (csr0l_stored w r) e d ≡ side_at r e d
unfolding csr0l_stored
zero_other w r e d n =
    setupend_keeps _ _ e d ∙ side_other (with_side r 0 In (zero_tx_stored w (side_at r 0 In))) 0 Out _ e d n ∙ side_other r 0 In _ e d n

pub flush_other : (r : File) (e : ℕ) (d : Direction) → (e ≡ 0 → ⊥) → side_at (csr0h_flushed r) e d ≡ side_at r e d
unfolding csr0h_flushed
flush_other r e d n = side_other (with_side r 0 In (dropped true (side_at r 0 In))) 0 Out _ e d n ∙ side_other r 0 In _ e d n

-- "CSR0H's flush does both sides."
pub flush_in : (r : File) → Whole r → side_at (csr0h_flushed r) 0 In ≡ dropped true (side_at r 0 In)
unfolding csr0h_flushed
flush_in r six = side_flip (with_side r 0 In (dropped true (side_at r 0 In))) 0 Out _ In in_out ∙ side_same r 0 In _ six (omega arith)

pub flush_out : (r : File) → Whole r → side_at (csr0h_flushed r) 0 Out ≡ dropped true (side_at r 0 Out)
unfolding csr0h_flushed
flush_out r six =
    side_same (with_side r 0 In (dropped true (side_at r 0 In))) 0 Out _ (keeps_length r 0 In _ ∙ six) (omega arith)

-- "DataEnd, Serviced, .. read 0." The other five bits of CSR0L read as they stand.
pub zero_read_zero : (r : File)
    → ((csr0l_read r).data_end ≡ false) × ((csr0l_read r).serviced_rx_pkt_rdy ≡ false) × ((csr0l_read r).serviced_setup_end ≡ false)
unfolding csr0l_read
zero_read_zero r = (refl, refl, refl)

pub zero_reads : (r : File)
    → ((csr0l_read r).rx_pkt_rdy ≡ (side_at r 0 Out).ready) × ((csr0l_read r).tx_pkt_rdy ≡ (side_at r 0 In).ready) × ((csr0l_read r).sent_stall ≡ (side_at r 0 In).stalled)
    × ((csr0l_read r).setup_end ≡ setupend r) × ((csr0l_read r).send_stall ≡ (side_at r 0 In).stall)
unfolding csr0l_read
zero_reads r = (refl, refl, refl, refl, refl)

-- "Counts are the waiting packet's length, 0 if none.", of a file that passes reply 16's test
pub count0_none : (sizes : List ℕ) (n : ℕ) (r : File) → Sound sizes n r → (csr0l_read r).rx_pkt_rdy ≡ false → count0 r ≡ 0
unfolding csr0l_read
count0_none sizes n r k e = (k.side 0 Out).none e

pub rxcount_none : (sizes : List ℕ) (n : ℕ) (r : File) → Sound sizes n r → (rxcsrl_read r).rx_pkt_rdy ≡ false → rxcount r ≡ 0
unfolding rxcsrl_of rxcount
rxcount_none sizes n r k e = (k.side (index r) Out).none e
