-- What the source reads of an endpoint once it has selected it is that endpoint's ready bit and count.
-- Assumes nothing.
use Prim.Native.Nat.{ℕ}
use mathlib.Core.Path.{◌≡◌, ap, ◌∙◌}
use native.Mathlib.Decide.{ℕ_discrete}
use mathlib.Core.Bool.{cond}
use lib.Dec.{eqb}
use borrow.Author.Tests.{eq-eqb, ne_eqb}
use Rattle.board.specs.declared.Direction.TheVariants.{Out, In}
use Rattle.csr.specs.declared.Side.{Side}
use Rattle.register_file.specs.Registers.{File, side_at, with_index}
use Rattle.register_file.specs.Control.{csr0l_read, txcsrl_read, rxcsrl_read, count0, rxcount}
use Rattle.register_file.proofs.Readings as regs
use Rattle.transfer_rules.specs.Peek.{has_tx_pkt_rdy, has_rx_pkt_rdy, rx_count}

module _ (r : File) (e : ℕ) where
  -- `if index == 0 { regs.csr0l() } else { regs.txcsrl() }.read().tx_pkt_rdy()`
  pub tx_ready : cond (eqb e 0) (csr0l_read (with_index r e)).tx_pkt_rdy (txcsrl_read (with_index r e)).tx_pkt_rdy ≡ has_tx_pkt_rdy e r
  tx_ready = go (ℕ_discrete e 0)
    where
      go : Dec (e ≡ 0) → cond (eqb e 0) (csr0l_read (with_index r e)).tx_pkt_rdy (txcsrl_read (with_index r e)).tx_pkt_rdy ≡ (side_at r e In).ready
      go (yes p) = rw (eq-eqb e 0 p) (regs.zero_tx_ready (with_index r e) ∙ rw p (ap (λ (s : Side). s.ready) (regs.reselected r 0 0 In)))
      go (no n) = rw (ne_eqb e 0 n) (regs.tx_ready (with_index r e) ∙ ap (λ (s : Side). s.ready) (regs.chosen_selected r e In))

  pub rx_ready : cond (eqb e 0) (csr0l_read (with_index r e)).rx_pkt_rdy (rxcsrl_read (with_index r e)).rx_pkt_rdy ≡ has_rx_pkt_rdy e r
  rx_ready = go (ℕ_discrete e 0)
    where
      go : Dec (e ≡ 0) → cond (eqb e 0) (csr0l_read (with_index r e)).rx_pkt_rdy (rxcsrl_read (with_index r e)).rx_pkt_rdy ≡ (side_at r e Out).ready
      go (yes p) = rw (eq-eqb e 0 p) (regs.zero_rx_ready (with_index r e) ∙ rw p (ap (λ (s : Side). s.ready) (regs.reselected r 0 0 Out)))
      go (no n) = rw (ne_eqb e 0 n) (regs.rx_ready (with_index r e) ∙ ap (λ (s : Side). s.ready) (regs.chosen_selected r e Out))

  -- `if index == 0 { regs.count0() } else { regs.rxcount() }.read().count()`
  pub waiting : cond (eqb e 0) (count0 (with_index r e)) (rxcount (with_index r e)) ≡ rx_count e r
  waiting = go (ℕ_discrete e 0)
    where
      go : Dec (e ≡ 0) → cond (eqb e 0) (count0 (with_index r e)) (rxcount (with_index r e)) ≡ (side_at r e Out).len
      go (yes p) = rw (eq-eqb e 0 p) (regs.zero_count (with_index r e) ∙ rw p (ap (λ (s : Side). s.len) (regs.reselected r 0 0 Out)))
      go (no n) = rw (ne_eqb e 0 n) (regs.rx_count_lem (with_index r e) ∙ ap (λ (s : Side). s.len) (regs.chosen_selected r e Out))
