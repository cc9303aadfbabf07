-- What the control registers read of the sides: CSR0L and COUNT0 of endpoint 0's, the others of the selected endpoint's.
-- Assumes nothing.
use Prim.Native.Nat.{ℕ}
use mathlib.Core.Path.{◌≡◌, refl}
use mathlib.Core.Bool.{Bool, true, false, cond}
use mathlib.Core.List.{[], ◌∷◌}
use native.Mathlib.Omega.{arith}
use lib.Dec.{ltb}
use lib.Seq.{get_or-set_same}
use Rattle.laws.specs.Words.{bit}
use Rattle.board.specs.declared.Direction.{Direction}
use Rattle.board.specs.declared.Direction.TheVariants.{Out, In}
use Rattle.csr.specs.Registers.{no_side}
use Rattle.register_file.specs.Registers.{File, Whole, side_of, side_in, side_at, index, with_index, chosen, setupend}
use Rattle.register_file.specs.Control.{csr0l_read, txcsrl_read, rxcsrl_read, count0, rxcount}
use Rattle.csr.specs.Control.{txcsrl_of, rxcsrl_of}
use Rattle.register_file.proofs.Sides.{set_keeps}

module _ (r : File) where
  pub zero_tx_ready : (csr0l_read r).tx_pkt_rdy ≡ (side_at r 0 In).ready
  unfolding csr0l_read
  zero_tx_ready = refl

  pub zero_rx_ready : (csr0l_read r).rx_pkt_rdy ≡ (side_at r 0 Out).ready
  unfolding csr0l_read
  zero_rx_ready = refl

  pub zero_count : count0 r ≡ (side_at r 0 Out).len
  zero_count = refl

  pub tx_ready : (txcsrl_read r).tx_pkt_rdy ≡ (chosen r In).ready
  unfolding txcsrl_of
  tx_ready = refl

  pub rx_ready : (rxcsrl_read r).rx_pkt_rdy ≡ (chosen r Out).ready
  unfolding rxcsrl_of
  rx_ready = refl

  pub tx_missed : (txcsrl_read r).under_run ≡ (chosen r In).missed
  unfolding txcsrl_of
  tx_missed = refl

  pub rx_missed : (rxcsrl_read r).over_run ≡ (chosen r Out).missed
  unfolding rxcsrl_of
  rx_missed = refl

  pub rx_count_lem : rxcount r ≡ (chosen r Out).len
  unfolding rxcount
  rx_count_lem = refl

-- CSR0L reads endpoint 0's sides and SetupEnd, and nothing else
pub same_csr0l : (r q : File) → side_at q 0 In ≡ side_at r 0 In → side_at q 0 Out ≡ side_at r 0 Out → setupend q ≡ setupend r → csr0l_read q ≡ csr0l_read r
unfolding csr0l_read
same_csr0l r q i o s = rw (i, o, s)

-- selecting an endpoint changes no side
pub reselected : (r : File) (i e : ℕ) (d : Direction) → side_at (with_index r i) e d ≡ side_at r e d
unfolding with_index
reselected r i e d = set_keeps r 0 i e d (omega arith)

pub selected : (r : File) (i : ℕ) → Whole r → index (with_index r i) ≡ i
unfolding index with_index
selected r i k = get_or-set_same r 0 i 0 (omega arith)

-- so the selected side is that of the endpoint; a list with no number at all has nothing at any side, so that this asks no length
pub chosen_selected : (w : File) (e : ℕ) (d : Direction) → chosen (with_index w e) d ≡ side_at w e d
unfolding index with_index side_at side_in side_of bit
chosen_selected (x ∷ w) e d = reselected (x ∷ w) e e d
chosen_selected [] e d = go (ltb e 6)
  where
    go : (b : Bool) → no_side ≡ cond b no_side no_side
    go true = refl
    go false = refl
