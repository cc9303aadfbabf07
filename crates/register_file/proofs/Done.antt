-- The two stores that change both sides of endpoint 0, put together from what their calls ensure.
-- Assumes nothing.
use Prim.Native.Nat.{ℕ}
use mathlib.Core.Path.{◌≡◌}
use mathlib.Core.Bool.{true, not, ◌&&◌, cond}
use lib.Dec.{eqb}
use lib.ListN.{get_or, set}
use Rattle.board.specs.declared.Direction.TheVariants.{Out, In}
use Rattle.csr.specs.declared.Side.{Side}
use Rattle.csr.specs.declared.Csr0l.{Csr0l}
use Rattle.csr.specs.Control.{zero_tx_stored, dropped}
use Rattle.register_file.specs.Registers.{File, side_at, with_side, setupend, with_setupend}
use Rattle.register_file.specs.Control.{csr0l_stored, csr0h_flushed}

pub flush_done : (w : File) {v u : File} {a b x y : Side} → a ≡ side_at w 0 In → x ≡ dropped true a → b ≡ side_at w 0 Out → y ≡ dropped true b
    → v ≡ with_side w 0 In x → u ≡ with_side v 0 Out y → u ≡ csr0h_flushed w
unfolding csr0h_flushed
flush_done w ea ex eb ey ev eu = cc

pub zero_done : (w : File) {v u t : File} {a b x y : Side} (r : Csr0l) {n : ℕ} → a ≡ side_at w 0 In → x ≡ zero_tx_stored r a → b ≡ side_at w 0 Out
    → y ≡ dropped r.serviced_rx_pkt_rdy b → v ≡ with_side w 0 In x → u ≡ with_side v 0 Out y
    → n ≡ cond (eqb (get_or w 9 0) 1 && not r.serviced_setup_end) 1 0 → t ≡ set u 9 n → t ≡ csr0l_stored r w
unfolding csr0l_stored setupend with_setupend
zero_done w r ea ex eb ey ev eu en et = cc
