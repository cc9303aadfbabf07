-- A change of a side that makes no waiting length longer, and leaves none where the ready bit is clear: what reply 16 asks of a side then
-- stays.
-- Assumes nothing.
use Prim.Native.Nat.{ℕ, ◌≤◌}
use mathlib.Core.Path.{◌≡◌, refl, sym, ◌∙◌}
use mathlib.Core.Bool.{Bool, true, false, cond, and-true}
use native.Mathlib.Omega.{arith}
use native.Mathlib.Nat.{le_trans}
use Rattle.laws.proofs.Tests.{clash, neither}
use Rattle.board.specs.declared.Direction.{Direction}
use Rattle.board.specs.declared.Direction.TheVariants.{Out, In}
use Rattle.csr.specs.declared.Side.{Side}
use Rattle.csr.specs.declared.Csr0l.{Csr0l}
use Rattle.csr.specs.declared.Txcsrl.{Txcsrl}
use Rattle.csr.specs.declared.Rxcsrl.{Rxcsrl}
use Rattle.csr.specs.Registers.{towards}
use Rattle.csr.specs.Control.{tx_stored, rx_stored, zero_tx_stored, dropped}
use Rattle.csr.specs.Sound.{SideOk}
use Rattle.csr.proofs.AsWritten.{ready_set, ready_kept, packet_kept, flushed, rx_cleared, rx_kept, rx_flushed}

pub record Tame (s t : Side) : Type 0 where
  pub shorter : t.len ≤ s.len
  pub none : (s.ready ≡ false → s.len ≡ 0) → t.ready ≡ false → t.len ≡ 0

pub stays_ok : {s t : Side} (n : ℕ) → Tame s t → SideOk n s → SideOk n t
stays_ok n t ok = record { fits = le_trans t.shorter ok.fits; none = t.none ok.none }

-- the ready bit and the length stay, or both go
pub alike : {s t : Side} → t.ready ≡ s.ready → t.len ≡ s.len → Tame s t
alike p q = record { shorter = omega arith; none = λ old e. q ∙ old (sym p ∙ e) }

pub gone : {s t : Side} → t.len ≡ 0 → Tame s t
gone q = record { shorter = omega arith; none = λ old e. q }

pub same : {s : Side} → Tame s s
same = alike refl refl

pub either : {s t : Side} (b : Bool) → Tame s t → Tame s (cond b t s)
either true t = t
either false t = same

pub spared : {s t : Side} (b : Bool) → Tame s t → Tame s (cond b s t)
spared true t = same
spared false t = t

pub one_way : {s : Side} (c d : Direction) (f : Side → Side) → Tame s (f s) → Tame s (towards c d f s)
one_way Out Out f t = t
one_way Out In f t = same
one_way In Out f t = same
one_way In In f t = t

-- a store to TXCSRL, whatever is written
pub tx_tame : (w : Txcsrl) (s : Side) → Tame s (tx_stored w s)
tx_tame w s = go w.flush_fifo w.tx_pkt_rdy refl refl
  where
    go : (f r : Bool) → w.flush_fifo ≡ f → w.tx_pkt_rdy ≡ r → Tame s (tx_stored w s)
    go true r p q = gone (flushed w s p).1
    go false false p q = alike (ready_kept w s p q) (packet_kept w s p)
    go false true p q = record { shorter = omega (arith, packet_kept w s p); none = λ old e. clash (sym (ready_set w s p q) ∙ e) }

-- to RXCSRL
pub rx_tame : (w : Rxcsrl) (s : Side) → Tame s (rx_stored w s)
rx_tame w s = go w.flush_fifo w.rx_pkt_rdy refl refl
  where
    go : (f r : Bool) → w.flush_fifo ≡ f → w.rx_pkt_rdy ≡ r → Tame s (rx_stored w s)
    go true r p q = gone (rx_flushed w s p).1
    go false false p q = gone (rx_cleared w s q).1
    go false true p q = let k = rx_kept w s p q in alike k.0 k.1

-- to CSR0L, on endpoint 0's two sides
pub zero_tame : (w : Csr0l) (s : Side) → Tame s (zero_tx_stored w s)
unfolding zero_tx_stored
zero_tame w s = record { shorter = omega arith; none = λ old e. old (neither s.ready w.tx_pkt_rdy e).0 }

pub dropped_tame : (b : Bool) (s : Side) → Tame s (dropped b s)
unfolding dropped
dropped_tame true s = gone refl
dropped_tame false s = alike (and-true s.ready) refl
