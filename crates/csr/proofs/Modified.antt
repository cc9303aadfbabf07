-- What each `modify` of TXCSRL and RXCSRL of the source does to its side.
-- Assumes nothing.
use Prim.Native.Nat.{ℕ}
use mathlib.Core.Path.{◌≡◌, refl}
use mathlib.Core.Bool.{Bool, true, false, not, ◌&&◌, and-false, or-true, and_self, or_self}
use Rattle.csr.specs.declared.Side.{Side}
use Rattle.csr.specs.declared.TxcsrlSet.{TxcsrlSet}
use Rattle.csr.specs.declared.TxcsrlSet.TheVariants as txcsrl
use Rattle.csr.specs.declared.RxcsrlSet.{RxcsrlSet}
use Rattle.csr.specs.declared.RxcsrlSet.TheVariants as rxcsrl
use Rattle.csr.specs.Control.{unless, dropped, txcsrl_of, txcsrl_set, tx_stored, rxcsrl_of, rxcsrl_set, rx_stored}
use Rattle.csr.specs.Sound.{SideOk}

-- a side with its ready bit set, without its UnderRun or OverRun
abbrev pub readied : Side → Side
readied s = record { ready = true; missed = s.missed; stall = s.stall; stalled = s.stalled; iso = s.iso; maxp = s.maxp; len = s.len }

abbrev pub repaired : Side → Side
repaired s = record { ready = s.ready; missed = false; stall = s.stall; stalled = s.stalled; iso = s.iso; maxp = s.maxp; len = s.len }

pub tx_readied : (s : Side) → tx_stored (txcsrl_set txcsrl.TxPktRdy (txcsrl_of s)) s ≡ readied s
unfolding tx_stored txcsrl_set txcsrl_of
tx_readied s = rw (or-true s.ready, and_self s.missed, and_self s.stalled)

pub tx_flushed : (s : Side) → tx_stored (txcsrl_set txcsrl.FlushFifo (txcsrl_of s)) s ≡ dropped true s
unfolding tx_stored txcsrl_set txcsrl_of dropped
tx_flushed s = rw (and_self s.missed, and_self s.stalled, and-false s.ready)

pub tx_repaired : (s : Side) → tx_stored (txcsrl_set txcsrl.NoUnderRun (txcsrl_of s)) s ≡ repaired s
unfolding tx_stored txcsrl_set txcsrl_of
tx_repaired s = rw (or_self s.ready, and-false s.missed, and_self s.stalled)

pub rx_read : (s : Side) → rx_stored (rxcsrl_set rxcsrl.NoRxPktRdy (rxcsrl_of s)) s ≡ dropped true s
unfolding rx_stored rxcsrl_set rxcsrl_of dropped
rx_read s = rw (and_self s.missed, and_self s.stalled)

pub rx_flush : (s : Side) → rx_stored (rxcsrl_set rxcsrl.FlushFifo (rxcsrl_of s)) s ≡ dropped true s
unfolding rx_stored rxcsrl_set rxcsrl_of dropped
rx_flush s = rw (and_self s.missed, and_self s.stalled)

-- a packet that waits stays; where none waits the length is 0 already
ready_stays : (b : Bool) → (b && not (not b)) ≡ b
ready_stays true = refl
ready_stays false = refl

length_stays : (b : Bool) (n : ℕ) → (b ≡ false → n ≡ 0) → unless (not b) n ≡ n
length_stays true n h = refl
length_stays false n h = rw (h refl)

pub rx_repaired : (size : ℕ) (s : Side) → SideOk size s → rx_stored (rxcsrl_set rxcsrl.NoOverRun (rxcsrl_of s)) s ≡ repaired s
unfolding rx_stored rxcsrl_set rxcsrl_of
rx_repaired size s ok = rw (ready_stays s.ready, and-false s.missed, and_self s.stalled, length_stays s.ready s.len ok.none)

-- a `modify` writes the SendStall that it read
pub txcsrl_stall : (s : TxcsrlSet) (x : Side) → (txcsrl_set s (txcsrl_of x)).send_stall ≡ x.stall
unfolding txcsrl_set txcsrl_of
txcsrl_stall txcsrl.TxPktRdy x = refl
txcsrl_stall txcsrl.FlushFifo x = refl
txcsrl_stall txcsrl.NoUnderRun x = refl

pub rxcsrl_stall : (s : RxcsrlSet) (x : Side) → (rxcsrl_set s (rxcsrl_of x)).send_stall ≡ x.stall
unfolding rxcsrl_set rxcsrl_of
rxcsrl_stall rxcsrl.NoRxPktRdy x = refl
rxcsrl_stall rxcsrl.FlushFifo x = refl
rxcsrl_stall rxcsrl.NoOverRun x = refl
