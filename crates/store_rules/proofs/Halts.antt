-- SendStall of endpoints 1 to 5: only a store to TXCSRL or RXCSRL with another SendStall bit changes it, and no `modify` of the source does.
-- Assumes nothing.
use Prim.Native.Nat.{ℕ, ◌<◌}
use mathlib.Core.Path.{◌≡◌, refl, ap, ◌∙◌}
use mathlib.Core.Bool.{Bool, true, false, cond}
use native.Mathlib.Decide.{ℕ_discrete}
use borrow.Author.Tests.{eq-eqb, ne_eqb}
use lib.Dec.{eqb}
use Rattle.board.specs.declared.Direction.{Direction}
use Rattle.board.specs.declared.Direction.TheVariants.{Out, In}
use Rattle.csr.specs.declared.Side.{Side}
use Rattle.csr.specs.declared.TxcsrlSet.{TxcsrlSet}
use Rattle.csr.specs.declared.RxcsrlSet.{RxcsrlSet}
use Rattle.register_file.specs.Registers as file
use Rattle.register_file.specs.Registers.{File, Whole, side_at, chosen}
use Rattle.csr.specs.Registers.{towards, with_iso, with_maxp, with_len}
use Rattle.csr.specs.Control.{tx_stored, rx_stored, txcsrl_set, rxcsrl_set}
use Rattle.register_file.specs.Control.{txcsrl_read, rxcsrl_read}
use Rattle.csr.proofs.Modified.{txcsrl_stall, rxcsrl_stall}
use Rattle.csr.proofs.AsWritten.{tx_stall, rx_stall}
use Rattle.store_rules.specs.Stores.{Log}
use Rattle.store_rules.specs.Promise.{Store, faddr, power, index, csr0l, csr0h, txcsrl, rxcsrl, iso, maxp, intrusbe, intre, packet, does, leaves, SameHalts}
use Rattle.store_rules.proofs.Promises.{sides}

-- the written SendStall bit is the one that stands there
abbrev pub SameStall : Store → File → Type 0
SameStall (txcsrl w) r = w.send_stall ≡ (chosen r In).stall
SameStall (rxcsrl w) r = w.send_stall ≡ (chosen r Out).stall
SameStall (faddr a) r = Unit
SameStall power r = Unit
SameStall (index e) r = Unit
SameStall (csr0l w) r = Unit
SameStall csr0h r = Unit
SameStall (iso d) r = Unit
SameStall (maxp d n) r = Unit
SameStall intrusbe r = Unit
SameStall (intre d v) r = Unit
SameStall (packet n) r = Unit

-- a change of the selected side that keeps SendStall keeps it at every side
kept : (c : Direction) (f : Side → Side) (r : File) (e : ℕ) (d : Direction) → ((f (chosen r c)).stall ≡ (chosen r c).stall)
    → (cond (eqb e (file.index r)) (towards c d f (side_at r e d)) (side_at r e d)).stall ≡ (side_at r e d).stall
kept c f r e d same = go c d same (ℕ_discrete e (file.index r))
  where
    go : (c d : Direction) → ((f (chosen r c)).stall ≡ (chosen r c).stall) → Dec (e ≡ file.index r)
        → (cond (eqb e (file.index r)) (towards c d f (side_at r e d)) (side_at r e d)).stall ≡ (side_at r e d).stall
    go c d s (no n) = rw (ne_eqb e (file.index r) n)
    go Out Out s (yes p) = rw (eq-eqb e (file.index r) p) (rw p s)
    go Out In s (yes p) = rw (eq-eqb e (file.index r) p)
    go In Out s (yes p) = rw (eq-eqb e (file.index r) p)
    go In In s (yes p) = rw (eq-eqb e (file.index r) p) (rw p s)

own_kept : (c : Direction) (f : Side → Side) (r : File) (e : ℕ) (d : Direction) → ((f (chosen r c)).stall ≡ (chosen r c).stall)
    → (cond (eqb (file.index r) 0) (side_at r e d) (cond (eqb e (file.index r)) (towards c d f (side_at r e d)) (side_at r e d))).stall ≡ (side_at r e d).stall
own_kept c f r e d same = go (eqb (file.index r) 0)
  where
    go : (b : Bool) → (cond b (side_at r e d) (cond (eqb e (file.index r)) (towards c d f (side_at r e d)) (side_at r e d))).stall ≡ (side_at r e d).stall
    go true = refl
    go false = kept c f r e d same

leaves_stall : (o : Store) (r : File) (e : ℕ) (d : Direction) → (e ≡ 0 → ⊥) → SameStall o r
    → (leaves o (file.index r) e d (side_at r e d)).stall ≡ (side_at r e d).stall
leaves_stall (faddr a) r e d n s = refl
leaves_stall power r e d n s = refl
leaves_stall (index f) r e d n s = refl
leaves_stall (csr0l w) r e Out n s = rw (ne_eqb e 0 n)
leaves_stall (csr0l w) r e In n s = rw (ne_eqb e 0 n)
leaves_stall csr0h r e d n s = rw (ne_eqb e 0 n)
leaves_stall (txcsrl w) r e d n s = own_kept In (tx_stored w) r e d (tx_stall w _ ∙ s)
leaves_stall (rxcsrl w) r e d n s = own_kept Out (rx_stored w) r e d (rx_stall w _ ∙ s)
leaves_stall (iso c) r e d n s = own_kept c with_iso r e d refl
leaves_stall (maxp c m) r e d n s = own_kept c (with_maxp m) r e d refl
leaves_stall intrusbe r e d n s = refl
leaves_stall (intre c v) r e d n s = refl
leaves_stall (packet m) r e d n s = go (eqb m 0)
  where
    go : (b : Bool)
        → (cond b (side_at r e d) (cond (eqb e (file.index r)) (towards In d (with_len m) (side_at r e d)) (side_at r e d))).stall ≡ (side_at r e d).stall
    go true = refl
    go false = kept In (with_len m) r e d refl

-- a store that does not write another SendStall keeps every halt of 1 to 5
pub halts : (o : Store) (g : Log) → Whole g.regs → file.index g.regs < 6 → SameStall o g.regs → SameHalts g.regs (does o g).regs
halts o g six h s e d n = ap (λ (x : Side). x.stall) (sides o g e d six h) ∙ leaves_stall o g.regs e d n s

-- and no `modify` writes another: it writes what it read
pub tx_modified : (s : TxcsrlSet) (r : File) → SameStall (txcsrl (txcsrl_set s (txcsrl_read r))) r
tx_modified s r = txcsrl_stall s (chosen r In)

pub rx_modified : (s : RxcsrlSet) (r : File) → SameStall (rxcsrl (rxcsrl_set s (rxcsrl_read r))) r
rx_modified s r = rxcsrl_stall s (chosen r Out)
