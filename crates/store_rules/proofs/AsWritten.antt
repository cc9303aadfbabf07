-- "RxPktRdy .. of endpoint 0 .. cleared only by .. Serviced bits or a flush": over every store. That of SetupEnd is `ends`, by Others.
-- Assumes nothing.
use Prim.Native.Nat.{ℕ}
use mathlib.Core.Path.{◌≡◌, refl, sym, ap, ◌∙◌}
use mathlib.Core.Bool.{Bool, true, false, cond, and-true}
use mathlib.Core.Logic.{◌⊎◌, inl, inr}
use native.Mathlib.Omega.{arith}
use native.Mathlib.Decide.{ℕ_discrete}
use lib.Dec.{eqb}
use Rattle.board.specs.declared.Direction.{Direction}
use Rattle.board.specs.declared.Direction.TheVariants.{Out, In}
use Rattle.csr.specs.declared.Side.{Side}
use Rattle.csr.specs.Registers.{with_iso, with_maxp, with_len}
use Rattle.csr.specs.Control.{tx_stored, rx_stored, dropped}
use Rattle.csr.proofs.Sides.{out_in}
use Rattle.register_file.specs.Registers as file
use Rattle.register_file.specs.Registers.{File, Whole, side_at, with_side, with_faddr, with_power, with_index, with_intrusbe, with_enabled, chosen, with_chosen}
use Rattle.register_file.proofs.Sides.{side_other, side_either, set_keeps}
use Rattle.register_file.proofs.AsWritten.{zero_out, flush_out}
use Rattle.store_list.specs.Stores.{FIFO}
use Rattle.store_rules.specs.Stores.{Log, listing, with_own, write_faddr, write_power, write_index, write_csr0l, flush_csr0h, write_txcsrl, write_rxcsrl, write_iso, write_maxp, write_intrusbe, write_intre, write_packet}
use Rattle.store_rules.specs.Promise.{Store, faddr, power, index, csr0l, csr0h, txcsrl, rxcsrl, iso, maxp, intrusbe, intre, packet, does, services, Answered}
use Rattle.store_rules.proofs.Own.{own_zero, own_there}

stays : {s t : Side} → t ≡ s → Answered false s t
stays {s} p = rw p (record { ready = sym (and-true s.ready); len = refl })

drops : (b : Bool) {s t : Side} → t ≡ dropped b s → Answered b s t
unfolding dropped
drops b p = rw p (record { ready = refl; len = refl })

-- a register of 1 to 5 leaves both sides of endpoint 0, whichever is selected
own_other : (w : File) (i : ℕ) (c : Direction) (s : Side) (d : Direction) → side_at (with_own w i c s) 0 d ≡ side_at w 0 d
own_other w i c s d = go (ℕ_discrete i 0)
  where
    go : Dec (i ≡ 0) → side_at (with_own w i c s) 0 d ≡ side_at w 0 d
    go (yes p) = ap (λ (v : File). side_at v 0 d) (sym (own_zero w i c s p))
    go (no n) = ap (λ (v : File). side_at v 0 d) (sym (own_there w i c s n refl)) ∙ side_other w i c s 0 d (λ e. n (sym e))

-- a packet written stands at a transmit side
in_other : (w : File) (i : ℕ) (s : Side) → Whole w → side_at (with_side w i In s) 0 Out ≡ side_at w 0 Out
in_other w i s six = go (side_either w i In s 0 Out six)
  where
    go : ((side_at (with_side w i In s) 0 Out ≡ s) × (0 ≡ i) × (Out ≡ In)) ⊎ (side_at (with_side w i In s) 0 Out ≡ side_at w 0 Out)
        → side_at (with_side w i In s) 0 Out ≡ side_at w 0 Out
    go (inl (p, q, t)) = absurd (out_in t)
    go (inr p) = p

packet_other : (n : ℕ) (g : Log) → Whole g.regs → side_at (write_packet n g).regs 0 Out ≡ side_at g.regs 0 Out
unfolding write_packet listing
packet_other n g six = go (eqb n 0)
  where
    go : (b : Bool)
        → side_at (cond b g (listing FIFO n (with_chosen g.regs In (with_len n (chosen g.regs In))) g.list g.count)).regs 0 Out ≡ side_at g.regs 0 Out
    go true = refl
    go false = in_other g.regs (file.index g.regs) (with_len n (chosen g.regs In)) six

pub only_serviced : (o : Store) (g : Log) → Whole g.regs → Answered (services o) (side_at g.regs 0 Out) (side_at (does o g).regs 0 Out)
unfolding listing write_faddr write_power write_index write_csr0l flush_csr0h write_txcsrl write_rxcsrl write_iso write_maxp write_intrusbe write_intre with_faddr with_power with_index with_intrusbe with_enabled
only_serviced (faddr a) g six = stays (set_keeps g.regs 1 a 0 Out (omega arith))
only_serviced power g six = stays (set_keeps g.regs 2 1 0 Out (omega arith))
only_serviced (index e) g six = stays (set_keeps g.regs 0 e 0 Out (omega arith))
only_serviced (csr0l w) g six = drops w.serviced_rx_pkt_rdy (zero_out w g.regs six)
only_serviced csr0h g six = drops true (flush_out g.regs six)
only_serviced (txcsrl w) g six = stays (own_other g.regs (file.index g.regs) In (tx_stored w (chosen g.regs In)) Out)
only_serviced (rxcsrl w) g six = stays (own_other g.regs (file.index g.regs) Out (rx_stored w (chosen g.regs Out)) Out)
only_serviced (iso d) g six = stays (own_other g.regs (file.index g.regs) d (with_iso (chosen g.regs d)) Out)
only_serviced (maxp d n) g six = stays (own_other g.regs (file.index g.regs) d (with_maxp n (chosen g.regs d)) Out)
only_serviced intrusbe g six = stays (set_keeps g.regs 3 7 0 Out (omega arith))
only_serviced (intre Out v) g six = stays (set_keeps g.regs 5 v 0 Out (omega arith))
only_serviced (intre In v) g six = stays (set_keeps g.regs 4 v 0 Out (omega arith))
only_serviced (packet n) g six = stays (packet_other n g six)
