-- The model's promises about stores, each once over every store. Assumes nothing.
use Prim.Native.Nat.{ℕ, ◌+◌, ◌<◌, ◌≤◌}
use mathlib.Core.Path.{◌≡◌, refl, ◌∙◌}
use mathlib.Core.Bool.{Bool, true, false, cond}
use native.Mathlib.Omega.{arith}
use native.Mathlib.Decide.{ℕ_discrete}
use borrow.Author.Tests.{eq-eqb, ne_eqb}
use lib.Dec.{eqb}
use lib.ListN.{length, get_or, length-set}
use Rattle.laws.specs.Words.{raised}
use Rattle.laws.proofs.Lists.{get_or_set}
use Rattle.board.specs.declared.Direction.{Direction}
use Rattle.board.specs.declared.Direction.TheVariants.{Out, In}
use Rattle.csr.specs.declared.Csr0l.{Csr0l}
use Rattle.csr.specs.declared.Csr0lSet.{Csr0lSet}
use Rattle.csr.specs.declared.TxcsrlSet.{TxcsrlSet}
use Rattle.csr.specs.declared.RxcsrlSet.{RxcsrlSet}
use Rattle.register_file.specs.Registers as file
use Rattle.register_file.specs.Registers.{File, Whole, side_at, with_faddr, with_power, with_index, with_intrusbe, with_enabled, chosen, with_chosen, enabled_of}
use Rattle.csr.specs.Registers.{with_iso, with_maxp, with_len, towards}
use Rattle.register_file.specs.Control.{csr0l_stored, csr0h_flushed, csr0l_read, txcsrl_read, rxcsrl_read}
use Rattle.csr.specs.Control.{tx_stored, rx_stored, csr0l_set, txcsrl_set, rxcsrl_set}
use Rattle.register_file.proofs.Sides.{side_seen, set_keeps, keeps, keeps_length}
use Rattle.register_file.proofs.AsWritten.{zero_in, zero_out, zero_other, flush_in, flush_out, flush_other, zero_keeps, zero_length, flush_keeps, flush_length}
use Rattle.store_rules.specs.Stores.{Log, listing, write_faddr, write_power, write_index, write_csr0l, flush_csr0h, write_txcsrl, write_rxcsrl, write_iso, write_maxp, write_intrusbe, write_intre, write_packet, modify_csr0l, modify_txcsrl, modify_rxcsrl, modify_intre}
use Rattle.store_list.specs.Stores.{FIFO, INDEX, listed}
use Rattle.store_rules.proofs.Own.{own_seen, own_keeps, own_length}
use Rattle.store_rules.specs.Promise.{Store, faddr, power, index, csr0l, csr0h, txcsrl, rxcsrl, iso, maxp, intrusbe, intre, packet, does, leaves, writes, selects, addresses, Kept}

-- endpoint 0's register, seen at any endpoint
zero_seen : (w : Csr0l) (r : File) (e : ℕ) (d : Direction) → Whole r → side_at (csr0l_stored w r) e d ≡ leaves (csr0l w) (file.index r) e d (side_at r e d)
zero_seen w r e d six = go d (ℕ_discrete e 0)
  where
    go : (d : Direction) → Dec (e ≡ 0) → side_at (csr0l_stored w r) e d ≡ leaves (csr0l w) (file.index r) e d (side_at r e d)
    go Out (yes p) = rw (eq-eqb e 0 p) (rw p (zero_out w r six))
    go In (yes p) = rw (eq-eqb e 0 p) (rw p (zero_in w r six))
    go Out (no n) = rw (ne_eqb e 0 n) (zero_other w r e Out n)
    go In (no n) = rw (ne_eqb e 0 n) (zero_other w r e In n)

flush_seen : (r : File) (e : ℕ) (d : Direction) → Whole r → side_at (csr0h_flushed r) e d ≡ leaves csr0h (file.index r) e d (side_at r e d)
flush_seen r e d six = go d (ℕ_discrete e 0)
  where
    go : (d : Direction) → Dec (e ≡ 0) → side_at (csr0h_flushed r) e d ≡ leaves csr0h (file.index r) e d (side_at r e d)
    go Out (yes p) = rw (eq-eqb e 0 p) (rw p (flush_out r six))
    go In (yes p) = rw (eq-eqb e 0 p) (rw p (flush_in r six))
    go d (no n) = rw (ne_eqb e 0 n) (flush_other r e d n)

-- a packet written: nothing where it is empty
packet_seen : (n : ℕ) (g : Log) (e : ℕ) (d : Direction) → Whole g.regs → file.index g.regs < 6
    → side_at (write_packet n g).regs e d ≡ leaves (packet n) (file.index g.regs) e d (side_at g.regs e d)
unfolding write_packet listing
packet_seen n g e d six h = go (eqb n 0)
  where
    go : (b : Bool)
        → side_at (cond b g (listing FIFO n (with_chosen g.regs In (with_len n (chosen g.regs In))) g.list g.count)).regs e d
        ≡ cond b (side_at g.regs e d) (cond (eqb e (file.index g.regs)) (towards In d (with_len n) (side_at g.regs e d)) (side_at g.regs e d))
    go true = refl
    go false = side_seen g.regs (file.index g.regs) In (with_len n) e d six h

-- every store leaves every side as the account says: other endpoints, other directions, ready bits, waiting lengths, SendStall
pub sides : (o : Store) (g : Log) (e : ℕ) (d : Direction) → Whole g.regs → file.index g.regs < 6
    → side_at (does o g).regs e d ≡ leaves o (file.index g.regs) e d (side_at g.regs e d)
unfolding listing write_faddr write_power write_index write_csr0l flush_csr0h write_txcsrl write_rxcsrl write_iso write_maxp write_intrusbe write_intre with_faddr with_power with_index with_intrusbe with_enabled
sides (faddr a) g e d six h = set_keeps g.regs 1 a e d (omega arith)
sides power g e d six h = set_keeps g.regs 2 1 e d (omega arith)
sides (index f) g e d six h = set_keeps g.regs 0 f e d (omega arith)
sides (csr0l w) g e d six h = zero_seen w g.regs e d six
sides csr0h g e d six h = flush_seen g.regs e d six
sides (txcsrl w) g e d six h = own_seen g.regs (file.index g.regs) In (tx_stored w) e d six h
sides (rxcsrl w) g e d six h = own_seen g.regs (file.index g.regs) Out (rx_stored w) e d six h
sides (iso c) g e d six h = own_seen g.regs (file.index g.regs) c with_iso e d six h
sides (maxp c n) g e d six h = own_seen g.regs (file.index g.regs) c (with_maxp n) e d six h
sides intrusbe g e d six h = set_keeps g.regs 3 7 e d (omega arith)
sides (intre Out v) g e d six h = set_keeps g.regs 5 v e d (omega arith)
sides (intre In v) g e d six h = set_keeps g.regs 4 v e d (omega arith)
sides (packet n) g e d six h = packet_seen n g e d six h

-- every number before SetupEnd's
packet_number : (n : ℕ) (g : Log) (q : ℕ) → q < 9 → get_or (write_packet n g).regs q 0 ≡ get_or g.regs q 0
unfolding write_packet listing
packet_number n g q h = go (eqb n 0)
  where
    go : (b : Bool) → get_or (cond b g (listing FIFO n (with_chosen g.regs In (with_len n (chosen g.regs In))) g.list g.count)).regs q 0 ≡ get_or g.regs q 0
    go true = refl
    go false = keeps g.regs (file.index g.regs) In (with_len n (chosen g.regs In)) q (omega arith)

pub number : (o : Store) (g : Log) (q : ℕ) → Whole g.regs → q < 9 → get_or (does o g).regs q 0 ≡ writes o q (get_or g.regs q 0)
unfolding listing write_faddr write_power write_index write_csr0l flush_csr0h write_txcsrl write_rxcsrl write_iso write_maxp write_intrusbe write_intre with_faddr with_power with_index with_intrusbe with_enabled
number (faddr a) g q six h = get_or_set g.regs 1 q a 0 (omega arith)
number power g q six h = get_or_set g.regs 2 q 1 0 (omega arith)
number (index e) g q six h = get_or_set g.regs 0 q e 0 (omega arith)
number (csr0l w) g q six h = zero_keeps w g.regs q h
number csr0h g q six h = flush_keeps g.regs q (omega arith)
number (txcsrl w) g q six h = own_keeps g.regs (file.index g.regs) In (tx_stored w (chosen g.regs In)) q (omega arith)
number (rxcsrl w) g q six h = own_keeps g.regs (file.index g.regs) Out (rx_stored w (chosen g.regs Out)) q (omega arith)
number (iso d) g q six h = own_keeps g.regs (file.index g.regs) d (with_iso (chosen g.regs d)) q (omega arith)
number (maxp d n) g q six h = own_keeps g.regs (file.index g.regs) d (with_maxp n (chosen g.regs d)) q (omega arith)
number intrusbe g q six h = get_or_set g.regs 3 q 7 0 (omega arith)
number (intre Out v) g q six h = get_or_set g.regs 5 q v 0 (omega arith)
number (intre In v) g q six h = get_or_set g.regs 4 q v 0 (omega arith)
number (packet n) g q six h = packet_number n g q h

-- how many numbers there are
packet_length : (n : ℕ) (g : Log) → length (write_packet n g).regs ≡ length g.regs
unfolding write_packet listing
packet_length n g = go (eqb n 0)
  where
    go : (b : Bool) → length (cond b g (listing FIFO n (with_chosen g.regs In (with_len n (chosen g.regs In))) g.list g.count)).regs ≡ length g.regs
    go true = refl
    go false = keeps_length g.regs (file.index g.regs) In (with_len n (chosen g.regs In))

pub whole : (o : Store) (g : Log) → length (does o g).regs ≡ length g.regs
unfolding listing write_faddr write_power write_index write_csr0l flush_csr0h write_txcsrl write_rxcsrl write_iso write_maxp write_intrusbe write_intre with_faddr with_power with_index with_intrusbe with_enabled
whole (faddr a) g = length-set g.regs 1 a
whole power g = length-set g.regs 2 1
whole (index e) g = length-set g.regs 0 e
whole (csr0l w) g = zero_length w g.regs
whole csr0h g = flush_length g.regs
whole (txcsrl w) g = own_length g.regs (file.index g.regs) In (tx_stored w (chosen g.regs In))
whole (rxcsrl w) g = own_length g.regs (file.index g.regs) Out (rx_stored w (chosen g.regs Out))
whole (iso d) g = own_length g.regs (file.index g.regs) d (with_iso (chosen g.regs d))
whole (maxp d n) g = own_length g.regs (file.index g.regs) d (with_maxp n (chosen g.regs d))
whole intrusbe g = length-set g.regs 3 7
whole (intre Out v) g = length-set g.regs 5 v
whole (intre In v) g = length-set g.regs 4 v
whole (packet n) g = packet_length n g

-- no store writes a pending interrupt
pending : (o : Store) (q x : ℕ) → 6 ≤ q → writes o q x ≡ x
pending (faddr a) q x h = rw (ne_eqb q 1 (λ e. omega arith))
pending power q x h = rw (ne_eqb q 2 (λ e. omega arith))
pending (index e) q x h = rw (ne_eqb q 0 (λ e. omega arith))
pending (csr0l w) q x h = refl
pending csr0h q x h = refl
pending (txcsrl w) q x h = refl
pending (rxcsrl w) q x h = refl
pending (iso d) q x h = refl
pending (maxp d n) q x h = refl
pending intrusbe q x h = rw (ne_eqb q 3 (λ e. omega arith))
pending (intre Out v) q x h = rw (ne_eqb q 5 (λ e. omega arith))
pending (intre In v) q x h = rw (ne_eqb q 4 (λ e. omega arith))
pending (packet n) q x h = refl

-- every store keeps the pending interrupts and the number of registers, and changes selection and address as the account says
pub rest : (o : Store) (g : Log) → Whole g.regs → Kept g.regs (does o g).regs (selects o (file.index g.regs)) (addresses o (file.faddr g.regs))
unfolding file.index file.faddr file.intrusb file.intr_of
rest o g six = record {
  usb = number o g 6 six (omega arith) ∙ pending o 6 _ (omega arith);
  intr = sides2;
  whole = whole o g;
  selected = number o g 0 six (omega arith);
  addressed = number o g 1 six (omega arith);
}
  where
    sides2 : (d : Direction) → file.intr_of (does o g).regs d ≡ file.intr_of g.regs d
    sides2 Out = number o g 8 six (omega arith) ∙ pending o 8 _ (omega arith)
    sides2 In = number o g 7 six (omega arith) ∙ pending o 7 _ (omega arith)

-- an index store selects, and that is all
pub index_selects : (e : ℕ) (g : Log) → (write_index e g).regs ≡ with_index g.regs e
unfolding write_index listing
index_selects e g = refl

pub index_lists : (e : ℕ) (g : Log) → ((write_index e g).list ≡ listed g.list g.count INDEX e e) × ((write_index e g).count ≡ g.count + 1)
unfolding write_index
index_lists e g = (refl, refl)

-- "`modify` from what is read": a `modify` is a `write` of what was read with a bit changed
pub modify_csr0l_lem : (s : Csr0lSet) (g : Log) → modify_csr0l s g ≡ does (csr0l (csr0l_set s (csr0l_read g.regs))) g
unfolding modify_csr0l
modify_csr0l_lem s g = refl

pub modify_txcsrl_lem : (s : TxcsrlSet) (g : Log) → modify_txcsrl s g ≡ does (txcsrl (txcsrl_set s (txcsrl_read g.regs))) g
unfolding modify_txcsrl
modify_txcsrl_lem s g = refl

pub modify_rxcsrl_lem : (s : RxcsrlSet) (g : Log) → modify_rxcsrl s g ≡ does (rxcsrl (rxcsrl_set s (rxcsrl_read g.regs))) g
unfolding modify_rxcsrl
modify_rxcsrl_lem s g = refl

pub modify_intre_lem : (d : Direction) (e : ℕ) (g : Log) → modify_intre d e g ≡ does (intre d (raised (enabled_of d g.regs) e)) g
unfolding modify_intre
modify_intre_lem d e g = refl

-- "none if empty"
pub packet_none : (n : ℕ) (g : Log) → n ≡ 0 → g ≡ write_packet n g
unfolding write_packet
packet_none n g p = rw (eq-eqb n 0 p)

pub packet_some : (n : ℕ) (g : Log) → (n ≡ 0 → ⊥)
    → write_packet n g ≡ listing FIFO n (with_chosen g.regs In (with_len n (chosen g.regs In))) g.list g.count
unfolding write_packet
packet_some n g p = rw (ne_eqb n 0 p)
