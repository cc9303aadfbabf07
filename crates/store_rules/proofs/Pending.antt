-- No store reads or changes a pending interrupt register, and so no step that is put together from stores does.
-- Assumes nothing.
use Prim.Native.Nat.{ℕ, ◌+◌}
use mathlib.Core.Path.{◌≡◌, refl, ap, ◌∙◌}
use mathlib.Core.Bool.{cond}
use lib.Dec.{eqb}
use lib.ListN.{set}
use Rattle.laws.specs.Words.{raised}
use Rattle.board.specs.declared.Direction.{Direction}
use Rattle.board.specs.declared.Direction.TheVariants.{Out, In}
use Rattle.csr.specs.declared.Side.{Side}
use Rattle.csr.specs.declared.Csr0l.{Csr0l}
use Rattle.csr.specs.declared.Txcsrl.{Txcsrl}
use Rattle.csr.specs.declared.Rxcsrl.{Rxcsrl}
use Rattle.csr.specs.declared.Csr0lSet.{Csr0lSet}
use Rattle.csr.specs.declared.TxcsrlSet.{TxcsrlSet}
use Rattle.csr.specs.declared.RxcsrlSet.{RxcsrlSet}
use Rattle.csr.specs.Registers.{with_iso, with_maxp, with_len}
use Rattle.csr.specs.Control.{csr0l_number, txcsrl_number, rxcsrl_number, tx_stored, rx_stored, csr0l_set, txcsrl_set, rxcsrl_set}
use Rattle.register_file.specs.Registers as file
use Rattle.register_file.specs.Registers.{File, with_side, with_chosen, chosen}
use Rattle.register_file.proofs.Pending.{PendingAt, Apart, index_unseen, enabled_unseen, chosen_unseen, csr0l_unseen, txcsrl_unseen, rxcsrl_unseen, selection_apart, address_apart, power_apart, bus_apart, enabled_apart, side_apart, flushed_apart, zero_apart, nothing_done, by_done, cond_done, Holder, Steady}
use Rattle.store_list.specs.Stores.{listed, FADDR, POWER, CSR0L, CSR0H, TXCSRL, RXCSRL, INTRUSBE, FIFO}
use Rattle.store_list.specs.Stores as numbers
use Rattle.store_rules.specs.Stores.{Log, log, listing, with_own, write_faddr, write_power, write_index, write_csr0l, write_txcsrl, write_rxcsrl, modify_csr0l, modify_txcsrl, modify_rxcsrl, flush_csr0h, write_iso, write_maxp, write_intrusbe, write_intre, modify_intre, write_packet}
use Rattle.store_rules.specs.Promise.{Store, faddr, power, index, csr0l, csr0h, txcsrl, rxcsrl, iso, maxp, intrusbe, intre, packet, does}

-- a number of the file set, and the list as it is
abbrev pub at : ℕ → ℕ → Log → Log
at q v g = log (set g.regs q v) g.list g.count

-- the registers of a log
abbrev pub logged : Holder
logged = record { X = Log; file = λ g. g.regs; put = at; puts = λ q v g. refl }

-- a step that leaves the pending interrupts, and does and lists the same whatever they are
abbrev pub Blind : (Log → Log) → Type 0
Blind = Steady logged

-- a store to a register: what it does to the file, and one more in the list
listing_blind : (r v : ℕ) {φ : File → File} → Apart φ → Blind (λ g. listing r v (φ g.regs) g.list g.count)
unfolding listing
listing_blind r v {φ} a = record { sets = same; reads = λ q is g. a.reads q is g.regs }
  where
    same : (q x : ℕ) → PendingAt q → (g : Log)
        → listing r v (φ (set g.regs q x)) g.list g.count ≡ at q x (listing r v (φ g.regs) g.list g.count)
    same q x is g =
        ap (λ (w : File). listing r v w g.list g.count) (a.sets q x is g.regs)
        ∙ ap (λ (e : ℕ). log (set (φ g.regs) q x) (listed g.list g.count r e v) (g.count + 1)) (index_unseen.same q x is (φ g.regs))

index_blind : (e : ℕ) → Blind (write_index e)
unfolding write_index
index_blind e = record {
  sets = λ q v is g. ap (λ (w : File). log w (listed g.list g.count numbers.INDEX e e) (g.count + 1)) ((selection_apart e).sets q v is g.regs);
  reads = λ q is g. (selection_apart e).reads q is g.regs;
}

-- the selected endpoint's own registers, and its FIFO
own_apart : (d : Direction) (f : Side → Side) → Apart (λ w. with_own w (file.index w) d (f (chosen w d)))
unfolding with_own
own_apart d f =
    by_done (λ (e : ℕ) (w : File). cond (eqb e 0) w (with_side w e d (f (chosen w d)))) index_unseen
    (λ e. cond_done (eqb e 0) nothing_done (by_done (λ (s : Side) (w : File). with_side w e d (f s)) (chosen_unseen d) (λ s. side_apart e d (f s))))

packed_apart : (d : Direction) (f : Side → Side) → Apart (λ w. with_chosen w d (f (chosen w d)))
packed_apart d f =
    by_done (λ (e : ℕ) (w : File). with_side w e d (f (chosen w d))) index_unseen
    (λ e. by_done (λ (s : Side) (w : File). with_side w e d (f s)) (chosen_unseen d) (λ s. side_apart e d (f s)))

-- every store
pub blind : (o : Store) → Blind (does o)
unfolding write_faddr write_power write_csr0l flush_csr0h write_txcsrl write_rxcsrl write_iso write_maxp write_intrusbe write_intre write_packet
blind (faddr a) = listing_blind FADDR a (address_apart a)
blind power = listing_blind POWER 1 (power_apart 1)
blind (index e) = index_blind e
blind (csr0l w) = listing_blind CSR0L (csr0l_number w) (zero_apart w)
blind csr0h = listing_blind CSR0H 1 flushed_apart
blind (txcsrl w) = listing_blind TXCSRL (txcsrl_number w) (own_apart In (tx_stored w))
blind (rxcsrl w) = listing_blind RXCSRL (rxcsrl_number w) (own_apart Out (rx_stored w))
blind (iso d) = listing_blind (numbers.csrh d) 64 (own_apart d with_iso)
blind (maxp d n) = listing_blind (numbers.maxp d) n (own_apart d (with_maxp n))
blind intrusbe = listing_blind INTRUSBE 7 (bus_apart 7)
blind (intre d v) = listing_blind (numbers.intre d) v (enabled_apart d v)
blind (packet n) = cond_done (eqb n 0) nothing_done (listing_blind FIFO n (packed_apart In (with_len n)))

-- "`modify` from what is read"
pub csr0l_blind : (s : Csr0lSet) → Blind (modify_csr0l s)
unfolding modify_csr0l
csr0l_blind s = by_done (λ (x : Csr0l). write_csr0l (csr0l_set s x)) csr0l_unseen (λ x. blind (csr0l (csr0l_set s x)))

pub txcsrl_blind : (s : TxcsrlSet) → Blind (modify_txcsrl s)
unfolding modify_txcsrl
txcsrl_blind s = by_done (λ (x : Txcsrl). write_txcsrl (txcsrl_set s x)) txcsrl_unseen (λ x. blind (txcsrl (txcsrl_set s x)))

pub rxcsrl_blind : (s : RxcsrlSet) → Blind (modify_rxcsrl s)
unfolding modify_rxcsrl
rxcsrl_blind s = by_done (λ (x : Rxcsrl). write_rxcsrl (rxcsrl_set s x)) rxcsrl_unseen (λ x. blind (rxcsrl (rxcsrl_set s x)))

pub intre_blind : (d : Direction) (e : ℕ) → Blind (modify_intre d e)
unfolding modify_intre
intre_blind d e = by_done (λ (x : ℕ). write_intre d (raised x e)) (enabled_unseen d) (λ x. blind (intre d (raised x e)))
