-- The registers that no side holds, and the list, after every store.
-- Assumes nothing.
use Prim.Native.Nat.{ℕ, ◌+◌, ◌<◌}
use mathlib.Core.Path.{◌≡◌, refl, sym, ap}
use mathlib.Core.Bool.{Bool, true, false, not, cond}
use native.Mathlib.Omega.{arith}
use lib.Dec.{eqb}
use lib.ListN.{set}
use lib.Seq.{get_or-set_other}
use Rattle.board.specs.declared.Direction.TheVariants.{Out, In}
use Rattle.register_file.specs.Registers as file
use Rattle.register_file.specs.Registers.{File, Whole, with_faddr, with_power, with_index, with_intrusbe, with_enabled, chosen, with_chosen}
use Rattle.csr.specs.Registers.{with_iso, with_maxp, with_len}
use Rattle.csr.specs.Control.{tx_stored, rx_stored}
use Rattle.register_file.proofs.Sides.{keeps_setupend}
use Rattle.register_file.proofs.Readings.{selected}
use Rattle.register_file.specs.Sound.{Clean}
use Rattle.register_file.proofs.AsWritten.{setup_ends, flush_keeps}
use Rattle.register_file.proofs.Soundness.{clean_side, clean_set, clean_zero, clean_flush}
use Rattle.store_rules.specs.Stores.{Log, listing, write_faddr, write_power, write_index, write_csr0l, flush_csr0h, write_txcsrl, write_rxcsrl, write_iso, write_maxp, write_intrusbe, write_intre, write_packet}
use Rattle.store_list.specs.Stores.{FIFO, INDEX, listed}
use Rattle.store_rules.specs.Promise.{Store, faddr, power, index, csr0l, csr0h, txcsrl, rxcsrl, iso, maxp, intrusbe, intre, packet, does, ends, is_listed, register, value, Noted}
use Rattle.store_rules.proofs.Promises.{number}
use Rattle.store_rules.proofs.Own.{own_ends, own_clean}

set_ends : (w : File) (q v : ℕ) → q < 9 → file.setupend (set w q v) ≡ file.setupend w
unfolding file.setupend
set_ends w q v h = ap (λ (n : ℕ). eqb n 1) (get_or-set_other w q 9 v 0 (λ e. omega arith))

packet_ends : (n : ℕ) (g : Log) → file.setupend (write_packet n g).regs ≡ file.setupend g.regs
unfolding write_packet listing
packet_ends n g = go (eqb n 0)
  where
    go : (b : Bool)
        → file.setupend (cond b g (listing FIFO n (with_chosen g.regs In (with_len n (chosen g.regs In))) g.list g.count)).regs ≡ file.setupend g.regs
    go true = refl
    go false = keeps_setupend g.regs (file.index g.regs) In (with_len n (chosen g.regs In))

ended : (o : Store) (g : Log) → Whole g.regs → file.setupend (does o g).regs ≡ ends o (file.setupend g.regs)
unfolding listing write_faddr write_power write_index write_csr0l flush_csr0h write_txcsrl write_rxcsrl write_iso write_maxp write_intrusbe write_intre with_faddr with_power with_index with_intrusbe with_enabled file.setupend
ended (faddr a) g six = set_ends g.regs 1 a (omega arith)
ended power g six = set_ends g.regs 2 1 (omega arith)
ended (index e) g six = set_ends g.regs 0 e (omega arith)
ended (csr0l w) g six = setup_ends w g.regs six
ended csr0h g six = ap (λ (n : ℕ). eqb n 1) (flush_keeps g.regs 9 (omega arith))
ended (txcsrl w) g six = own_ends g.regs (file.index g.regs) In (tx_stored w (chosen g.regs In))
ended (rxcsrl w) g six = own_ends g.regs (file.index g.regs) Out (rx_stored w (chosen g.regs Out))
ended (iso d) g six = own_ends g.regs (file.index g.regs) d (with_iso (chosen g.regs d))
ended (maxp d n) g six = own_ends g.regs (file.index g.regs) d (with_maxp n (chosen g.regs d))
ended intrusbe g six = set_ends g.regs 3 7 (omega arith)
ended (intre Out v) g six = set_ends g.regs 5 v (omega arith)
ended (intre In v) g six = set_ends g.regs 4 v (omega arith)
ended (packet n) g six = packet_ends n g

-- what is listed
pub record Listed (o : Store) (g h : Log) : Type 0 where
  pub list : h.list ≡ cond (is_listed o) (listed g.list g.count (register o) (file.index h.regs) (value o)) g.list
  pub count : h.count ≡ cond (is_listed o) (g.count + 1) g.count

packet_listed : (n : ℕ) (g : Log) → Listed (packet n) g (write_packet n g)
unfolding write_packet listing
packet_listed n g = record { list = lists (eqb n 0); count = counts (eqb n 0) }
  where
    lists : (b : Bool)
        → (cond b g (listing FIFO n (with_chosen g.regs In (with_len n (chosen g.regs In))) g.list g.count)).list
        ≡ cond (not b) (listed g.list g.count FIFO (file.index (cond b g (listing FIFO n (with_chosen g.regs In (with_len n (chosen g.regs In))) g.list g.count)).regs) n) g.list
    lists true = refl
    lists false = refl

    counts : (b : Bool)
        → (cond b g (listing FIFO n (with_chosen g.regs In (with_len n (chosen g.regs In))) g.list g.count)).count ≡ cond (not b) (g.count + 1) g.count
    counts true = refl
    counts false = refl

is_listed_lem : (o : Store) (g : Log) → Whole g.regs → Listed o g (does o g)
unfolding listing write_faddr write_power write_index write_csr0l flush_csr0h write_txcsrl write_rxcsrl write_iso write_maxp write_intrusbe write_intre
is_listed_lem (faddr a) g six = record { list = refl; count = refl }
is_listed_lem power g six = record { list = refl; count = refl }
is_listed_lem (index e) g six = record { list = ap (λ (i : ℕ). listed g.list g.count INDEX i e) (sym (selected g.regs e six)); count = refl }
is_listed_lem (csr0l w) g six = record { list = refl; count = refl }
is_listed_lem csr0h g six = record { list = refl; count = refl }
is_listed_lem (txcsrl w) g six = record { list = refl; count = refl }
is_listed_lem (rxcsrl w) g six = record { list = refl; count = refl }
is_listed_lem (iso d) g six = record { list = refl; count = refl }
is_listed_lem (maxp d n) g six = record { list = refl; count = refl }
is_listed_lem intrusbe g six = record { list = refl; count = refl }
is_listed_lem (intre d v) g six = record { list = refl; count = refl }
is_listed_lem (packet n) g six = packet_listed n g

pub others : (o : Store) (g : Log) → Whole g.regs → Noted o g (does o g)
others o g six = record {
  ended = ended o g six;
  number = λ q h. number o g q six h;
  list = (is_listed_lem o g six).list;
  count = (is_listed_lem o g six).count;
}

-- no store puts a number into the file that no register can hold
packet_clean : (n : ℕ) (g : Log) → Whole g.regs → Clean g.regs → Clean (write_packet n g).regs
unfolding write_packet listing
packet_clean n g six k = go (eqb n 0)
  where
    go : (b : Bool) → Clean (cond b g (listing FIFO n (with_chosen g.regs In (with_len n (chosen g.regs In))) g.list g.count)).regs
    go true = k
    go false = clean_side g.regs (file.index g.regs) In (with_len n (chosen g.regs In)) six k

pub clean : (o : Store) (g : Log) → Whole g.regs → Clean g.regs → Clean (does o g).regs
unfolding listing write_faddr write_power write_index write_csr0l flush_csr0h write_txcsrl write_rxcsrl write_iso write_maxp write_intrusbe write_intre with_faddr with_power with_index with_intrusbe with_enabled
clean (faddr a) g six k = clean_set g.regs 1 a (omega arith) k
clean power g six k = clean_set g.regs 2 1 (omega arith) k
clean (index e) g six k = clean_set g.regs 0 e (omega arith) k
clean (csr0l w) g six k = clean_zero w g.regs six k
clean csr0h g six k = clean_flush g.regs six k
clean (txcsrl w) g six k = own_clean g.regs (file.index g.regs) In (tx_stored w (chosen g.regs In)) six k
clean (rxcsrl w) g six k = own_clean g.regs (file.index g.regs) Out (rx_stored w (chosen g.regs Out)) six k
clean (iso d) g six k = own_clean g.regs (file.index g.regs) d (with_iso (chosen g.regs d)) six k
clean (maxp d n) g six k = own_clean g.regs (file.index g.regs) d (with_maxp n (chosen g.regs d)) six k
clean intrusbe g six k = clean_set g.regs 3 7 (omega arith) k
clean (intre Out v) g six k = clean_set g.regs 5 v (omega arith) k
clean (intre In v) g six k = clean_set g.regs 4 v (omega arith) k
clean (packet n) g six k = packet_clean n g six k
