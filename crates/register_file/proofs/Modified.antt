-- What each `modify` of CSR0L of the source does to the sides of endpoint 0 and to SetupEnd.
-- Assumes nothing.
use mathlib.Core.Path.{◌≡◌, refl, ap, ◌∙◌}
use mathlib.Core.Bool.{Bool, true, false, not, ◌&&◌, and-true, or-true, and_self, or_self}
use Rattle.board.specs.declared.Direction.TheVariants.{Out, In}
use Rattle.csr.specs.declared.Csr0lSet.{Csr0lSet}
use Rattle.csr.specs.declared.Csr0lSet.TheVariants as csr0l
use Rattle.register_file.specs.Registers.{File, Whole, side_at, setupend}
use Rattle.csr.specs.Control.{dropped, csr0l_set, zero_tx_stored}
use Rattle.register_file.specs.Control.{csr0l_read, csr0l_stored, answers_packet, answers_end}
use Rattle.register_file.proofs.AsWritten.{zero_out, setup_ends}
use Rattle.csr.proofs.Modified.{readied}

-- CSR0L, on endpoint 0's transmit side: TxPktRdy is set, or nothing changes
pub zero_readied : (r : File) → zero_tx_stored (csr0l_set csr0l.TxPktRdy (csr0l_read r)) (side_at r 0 In) ≡ readied (side_at r 0 In)
unfolding zero_tx_stored csr0l_set csr0l_read
zero_readied r = rw (or-true (side_at r 0 In).ready, and_self (side_at r 0 In).stalled)

pub zero_kept : (r : File) (s : Csr0lSet) → (s ≡ csr0l.TxPktRdy → ⊥) → zero_tx_stored (csr0l_set s (csr0l_read r)) (side_at r 0 In) ≡ side_at r 0 In
unfolding zero_tx_stored csr0l_set csr0l_read
zero_kept r csr0l.TxPktRdy n = absurd (n refl)
zero_kept r csr0l.DataEnd n = rw (or_self (side_at r 0 In).ready, and_self (side_at r 0 In).stalled)
zero_kept r csr0l.ServicedRxPktRdy n = rw (or_self (side_at r 0 In).ready, and_self (side_at r 0 In).stalled)
zero_kept r csr0l.ServicedSetupEnd n = rw (or_self (side_at r 0 In).ready, and_self (side_at r 0 In).stalled)
zero_kept r csr0l.ServicedBoth n = rw (or_self (side_at r 0 In).ready, and_self (side_at r 0 In).stalled)

-- on its receive side: the packet is answered, or it waits on; and SetupEnd is answered, or stays
pub answers : (r : File) (s : Csr0lSet)
    → ((csr0l_set s (csr0l_read r)).serviced_rx_pkt_rdy ≡ answers_packet s) × ((csr0l_set s (csr0l_read r)).serviced_setup_end ≡ answers_end s)
unfolding csr0l_set csr0l_read
answers r csr0l.TxPktRdy = (refl, refl)
answers r csr0l.DataEnd = (refl, refl)
answers r csr0l.ServicedRxPktRdy = (refl, refl)
answers r csr0l.ServicedSetupEnd = (refl, refl)
answers r csr0l.ServicedBoth = (refl, refl)

pub zero_answered : (r : File) (s : Csr0lSet) → Whole r → side_at (csr0l_stored (csr0l_set s (csr0l_read r)) r) 0 Out ≡ dropped (answers_packet s) (side_at r 0 Out)
zero_answered r s six = zero_out _ r six ∙ ap (λ (b : Bool). dropped b (side_at r 0 Out)) (answers r s).0

pub zero_ends : (r : File) (s : Csr0lSet) → Whole r → setupend (csr0l_stored (csr0l_set s (csr0l_read r)) r) ≡ (setupend r && not (answers_end s))
zero_ends r s six = setup_ends _ r six ∙ ap (λ (b : Bool). setupend r && not b) (answers r s).1

-- DataEnd reads 0, so that a `modify` stores it just where it is the one that sets it
abbrev pub is_data_end : Csr0lSet → Bool
is_data_end csr0l.DataEnd = true
is_data_end csr0l.TxPktRdy = false
is_data_end csr0l.ServicedRxPktRdy = false
is_data_end csr0l.ServicedSetupEnd = false
is_data_end csr0l.ServicedBoth = false

pub sets_data_end : (s : Csr0lSet) (r : File) → (csr0l_set s (csr0l_read r)).data_end ≡ is_data_end s
unfolding csr0l_set csr0l_read
sets_data_end csr0l.DataEnd r = refl
sets_data_end csr0l.TxPktRdy r = refl
sets_data_end csr0l.ServicedRxPktRdy r = refl
sets_data_end csr0l.ServicedSetupEnd r = refl
sets_data_end csr0l.ServicedBoth r = refl

-- servicing a setup end leaves a packet waiting
pub zero_still_waits : (r : File) → dropped (csr0l_set csr0l.ServicedSetupEnd (csr0l_read r)).serviced_rx_pkt_rdy (side_at r 0 Out) ≡ side_at r 0 Out
unfolding csr0l_set csr0l_read dropped
zero_still_waits r = rw (and-true (side_at r 0 Out).ready)
