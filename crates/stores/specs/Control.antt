-- The control registers under one trait: what a store to TXCSRL and RXCSRL leaves of the file, and that each of the three stores is listed and each `modify` is
-- the `write` of what was read with a bit set.
-- Assumes nothing.
use Rattle.std.specs.Prelude.{◌≡◌, refl}
use Rattle.board.specs.declared.Direction.TheVariants.{Out, In}
use Rattle.csr.specs.declared.Csr0l.{Csr0l}
use Rattle.csr.specs.declared.Txcsrl.{Txcsrl}
use Rattle.csr.specs.declared.Rxcsrl.{Rxcsrl}
use Rattle.csr.specs.declared.Csr0lSet.{Csr0lSet}
use Rattle.csr.specs.declared.TxcsrlSet.{TxcsrlSet}
use Rattle.csr.specs.declared.RxcsrlSet.{RxcsrlSet}
use Rattle.csr.specs.Control.{csr0l_number, txcsrl_number, rxcsrl_number, tx_stored, rx_stored, csr0l_set, txcsrl_set, rxcsrl_set}
use Rattle.register_file.specs.Registers.{File, index, chosen}
use Rattle.register_file.specs.Control.{csr0l_read, txcsrl_read, rxcsrl_read, csr0l_stored}
use Rattle.store_list.specs.Stores.{CSR0L, TXCSRL, RXCSRL}
use Rattle.store_rules.specs.Stores.{Log, listing, with_own, write_csr0l, write_txcsrl, write_rxcsrl, modify_csr0l, modify_txcsrl, modify_rxcsrl}

-- the selected endpoint's side after a store, as `write_txcsrl` and `write_rxcsrl` have it
abbrev pub txcsrl_stored : Txcsrl → File → File
txcsrl_stored v r = with_own r (index r) In (tx_stored v (chosen r In))

abbrev pub rxcsrl_stored : Rxcsrl → File → File
rxcsrl_stored v r = with_own r (index r) Out (rx_stored v (chosen r Out))

pub csr0l_listed : (v : Csr0l) (g : Log) → write_csr0l v g ≡ listing CSR0L (csr0l_number v) (csr0l_stored v g.regs) g.list g.count
unfolding write_csr0l
csr0l_listed v g = refl

pub txcsrl_listed : (v : Txcsrl) (g : Log) → write_txcsrl v g ≡ listing TXCSRL (txcsrl_number v) (txcsrl_stored v g.regs) g.list g.count
unfolding write_txcsrl
txcsrl_listed v g = refl

pub rxcsrl_listed : (v : Rxcsrl) (g : Log) → write_rxcsrl v g ≡ listing RXCSRL (rxcsrl_number v) (rxcsrl_stored v g.regs) g.list g.count
unfolding write_rxcsrl
rxcsrl_listed v g = refl

pub csr0l_modified : (s : Csr0lSet) (g : Log) → modify_csr0l s g ≡ write_csr0l (csr0l_set s (csr0l_read g.regs)) g
unfolding modify_csr0l
csr0l_modified s g = refl

pub txcsrl_modified : (s : TxcsrlSet) (g : Log) → modify_txcsrl s g ≡ write_txcsrl (txcsrl_set s (txcsrl_read g.regs)) g
unfolding modify_txcsrl
txcsrl_modified s g = refl

pub rxcsrl_modified : (s : RxcsrlSet) (g : Log) → modify_rxcsrl s g ≡ write_rxcsrl (rxcsrl_set s (rxcsrl_read g.regs)) g
unfolding modify_rxcsrl
rxcsrl_modified s g = refl
