-- Neither the bus's start, nor stalling, nor enabling reads or changes a pending interrupt register.
-- Assumes nothing.
use Prim.Native.Nat.{ℕ}
use mathlib.Core.Path.{◌≡◌, ap, ◌∙◌}
use mathlib.Core.Bool.{Bool, true, false, not, cond}
use lib.Dec.{eqb}
use Rattle.board.specs.declared.Direction.{Direction}
use Rattle.board.specs.declared.Direction.TheVariants.{Out, In}
use Rattle.csr.specs.declared.Csr0l.{Csr0l}
use Rattle.csr.specs.declared.Txcsrl.{Txcsrl}
use Rattle.csr.specs.declared.Rxcsrl.{Rxcsrl}
use Rattle.csr.specs.declared.Csr0lSet.TheVariants.{ServicedBoth}
use Rattle.csr.specs.declared.TxcsrlSet.TheVariants as txcsrl_set
use Rattle.csr.specs.declared.RxcsrlSet.TheVariants as rxcsrl_set
use Rattle.register_file.specs.Registers.{File}
use Rattle.register_file.specs.Control.{csr0l_read}
use Rattle.register_file.proofs.Pending.{PendingAt, Unseen, of_unseen, csr0l_unseen, txcsrl_unseen, rxcsrl_unseen, nothing_done, then_done, by_done, cond_done}
use Rattle.store_rules.specs.Stores.{Log, write_index}
use Rattle.store_rules.specs.Promise as store
use Rattle.store_rules.proofs.Pending.{at, Blind, blind, csr0l_blind, txcsrl_blind, rxcsrl_blind, intre_blind}
use Rattle.endpoints.specs.declared.EndpointConfig.{EndpointConfig}
use Rattle.common_rules.specs.Common.{bus_init, selected, stall_csr0l, write_csrl, ep_tx_stall, ep_rx_stall, has_send_stall, is_stalled}
use Rattle.common_rules.specs.Enable.{flushed_zero, enabled_zero, sized, settled, iso_written, waits, flush, flushed, enabled_other, enabled, isochronous, ep_tx_enable, ep_rx_enable}

-- `bus_init`
pub bus_blind : Blind bus_init
unfolding bus_init
bus_blind = then_done (blind store.intrusbe) (then_done (blind (store.intre Out 254)) (blind (store.intre In 255)))

-- how each function of an endpoint begins
selected_blind : (e : ℕ) {zero other : Log → Log} → Blind zero → Blind other → Blind (selected e zero other)
unfolding selected
selected_blind e a b = cond_done (eqb e 0) (then_done (blind (store.index e)) a) (then_done (blind (store.index e)) b)

-- stalling
csrl_blind : (d : Direction) (stall toggle : Bool) → Blind (write_csrl d stall toggle)
unfolding write_csrl
csrl_blind Out stall toggle = blind (store.rxcsrl _)
csrl_blind In stall toggle = blind (store.txcsrl _)

zero_blind : (stall serviced : Bool) → Blind (stall_csr0l stall serviced)
unfolding stall_csr0l
zero_blind stall serviced = blind (store.csr0l _)

pub tx_stall_blind : (e : ℕ) (stalled : Bool) → Blind (ep_tx_stall e stalled)
unfolding ep_tx_stall
tx_stall_blind e stalled = selected_blind e (zero_blind stalled false) (csrl_blind In stalled (not stalled))

pub rx_stall_blind : (e : ℕ) (stalled : Bool) → Blind (ep_rx_stall e stalled)
unfolding ep_rx_stall
rx_stall_blind e stalled = selected_blind e (zero_blind stalled stalled) (csrl_blind Out stalled (not stalled))

-- whether it is stalled
send_unseen : (d : Direction) → Unseen (has_send_stall d)
unfolding has_send_stall
send_unseen Out = of_unseen (λ (x : Rxcsrl). x.send_stall) rxcsrl_unseen
send_unseen In = of_unseen (λ (x : Txcsrl). x.send_stall) txcsrl_unseen

told : Direction → ℕ → File → Bool
told d e w = cond (eqb e 0) (csr0l_read w).send_stall (has_send_stall d w)

told_unseen : (d : Direction) (e : ℕ) → Unseen (told d e)
unfolding told
told_unseen d e = go (eqb e 0)
  where
    go : (b : Bool) → Unseen (λ w. cond b (csr0l_read w).send_stall (has_send_stall d w))
    go true = of_unseen (λ (x : Csr0l). x.send_stall) csr0l_unseen
    go false = send_unseen d

pub stalled_unseen : (d : Direction) (e : ℕ) (q v : ℕ) → PendingAt q → (g : Log) → is_stalled d e (at q v g) ≡ is_stalled d e g
unfolding is_stalled told
stalled_unseen d e q v is g =
    ap (λ (h : Log). told d e h.regs) ((blind (store.index e)).sets q v is g) ∙ (told_unseen d e).same q v is (write_index e g).regs

-- enabling
enabled_zero_blind : Blind enabled_zero
unfolding enabled_zero flushed_zero
enabled_zero_blind = then_done (intre_blind In 0) (then_done (csr0l_blind ServicedBoth) (blind store.csr0h))

settled_blind : (d : Direction) (e size : ℕ) → Blind (settled d e size)
unfolding settled sized
settled_blind d e size = then_done (intre_blind d e) (then_done (blind (store.maxp d size)) (csrl_blind d false true))

iso_blind : (d : Direction) (iso : Bool) → Blind (iso_written d iso)
unfolding iso_written
iso_blind d iso = cond_done iso (blind (store.iso d)) nothing_done

waits_unseen : (d : Direction) → Unseen (waits d)
unfolding waits
waits_unseen Out = of_unseen (λ (x : Rxcsrl). x.rx_pkt_rdy) rxcsrl_unseen
waits_unseen In = of_unseen (λ (x : Txcsrl). x.fifo_not_empty) txcsrl_unseen

flush_blind : (d : Direction) → Blind (flush d)
unfolding flush
flush_blind Out = rxcsrl_blind rxcsrl_set.FlushFifo
flush_blind In = txcsrl_blind txcsrl_set.FlushFifo

flushed_blind : (d : Direction) → Blind (flushed d)
unfolding flushed
flushed_blind d =
    by_done (λ (b : Bool) (g : Log). cond b (flush d (flush d g)) g) (waits_unseen d)
    (λ b. cond_done b (then_done (flush_blind d) (flush_blind d)) nothing_done)

enabled_blind : (d : Direction) (e : ℕ) (iso : Bool) (size : ℕ) → Blind (enabled d e iso size)
unfolding enabled enabled_other
enabled_blind d e iso size =
    selected_blind e enabled_zero_blind (then_done (settled_blind d e size) (then_done (iso_blind d iso) (flushed_blind d)))

pub tx_enable_blind : (e : ℕ) (config : EndpointConfig) → Blind (ep_tx_enable e config)
unfolding ep_tx_enable
tx_enable_blind e config = enabled_blind In e (isochronous config.ep_type) config.tx_max_packet_size

pub rx_enable_blind : (e : ℕ) (config : EndpointConfig) → Blind (ep_rx_enable e config)
unfolding ep_rx_enable
rx_enable_blind e config = enabled_blind Out e (isochronous config.ep_type) config.rx_max_packet_size
