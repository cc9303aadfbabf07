-- What the driver may know of a store, whichever it is: one account of what each changes and what it leaves.
-- Assumes nothing.
use Rattle.std.specs.Prelude.{ℕ, ◌+◌, ◌<◌, ◌≡◌, Bool, true, false, not, ◌&&◌, cond, length, get_or, eqb}
use Rattle.board.specs.declared.Direction.{Direction}
use Rattle.board.specs.declared.Direction.TheVariants.{Out, In}
use Rattle.csr.specs.declared.Side.{Side}
use Rattle.csr.specs.declared.Csr0l.{Csr0l}
use Rattle.csr.specs.declared.Txcsrl.{Txcsrl}
use Rattle.csr.specs.declared.Rxcsrl.{Rxcsrl}
use Rattle.register_file.specs.Registers as file
use Rattle.register_file.specs.Registers.{File, side_at}
use Rattle.csr.specs.Registers.{with_iso, with_maxp, with_len, towards}
use Rattle.csr.specs.Control.{tx_stored, rx_stored, zero_tx_stored, dropped, csr0l_number, txcsrl_number, rxcsrl_number}
use Rattle.store_list.specs.Stores as Stores
use Rattle.store_rules.specs.Stores.{Log, write_faddr, write_power, write_index, write_csr0l, flush_csr0h, write_txcsrl, write_rxcsrl, write_iso, write_maxp, write_intrusbe, write_intre, write_packet}
use Rattle.store_list.specs.Stores.{listed, FADDR, POWER, INDEX, CSR0L, CSR0H, TXCSRL, RXCSRL, INTRUSBE, FIFO, csrh}

-- the stores of the model. A `modify` is the `write` of what was read with a bit set: proofs/Promises.antt says so.
pub data Store : Type 0 where
  faddr : ℕ → Store
  power : Store
  index : ℕ → Store
  csr0l : Csr0l → Store
  csr0h : Store
  txcsrl : Txcsrl → Store
  rxcsrl : Rxcsrl → Store
  iso : Direction → Store
  maxp : Direction → ℕ → Store
  intrusbe : Store
  intre : Direction → ℕ → Store
  packet : ℕ → Store

abbrev pub does : Store → Log → Log
does (faddr a) g = write_faddr a g
does power g = write_power g
does (index e) g = write_index e g
does (csr0l w) g = write_csr0l w g
does csr0h g = flush_csr0h g
does (txcsrl w) g = write_txcsrl w g
does (rxcsrl w) g = write_rxcsrl w g
does (iso d) g = write_iso d g
does (maxp d n) g = write_maxp d n g
does intrusbe g = write_intrusbe g
does (intre d v) g = write_intre d v g
does (packet n) g = write_packet n g

-- what a store leaves of the side of endpoint e and direction d, that was s, while endpoint i is selected. Endpoint 0 has no TXCSRL, RXCSRL,
-- TXCSRH, RXCSRH, TXMAXP, RXMAXP.
abbrev pub leaves : Store → ℕ → ℕ → Direction → Side → Side
leaves (faddr a) i e d s = s
leaves power i e d s = s
leaves (index f) i e d s = s
leaves (csr0l w) i e Out s = cond (eqb e 0) (dropped w.serviced_rx_pkt_rdy s) s
leaves (csr0l w) i e In s = cond (eqb e 0) (zero_tx_stored w s) s
leaves csr0h i e d s = cond (eqb e 0) (dropped true s) s
leaves (txcsrl w) i e d s = cond (eqb i 0) s (cond (eqb e i) (towards In d (tx_stored w) s) s)
leaves (rxcsrl w) i e d s = cond (eqb i 0) s (cond (eqb e i) (towards Out d (rx_stored w) s) s)
leaves (iso c) i e d s = cond (eqb i 0) s (cond (eqb e i) (towards c d with_iso s) s)
leaves (maxp c n) i e d s = cond (eqb i 0) s (cond (eqb e i) (towards c d (with_maxp n) s) s)
leaves intrusbe i e d s = s
leaves (intre c v) i e d s = s
leaves (packet n) i e d s = cond (eqb n 0) s (cond (eqb e i) (towards In d (with_len n) s) s)

-- what a store leaves of a number of the file before SetupEnd's, that was x: 0 the selection, 1 the address, 2 power, 3 intrusbe, 4 intrtxe,
-- 5 intrrxe; the pending interrupts, 6 to 8, stay
abbrev pub writes : Store → ℕ → ℕ → ℕ
writes (faddr a) q x = cond (eqb q 1) a x
writes power q x = cond (eqb q 2) 1 x
writes (index e) q x = cond (eqb q 0) e x
writes (csr0l w) q x = x
writes csr0h q x = x
writes (txcsrl w) q x = x
writes (rxcsrl w) q x = x
writes (iso d) q x = x
writes (maxp d n) q x = x
writes intrusbe q x = cond (eqb q 3) 7 x
writes (intre Out v) q x = cond (eqb q 5) v x
writes (intre In v) q x = cond (eqb q 4) v x
writes (packet n) q x = x

-- the selection after a store, and the address
abbrev pub selects : Store → ℕ → ℕ
selects o i = writes o 0 i

abbrev pub addresses : Store → ℕ → ℕ
addresses o a = writes o 1 a

-- SetupEnd after a store
abbrev pub ends : Store → Bool → Bool
ends (faddr a) b = b
ends power b = b
ends (index e) b = b
ends (csr0l w) b = b && not w.serviced_setup_end
ends csr0h b = b
ends (txcsrl w) b = b
ends (rxcsrl w) b = b
ends (iso d) b = b
ends (maxp d n) b = b
ends intrusbe b = b
ends (intre d v) b = b
ends (packet n) b = b

-- whether a store answers the packet that endpoint 0 has received: by ServicedRxPktRdy of CSR0L, or by the flush of CSR0H
abbrev pub services : Store → Bool
services (faddr a) = false
services power = false
services (index e) = false
services (csr0l w) = w.serviced_rx_pkt_rdy
services csr0h = true
services (txcsrl w) = false
services (rxcsrl w) = false
services (iso d) = false
services (maxp d n) = false
services intrusbe = false
services (intre d v) = false
services (packet n) = false

-- endpoint 0's receive side before and after a store that answers its packet, or does not: "RxPktRdy .. of endpoint 0 .. cleared only by ..
-- Serviced bits or a flush"; "Clearing RxPktRdy drops the packet. A drop makes its length 0"
pub record Answered (services : Bool) (before after : Side) : Type 0 where
  pub ready : after.ready ≡ (before.ready && not services)
  pub len : after.len ≡ cond services 0 before.len

-- what a store lists: its register and its value
abbrev pub register : Store → ℕ
register (faddr a) = FADDR
register power = POWER
register (index e) = INDEX
register (csr0l w) = CSR0L
register csr0h = CSR0H
register (txcsrl w) = TXCSRL
register (rxcsrl w) = RXCSRL
register (iso d) = csrh d
register (maxp d n) = Stores.maxp d
register intrusbe = INTRUSBE
register (intre d v) = Stores.intre d
register (packet n) = FIFO

abbrev pub value : Store → ℕ
value (faddr a) = a
value power = 1
value (index e) = e
value (csr0l w) = csr0l_number w
value csr0h = 1
value (txcsrl w) = txcsrl_number w
value (rxcsrl w) = rxcsrl_number w
value (iso d) = 64
value (maxp d n) = n
value intrusbe = 7
value (intre d v) = v
value (packet n) = n

-- "none if empty": whether a store is listed at all
abbrev pub is_listed : Store → Bool
is_listed (faddr a) = true
is_listed power = true
is_listed (index e) = true
is_listed (csr0l w) = true
is_listed csr0h = true
is_listed (txcsrl w) = true
is_listed (rxcsrl w) = true
is_listed (iso d) = true
is_listed (maxp d n) = true
is_listed intrusbe = true
is_listed (intre d v) = true
is_listed (packet n) = not (eqb n 0)

-- the registers that no side holds, and the list
pub record Noted (o : Store) (g h : Log) : Type 0 where
  pub ended : file.setupend h.regs ≡ ends o (file.setupend g.regs)
  pub number : (q : ℕ) → q < 9 → get_or h.regs q 0 ≡ writes o q (get_or g.regs q 0)
  pub list : h.list ≡ cond (is_listed o) (listed g.list g.count (register o) (file.index h.regs) (value o)) g.list
  pub count : h.count ≡ cond (is_listed o) (g.count + 1) g.count

-- the registers q after a store to the registers r: the pending interrupts are kept, and no register comes or goes
pub record Kept (r q : File) (selection address : ℕ) : Type 0 where
  pub usb : file.intrusb q ≡ file.intrusb r
  pub intr : (d : Direction) → file.intr_of q d ≡ file.intr_of r d
  pub whole : length q ≡ length r
  pub selected : file.index q ≡ selection
  pub addressed : file.faddr q ≡ address

-- the same halts, SendStall, at 1 to 5
abbrev pub SameHalts : File → File → Type 0
SameHalts r q = (e : ℕ) (d : Direction) → (e ≡ 0 → ⊥) → (side_at q e d).stall ≡ (side_at r e d).stall
