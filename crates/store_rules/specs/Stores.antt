-- The stores: what each does to the registers and what it lists. A store goes from a Log to a Log.
-- Assumes nothing.
use Rattle.std.specs.Prelude.{ℕ, ◌+◌, cond, List, eqb}
use Rattle.laws.specs.Words.{raised}
use Rattle.board.specs.declared.Direction.{Direction}
use Rattle.board.specs.declared.Direction.TheVariants.{Out, In}
use Rattle.csr.specs.declared.Side.{Side}
use Rattle.csr.specs.declared.Csr0l.{Csr0l}
use Rattle.csr.specs.declared.Txcsrl.{Txcsrl}
use Rattle.csr.specs.declared.Rxcsrl.{Rxcsrl}
use Rattle.csr.specs.declared.Csr0lSet.{Csr0lSet}
use Rattle.csr.specs.declared.TxcsrlSet.{TxcsrlSet}
use Rattle.csr.specs.declared.RxcsrlSet.{RxcsrlSet}
use Rattle.register_file.specs.Registers.{File, index, with_index, with_faddr, with_power, with_intrusbe, with_side, chosen, with_chosen, enabled_of, with_enabled}
use Rattle.csr.specs.Registers.{with_iso, with_maxp, with_len}
use Rattle.csr.specs.Control.{csr0l_number, txcsrl_number, rxcsrl_number, tx_stored, rx_stored, csr0l_set, txcsrl_set, rxcsrl_set}
use Rattle.register_file.specs.Control.{csr0l_read, txcsrl_read, rxcsrl_read, csr0l_stored, csr0h_flushed}
use Rattle.store_list.specs.Stores.{listed, FADDR, POWER, INDEX, CSR0L, CSR0H, TXCSRL, RXCSRL, INTRUSBE, FIFO, csrh, maxp, intre}

-- the register file, the lent list, and how many stores stand in it
pub record Log : Type 0 where
  pub regs : File
  pub list : List ℕ
  pub count : ℕ

abbrev pub log : File → List ℕ → ℕ → Log
log r l n = record { regs = r; list = l; count = n }

-- a store to a register that leaves the registers r: one more in the list.
unfoldable pub listing : ℕ → ℕ → File → List ℕ → ℕ → Log
listing register value r l n = record { regs = r; list = listed l n register (index r) value; count = n + 1 }

unfoldable pub write_faddr : ℕ → Log → Log
write_faddr a g = listing FADDR a (with_faddr g.regs a) g.list g.count

-- "Power's value is 1, intrusbe's 7."
unfoldable pub write_power : Log → Log
write_power g = listing POWER 1 (with_power g.regs 1) g.list g.count

-- "an index store has the new number in both places"
unfoldable pub write_index : ℕ → Log → Log
write_index e g = record { regs = with_index g.regs e; list = listed g.list g.count INDEX e e; count = g.count + 1 }

unfoldable pub write_csr0l : Csr0l → Log → Log
write_csr0l w g = listing CSR0L (csr0l_number w) (csr0l_stored w g.regs) g.list g.count

-- TXCSRL, RXCSRL, TXCSRH, RXCSRH, TXMAXP and RXMAXP are the selected endpoint's. Endpoint 0 has none of them: a store there changes nothing,
-- and is listed all the same.
unfoldable pub with_own : File → ℕ → Direction → Side → File
with_own w e d s = cond (eqb e 0) w (with_side w e d s)

unfoldable pub write_txcsrl : Txcsrl → Log → Log
write_txcsrl w g = listing TXCSRL (txcsrl_number w) (with_own g.regs (index g.regs) In (tx_stored w (chosen g.regs In))) g.list g.count

unfoldable pub write_rxcsrl : Rxcsrl → Log → Log
write_rxcsrl w g = listing RXCSRL (rxcsrl_number w) (with_own g.regs (index g.regs) Out (rx_stored w (chosen g.regs Out))) g.list g.count

-- "`modify` from what is read"
unfoldable pub modify_csr0l : Csr0lSet → Log → Log
modify_csr0l s g = write_csr0l (csr0l_set s (csr0l_read g.regs)) g

unfoldable pub modify_txcsrl : TxcsrlSet → Log → Log
modify_txcsrl s g = write_txcsrl (txcsrl_set s (txcsrl_read g.regs)) g

unfoldable pub modify_rxcsrl : RxcsrlSet → Log → Log
modify_rxcsrl s g = write_rxcsrl (rxcsrl_set s (rxcsrl_read g.regs)) g

-- the source's only store to CSR0H, `modify` with the flush bit: all of CSR0H reads 0
unfoldable pub flush_csr0h : Log → Log
flush_csr0h g = listing CSR0H 1 (csr0h_flushed g.regs) g.list g.count

-- "ISO is bit 6 of TXCSRH and RXCSRH": the source's only store there, a `write` of that bit
unfoldable pub write_iso : Direction → Log → Log
write_iso d g = listing (csrh d) 64 (with_own g.regs (index g.regs) d (with_iso (chosen g.regs d))) g.list g.count

unfoldable pub write_maxp : Direction → ℕ → Log → Log
write_maxp d size g = listing (maxp d) size (with_own g.regs (index g.regs) d (with_maxp size (chosen g.regs d))) g.list g.count

unfoldable pub write_intrusbe : Log → Log
write_intrusbe g = listing INTRUSBE 7 (with_intrusbe g.regs 7) g.list g.count

-- intrtxe and intrrxe "hold what was written"
unfoldable pub write_intre : Direction → ℕ → Log → Log
write_intre d v g = listing (intre d) v (with_enabled d v g.regs) g.list g.count

unfoldable pub modify_intre : Direction → ℕ → Log → Log
modify_intre d e g = write_intre d (raised (enabled_of d g.regs) e) g

-- "A packet written is one store whose value is its length; none if empty." It goes to the selected endpoint. The ready bit is set by
-- a store after it: between the two a length stands with its ready bit clear, which no record at a call's end has. Of an empty packet
-- the length is 0 already, or the record is refused (reply 16).
unfoldable pub write_packet : ℕ → Log → Log
write_packet n g = cond (eqb n 0) g (listing FIFO n (with_chosen g.regs In (with_len n (chosen g.regs In))) g.list g.count)
