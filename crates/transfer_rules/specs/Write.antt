-- The call `write`: its tests decide, its steps stand in the source's order, and this is the whole of what it leaves.
-- Assumes nothing.
use Rattle.std.specs.Prelude.{ℕ, cond, List, eqb, length, Err, Ok}
use Rattle.record.specs.declared.Called.{Called}
use Rattle.laws.specs.Lists.{pasted}
use Rattle.board.specs.declared.Board.{Board}
use Rattle.board.specs.declared.Direction.TheVariants.{In}
use Rattle.csr.specs.declared.TxcsrlSet.TheVariants as txcsrl
use Rattle.register_file.specs.Registers.{File}
use Rattle.store_rules.specs.Stores.{Log, log, write_index, write_packet, modify_txcsrl}
use Rattle.control_state.specs.declared.ControlState.{ControlState}
use Rattle.record.specs.declared.Flags.{Flags}
use Rattle.record.specs.declared.Record.{Record}
use Rattle.record.specs.declared.Refusal.{Refusal}
use Rattle.record.specs.declared.Refusal.TheVariants.{WouldBlock}
use Rattle.record.specs.Record.{area_in, Reply}
use Rattle.transfer_rules.specs.declared.Verdict.{Verdict}
use Rattle.transfer_rules.specs.declared.Verdict.TheVariants as verdict
use Rattle.transfer_rules.specs.Peek.{After, after, leaving, blocked}
use Rattle.transfer_rules.specs.WriteTests.{tests_in}
use Rattle.transfer_rules.specs.WriteZero.{tx_size, sent_zero}

-- all that the call leaves
pub record WriteOutcome : Type 0 where
  pub result : Called (Reply ℕ)
  pub fifo : List ℕ
  pub list : List ℕ

-- the same by its parts: the answer, the FIFO, and what the steps leave
pub record WriteLeft : Type 0 where
  pub answer : Reply ℕ
  pub fifo : List ℕ
  pub after : After

abbrev pub write_left : Reply ℕ → List ℕ → After → WriteLeft
write_left a x s = record { answer = a; fifo = x; after = s }

abbrev pub outcome : Record → WriteLeft → WriteOutcome
outcome k o = record {
  result = record { answer = o.answer; «record» = leaving k o.after; stores = o.after.log.count };
  fifo = o.fifo;
  list = o.after.log.list;
}

-- In each step: n bytes are written, t is endpoint 0's recorded transmit size, c and f are the control state and the flags before.

-- `index().write(..)`, then `fifo(index).write(..)` of each byte: one store, "none if empty"
unfoldable pub loaded : ℕ → ℕ → Log → Log
loaded ep n g = write_packet n (write_index ep g)

-- the others: `txcsrl().modify(|w| w.set_tx_pkt_rdy(true))`
unfoldable pub sent_other : ControlState → Flags → Log → After
sent_other c f g = after c f (modify_txcsrl txcsrl.TxPktRdy g)

unfoldable pub sent : ℕ → ℕ → ℕ → ControlState → Flags → Log → After
sent ep n t c f g = cond (eqb ep 0) (sent_zero c.state n t c f g) (sent_other c f g)

-- a write that is done: its bytes stand in the endpoint's area, and every other byte stays
unfoldable pub write_done : Board → ControlState → Flags → ℕ → ℕ → List ℕ → List ℕ → Log → WriteLeft
write_done b c f t ep bytes x g =
    write_left (Ok (length bytes)) (pasted x (area_in b ep In).start bytes) (sent ep (length bytes) t c f (loaded ep (length bytes) g))

-- the whole call. "A refusal returns its number and changes nothing: record, FIFOs, list"
abbrev pub write_by : Verdict → Board → ControlState → Flags → ℕ → ℕ → List ℕ → List ℕ → Log → WriteLeft
write_by verdict.Clear b c f t ep bytes x g = write_done b c f t ep bytes x g
write_by verdict.Blocked b c f t ep bytes x g = write_left (Err WouldBlock) x (blocked ep c f g)
write_by (verdict.Refused y) b c f t ep bytes x g = write_left (Err y) x (after c f g)

unfoldable pub write_in : Board → File → ControlState → Flags → ℕ → ℕ → List ℕ → List ℕ → List ℕ → WriteLeft
write_in b w c f t ep bytes x l =
    write_by (tests_in b w c f ep (length bytes) (length x) (length l)) b c f t ep bytes x (log w l 0)

unfoldable pub write_call : Record → ℕ → List ℕ → List ℕ → List ℕ → WriteOutcome
write_call k ep b f l = outcome k (write_in k.regs.board k.regs.words k.control_state k.irq (tx_size k) ep b f l)

-- what a refused call leaves, but for reply 6: all as it was
abbrev pub refused : Refusal → Record → List ℕ → List ℕ → WriteOutcome
refused y k f l = record { result = record { answer = Err y; «record» = k; stores = 0 }; fifo = f; list = l }

-- and after reply 6: the endpoint is selected, and that store is listed
abbrev pub blocked_call : Record → ℕ → List ℕ → List ℕ → WriteOutcome
blocked_call k ep f l = outcome k (write_left (Err WouldBlock) f (blocked ep k.control_state k.irq (log k.regs.words l 0)))
