-- The call `read`: its tests decide, its steps stand in the source's order, and this is the whole of what it leaves.
-- Assumes nothing.
use Rattle.std.specs.Prelude.{ℕ, cond, List, eqb, length, take, drop, Err, Ok}
use Rattle.record.specs.declared.Called.{Called}
use Rattle.laws.specs.Lists.{pasted}
use Rattle.board.specs.declared.Board.{Board}
use Rattle.board.specs.declared.Direction.TheVariants.{Out}
use Rattle.csr.specs.declared.RxcsrlSet.TheVariants as rxcsrl
use Rattle.register_file.specs.Registers.{File}
use Rattle.store_rules.specs.Stores.{Log, log, write_index, modify_rxcsrl}
use Rattle.control_state.specs.declared.ControlState.{ControlState}
use Rattle.record.specs.declared.Flags.{Flags}
use Rattle.record.specs.declared.Record.{Record}
use Rattle.record.specs.declared.Refusal.{Refusal}
use Rattle.record.specs.declared.Refusal.TheVariants.{WouldBlock}
use Rattle.record.specs.Record.{area_in, Reply}
use Rattle.transfer_rules.specs.declared.Verdict.{Verdict}
use Rattle.transfer_rules.specs.declared.Verdict.TheVariants as verdict
use Rattle.transfer_rules.specs.Peek.{rx_count, After, after, leaving, blocked}
use Rattle.transfer_rules.specs.ReadZero.{rx_size, read_zero}
use Rattle.transfer_rules.specs.ReadTests.{tests_in}

-- all that the call leaves
pub record ReadOutcome : Type 0 where
  pub result : Called (Reply ℕ)
  pub list : List ℕ
  pub buf : List ℕ

-- the same without the parts of the record that no read changes
pub record ReadLeft : Type 0 where
  pub answer : Reply ℕ
  pub buf : List ℕ
  pub after : After

abbrev pub read_left : Reply ℕ → List ℕ → After → ReadLeft
read_left a x s = record { answer = a; buf = x; after = s }

abbrev pub outcome : Record → ReadLeft → ReadOutcome
outcome k t = record { result = record { answer = t.answer; «record» = leaving k t.after; stores = t.after.log.count }; list = t.after.log.list; buf = t.buf }

-- the steps: x is the caller's buffer, y the FIFO memory, which is lent to be read, and stays -----------------------------------

-- `buf.into_iter().take(read_count)`, where the buffer has room for the whole packet (reply 18 came before): its n bytes; every other byte of the
-- buffer stays
unfoldable pub copied : Board → ℕ → ℕ → List ℕ → List ℕ → List ℕ
copied b ep n x y = pasted x 0 (take n (drop (area_in b ep Out).start y))

-- the others: `rxcsrl().modify(|w| w.set_rx_pkt_rdy(false))`, which drops it too
unfoldable pub read_other : ControlState → Flags → Log → After
read_other c f g = after c f (modify_rxcsrl rxcsrl.NoRxPktRdy g)

unfoldable pub got : ℕ → List ℕ → ℕ → ℕ → ControlState → Flags → Log → After
got ep x n size c f g = cond (eqb ep 0) (read_zero x n size c f g) (read_other c f g)

-- a packet that is read: "returns the packet's length, and drops the packet"
unfoldable pub read_done : Board → ControlState → Flags → ℕ → ℕ → List ℕ → List ℕ → Log → ReadLeft
read_done b c f size ep x y g =
    let n = rx_count ep g.regs in
    record { answer = Ok n; buf = copied b ep n x y; after = got ep (copied b ep n x y) n size c f (write_index ep g) }

-- the whole call. "A refusal returns its number and changes nothing: record, FIFOs, list, caller's buffer."
abbrev pub refused : Refusal → List ℕ → After → ReadLeft
refused r x s = record { answer = Err r; buf = x; after = s }

abbrev pub read_by : Verdict → Board → ControlState → Flags → ℕ → ℕ → List ℕ → List ℕ → Log → ReadLeft
read_by verdict.Clear b c f size ep x y g = read_done b c f size ep x y g
read_by verdict.Blocked b c f size ep x y g = refused WouldBlock x (blocked ep c f g)
read_by (verdict.Refused r) b c f size ep x y g = refused r x (after c f g)

unfoldable pub read_in : Board → File → ControlState → Flags → ℕ → ℕ → List ℕ → List ℕ → List ℕ → ReadLeft
read_in b w c f size ep x y l = read_by (tests_in b w c f ep (length x) (length y) (length l)) b c f size ep x y (log w l 0)

unfoldable pub read_call : Record → ℕ → List ℕ → List ℕ → List ℕ → ReadOutcome
read_call k ep b f l = outcome k (read_in k.regs.board k.regs.words k.control_state k.irq (rx_size k) ep b f l)
