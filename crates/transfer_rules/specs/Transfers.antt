-- What an answered write and an answered read leave, beside their definitions and apart from them: the registers, the list, the bytes.
-- Assumes nothing.
use Rattle.std.specs.Prelude.{ℕ, ◌+◌, ◌≤◌, ◌<◌, ◌≡◌, true, false, cond, List, eqb, length, get_or, Ok}
use Rattle.board.specs.declared.Direction.{Direction}
use Rattle.board.specs.declared.Direction.TheVariants.{Out, In}
use Rattle.csr.specs.declared.Side.{Side}
use Rattle.register_file.specs.Registers.{side_at, index, enabled_of, setupend}
use Rattle.store_list.specs.Stores.{listed, INDEX, TXCSRL, RXCSRL, FIFO}
use Rattle.common_rules.specs.Kept.{SameRest}
use Rattle.record.specs.declared.Record.{Record}
use Rattle.record.specs.Record.{area_of}
use Rattle.transfer_rules.specs.Write.{WriteOutcome}
use Rattle.transfer_rules.specs.Read.{ReadOutcome}
use Rattle.csr.specs.Kept.{SameBits}

-- all of the record but its registers
pub record SameParts (k j : Record) : Type 0 where
  pub board : j.regs.board ≡ k.regs.board
  pub endpoints : j.endpoints ≡ k.endpoints
  pub control : j.control_state ≡ k.control_state
  pub irq : j.irq ≡ k.irq

-- what is stored to TXCSRL: TxPktRdy, bit 0, and UnderRun, SendStall and SentStall, bits 2, 4 and 5, as they read
abbrev pub send_value : Side → ℕ
send_value s = 1 + cond s.missed 4 0 + cond s.stall 16 0 + cond s.stalled 32 0

-- and to RXCSRL: RxPktRdy, bit 0, down, and OverRun, SendStall and SentStall, bits 2, 5 and 6, as they read
abbrev pub take_value : Side → ℕ
take_value s = cond s.missed 4 0 + cond s.stall 32 0 + cond s.stalled 64 0

-- the list of a write: index, the packet ("one store whose value is its length; none if empty"), TXCSRL
abbrev pub write_list : List ℕ → ℕ → ℕ → ℕ → List ℕ
write_list l e n v =
    cond (eqb n 0) (listed (listed l 0 INDEX e e) 1 TXCSRL e v)
    (listed (listed (listed l 0 INDEX e e) 1 FIFO e n) 2 TXCSRL e v)

abbrev pub write_count : ℕ → ℕ
write_count n = cond (eqb n 0) 2 3

-- an answered write of n bytes at endpoint e of 1 to 5: the packet waits to be sent, and nothing else has changed
pub record Writes (k : Record) (e n : ℕ) (l : List ℕ) (o : WriteOutcome) : Type 0 where
  pub ready : (side_at o.result.«record».regs.words e In).ready ≡ true
  pub length : (side_at o.result.«record».regs.words e In).len ≡ n
  pub bits : SameBits (side_at k.regs.words e In) (side_at o.result.«record».regs.words e In)
  pub others : (f : ℕ) (c : Direction) → (f ≡ e → c ≡ In → ⊥) → side_at o.result.«record».regs.words f c ≡ side_at k.regs.words f c
  pub selected : index o.result.«record».regs.words ≡ e
  pub enabled : (d : Direction) → enabled_of d o.result.«record».regs.words ≡ enabled_of d k.regs.words
  pub ended : setupend o.result.«record».regs.words ≡ setupend k.regs.words
  pub rest : SameRest k.regs.words o.result.«record».regs.words
  pub parts : SameParts k o.result.«record»
  pub list : o.list ≡ write_list l e n (send_value (side_at k.regs.words e In))
  pub count : o.result.stores ≡ write_count n

-- an answered read at endpoint e of 1 to 5: no packet waits there any more, and nothing else has changed
pub record Takes (k : Record) (e : ℕ) (l : List ℕ) (o : ReadOutcome) : Type 0 where
  pub ready : (side_at o.result.«record».regs.words e Out).ready ≡ false
  pub length : (side_at o.result.«record».regs.words e Out).len ≡ 0
  pub bits : SameBits (side_at k.regs.words e Out) (side_at o.result.«record».regs.words e Out)
  pub others : (f : ℕ) (c : Direction) → (f ≡ e → c ≡ Out → ⊥) → side_at o.result.«record».regs.words f c ≡ side_at k.regs.words f c
  pub selected : index o.result.«record».regs.words ≡ e
  pub enabled : (d : Direction) → enabled_of d o.result.«record».regs.words ≡ enabled_of d k.regs.words
  pub ended : setupend o.result.«record».regs.words ≡ setupend k.regs.words
  pub rest : SameRest k.regs.words o.result.«record».regs.words
  pub parts : SameParts k o.result.«record»
  pub list : o.list ≡ listed (listed l 0 INDEX e e) 1 RXCSRL e (take_value (side_at k.regs.words e Out))
  pub count : o.result.stores ≡ 2

-- An answered read at any endpoint e (document 02, T-02: "gets all of it"): the buffer has room for the packet, which stands whole at its front, from
-- e's own receive area; the answer is its length; and the rest of the buffer stays
pub record Copies (k : Record) (e : ℕ) (buf fifo : List ℕ) (o : ReadOutcome) : Type 0 where
  pub said : o.result.answer ≡ Ok (side_at k.regs.words e Out).len
  pub fits : (side_at k.regs.words e Out).len ≤ (area_of k e Out).size
  pub room : (side_at k.regs.words e Out).len ≤ length buf
  pub inside : (i : ℕ) → i < (side_at k.regs.words e Out).len → get_or o.buf i 0 ≡ get_or fifo ((area_of k e Out).start + i) 0
  pub outside : (i : ℕ) → (side_at k.regs.words e Out).len ≤ i → get_or o.buf i 0 ≡ get_or buf i 0
  pub whole : length o.buf ≡ length buf
