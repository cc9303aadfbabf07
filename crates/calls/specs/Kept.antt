-- What every operation keeps, and which operations a sentence is about.
-- Assumes nothing.
use Rattle.std.specs.Prelude.{ℕ, ◌≡◌, true, Bool, not, ◌&&◌}
use Rattle.board.specs.declared.Direction.{Direction}
use Rattle.board.specs.declared.Direction.TheVariants.{Out}
use Rattle.csr.specs.declared.Side.{Side}
use Rattle.register_file.specs.Registers.{Whole, intrusb, intr_of, side_at}
use Rattle.store_rules.specs.Promise.{SameHalts}
use Rattle.record.specs.declared.Record.{Record}
use Rattle.record.specs.Record.{SoundRecord}
use Rattle.calls.specs.Calls.{Op, alloc_ep, bus_init, enable, reset, set_device_address, write, read, set_stalled, is_stalled, poll, on_interrupt, force_reset, arrival, collection, bus_reset, suspend, resume, setup_end, underrun, overrun, step}

-- the record passes reply 16, and has a whole register file, as every record of the code has
pub record Good (k : Record) : Type 0 where
  pub sound : SoundRecord k
  pub six : Whole k.regs.words

-- the pending interrupts of two records are the same
pub record Pending (k q : Record) : Type 0 where
  pub usb : intrusb q.regs.words ≡ intrusb k.regs.words
  pub intr : (d : Direction) → intr_of q.regs.words d ≡ intr_of k.regs.words d

-- The kinds of operation: the two calls that write SendStall, stalling and the reset call (because enabling an endpoint writes TXCSRL or
-- RXCSRL from zeros); the poll, which takes flags away; the interrupt, which reads the interrupt registers into them; every other call of the driver; and the host's
-- events.
pub data Kind : Type 0 where
  stalling polling interrupting plain hosted : Kind

abbrev pub kind : Op → Kind
kind (alloc_ep q w) = plain
kind (bus_init l) = plain
kind (enable l) = plain
kind (reset l) = stalling
kind (set_device_address a l) = plain
kind (write e b f l) = plain
kind (read e b f l) = plain
kind (set_stalled e d s l) = stalling
kind (is_stalled e d l) = plain
kind (poll l) = polling
kind on_interrupt = interrupting
kind force_reset = plain
kind (arrival e b f) = hosted
kind (collection e f) = hosted
kind bus_reset = hosted
kind suspend = hosted
kind resume = hosted
kind setup_end = hosted
kind (underrun e) = hosted
kind (overrun e) = hosted

-- the driver's calls that read no interrupt register
abbrev pub storing : Kind → Type 0
storing stalling = Unit
storing polling = Unit
storing interrupting = ⊥
storing plain = Unit
storing hosted = ⊥

abbrev pub Stores : Op → Type 0
Stores o = storing (kind o)

abbrev pub writing : Kind → Type 0
writing stalling = Unit
writing polling = ⊥
writing interrupting = ⊥
writing plain = ⊥
writing hosted = ⊥

abbrev pub WritesStall : Op → Type 0
WritesStall o = writing (kind o)

-- an operation that writes no SendStall leaves that of endpoints 1 to 5 as it was
abbrev pub SparesHalts : Record → Op → Type 0
SparesHalts k o = (WritesStall o → ⊥) → SameHalts k.regs.words (step k o).regs.words

-- of the packets that wait to be read at endpoints 1 to 5 of k, those are gone in q whose endpoint passes a test; no other came or went
pub record Remain (gone : ℕ → Bool) (k q : Record) : Type 0 where
  pub ready : (e : ℕ) → (e ≡ 0 → ⊥) → (side_at q.regs.words e Out).ready ≡ ((side_at k.regs.words e Out).ready && not (gone e))

-- Of a side before and after a change: a packet that is there after it was there before, and was as long.
pub record Lasting (s t : Side) : Type 0 where
  pub was : t.ready ≡ true → s.ready ≡ true
  pub len : t.ready ≡ true → t.len ≡ s.len
