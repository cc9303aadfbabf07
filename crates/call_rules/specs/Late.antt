-- Document 02, T-11, "Late interrupts": a snapshot of the interrupt registers as a value, its bits raised where they wait to be read, and taken by `on_interrupt`.
-- Assumes nothing.
use Rattle.std.specs.Prelude.{ℕ, ◌≡◌, ◌||◌, length, get_or}
use Rattle.std.specs.Int.Bits.{bit_or}
use Rattle.laws.specs.Words.{bit}
use Rattle.event_rules.specs.Raised.{bits_raised}
use Rattle.record.specs.declared.Record.{Record}
use Rattle.record.specs.Record.{with_regs, with_irq, endpoints_of}
use Rattle.call_rules.specs.declared.Snapshot.{Snapshot}
use Rattle.call_rules.specs.Interrupt.{snapshot_of, interrupt_call}
use Rattle.call_rules.specs.Taken.{Takes}

-- nothing was read
abbrev pub nothing : Snapshot
nothing = record { usb = 0; tx = 0; rx = 0 }

-- "one with all their bits"
unfoldable pub joined : Snapshot → Snapshot → Snapshot
joined a b = record { usb = bit_or a.usb b.usb; tx = bit_or a.tx b.tx; rx = bit_or a.rx b.rx }

-- the same bit by bit: c has every bit of a and b, and no other
pub record AllBits (a b c : Snapshot) : Type 0 where
  pub usb : (j : ℕ) → bit c.usb j ≡ (bit a.usb j || bit b.usb j)
  pub tx : (j : ℕ) → bit c.tx j ≡ (bit a.tx j || bit b.tx j)
  pub rx : (j : ℕ) → bit c.rx j ≡ (bit a.rx j || bit b.rx j)

-- a snapshot's bits raised in the pending registers, beside those that stand there
unfoldable pub raised_in : Record → Snapshot → Record
raised_in k s = with_regs k (bits_raised s.usb s.tx s.rx k.regs.words)

-- a snapshot is taken: its bits are pending when `on_interrupt` is called
abbrev pub take : Record → Snapshot → Record
take k s = (interrupt_call (raised_in k s)).«record»

-- What T-11 asks, of every record, also of one that is refused with 16: the whole records are equal.
pub record LateInterrupts : Type 0 where
  -- "taking two interrupt snapshots in turn, no call between, leaves the same record as taking one with all their bits"
  pub two : (k : Record) (a b : Snapshot) → take (take k a) b ≡ take k (joined a b)
  -- "that their order doesn't matter"
  pub order : (k : Record) (a b : Snapshot) → take (take k a) b ≡ take (take k b) a
  -- "and that taking the same one twice equals taking it once"
  pub twice : (k : Record) (a : Snapshot) → take (take k a) a ≡ take k a

-- Beside it, for else an interrupt that reads nothing, or one that never clears, or one that forgets the address, would keep all three. Of a record that passes 16 and
-- has a whole register file: all that is pending is read; those of its bits that the driver has a flag for stand in the flags, the others are read away; nothing is pending
-- any more; and nothing else of the record changes.
pub record TakesAll (k : Record) (s : Snapshot) : Type 0 where
  pub read : snapshot_of (raised_in k s).regs.words ≡ joined (snapshot_of k.regs.words) s
  pub flags : Takes (endpoints_of k) (raised_in k s).regs.words k.irq (take k s).irq
  pub left : snapshot_of (take k s).regs.words ≡ nothing
  pub others : (i : ℕ) → (i ≡ 6 → ⊥) → (i ≡ 7 → ⊥) → (i ≡ 8 → ⊥) → get_or (take k s).regs.words i 0 ≡ get_or k.regs.words i 0
  pub whole : length (take k s).regs.words ≡ length k.regs.words
  pub rest : take k s ≡ with_irq (with_regs k (take k s).regs.words) (take k s).irq
