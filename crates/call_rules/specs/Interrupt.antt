-- `on_interrupt`: the snapshot of the three interrupt registers is read, then it is taken into the flags.
-- Assumes nothing.
use Rattle.std.specs.Prelude.{ℕ, ◌-◌, Bool, true, false, ◌||◌, cond, Err, Ok}
use Rattle.record.specs.declared.Answered.{Answered}
use mathlib.Core.List.{foldl}
use Rattle.laws.specs.Words.{bit, raised}
use Rattle.board.specs.declared.Direction.TheVariants.{Out, In}
use Rattle.register_file.specs.Registers.{File, intrusb, intr_of}
use Rattle.event_rules.specs.declared.BusEvent.TheVariants.{Suspend, Resume, Reset}
use Rattle.event_rules.specs.Events.{bus_bit, intrusb_cleared, intr_cleared}
use Rattle.laws.specs.Lists.{numbers}
use Rattle.record.specs.declared.Flags.{Flags}
use Rattle.record.specs.declared.Refusal.TheVariants.{BadRecord}
use Rattle.record.specs.declared.Record.{Record}
use Rattle.record.specs.Record.{record_sound, endpoints_of, Reply}
use Rattle.call_rules.specs.declared.Snapshot.{Snapshot}

-- `intrusb().read()`, `intrtx().read()`, `intrrx().read()`, in this order
unfoldable pub snapshot_of : File → Snapshot
snapshot_of r = record { usb = intrusb r; tx = intr_of (intrusb_cleared r) In; rx = intr_of (intr_cleared (intrusb_cleared r) In) Out }

-- "Interrupt registers clear when read."
unfoldable pub cleared : File → File
cleared r = intr_cleared (intr_cleared (intrusb_cleared r) In) Out

-- `if intrusb.reset() { IRQ_RESET.store(true, ..) }` and so on; the transmit bit of endpoint 0 raises the flag of its own
unfoldable pub bus_taken : Snapshot → Flags → Flags
bus_taken s f = record {
  reset = f.reset || bit s.usb (bus_bit Reset);
  suspend = f.suspend || bit s.usb (bus_bit Suspend);
  resume = f.resume || bit s.usb (bus_bit Resume);
  ep0 = f.ep0 || bit s.tx 0;
  ep_tx = f.ep_tx;
  ep_rx = f.ep_rx;
}

-- `if intrtx.ep_tx(index) { .. flags | 1 << index }`, the same of `intrrx`
unfoldable pub raised_if : ℕ → ℕ → ℕ → ℕ
raised_if read flags e = cond (bit read e) (raised flags e) flags

-- the body of `for index in 1..ENDPOINTS.len()`
unfoldable pub endpoint_taken : Snapshot → Flags → ℕ → Flags
endpoint_taken s f e = record {
  reset = f.reset;
  suspend = f.suspend;
  resume = f.resume;
  ep0 = f.ep0;
  ep_tx = raised_if s.tx f.ep_tx e;
  ep_rx = raised_if s.rx f.ep_rx e;
}

-- the loop: receive bit 0 and bits past the last endpoint are ignored
unfoldable pub endpoints_taken : ℕ → Snapshot → Flags → Flags
endpoints_taken count s f = foldl (endpoint_taken s) f (numbers 1 (count - 1))

-- a snapshot, taken into the flags of a board with so many endpoints
unfoldable pub taken : ℕ → Snapshot → Flags → Flags
taken count s f = endpoints_taken count s (bus_taken s f)

-- the record with the registers read and the flags taken
unfoldable pub interrupted : Record → Record
interrupted k = record {
  regs = record { board = k.regs.board; words = cleared k.regs.words };
  endpoints = k.endpoints;
  control_state = k.control_state;
  irq = taken (endpoints_of k) (snapshot_of k.regs.words) k.irq;
}

-- what is answered: 16 for a record that does not pass
abbrev pub interrupt_by : Bool → Record → Answered (Reply Unit)
interrupt_by true k = record { answer = (Ok tt); «record» = interrupted k }
interrupt_by false k = record { answer = Err BadRecord; «record» = k }

-- the whole outcome: refused with 16 alone
unfoldable pub interrupt_call : Record → Answered (Reply Unit)
interrupt_call k = interrupt_by (record_sound k) k
