-- What an entry of a trace does: one of the operations that the demands speak of, whose outcome is said by `calls` alone, and what the entry after
-- it finds.
-- Assumes nothing.
use Rattle.std.specs.Prelude.{ℕ, ◌≤◌, ◌≡◌, List, length, take, drop, replicate}
use Rattle.endpoints.specs.Endpoints.{ask}
use Rattle.record.specs.declared.Record.{Record}
use Rattle.calls.specs.Calls as calls
use Rattle.calls.specs.Calls.{Op, alloc_ep, bus_init, enable, reset, set_device_address, write, read, set_stalled, is_stalled, poll, on_interrupt, force_reset, arrival, collection, bus_reset, suspend, resume, setup_end, underrun, overrun, outcome}
use Rattle.calls.specs.Memory.{fifo_after, list_after}
use Rattle.event_rules.specs.declared.BusEvent.{BusEvent}
use Rattle.event_rules.specs.declared.BusEvent.TheVariants as bus
use Rattle.trace_rules.specs.declared.Entry.{Entry}
use Rattle.trace_rules.specs.declared.Entry.TheVariants.{Allocate, Init, Reset, Address, Write, Read, Stall, IsStalled, Poll, Interrupt, Enable, Arrival, Collect, Bus, SetupEnd, Underrun, Overrun}
use Rattle.report_rules.specs.Shown.{Shows}
use Rattle.report_rules.specs.declared.Acted.{Acted}

-- what goes on from entry to entry. The store list is one lent buffer, so that a call finds in it what earlier calls listed.
pub record State : Type 0 where
  pub «record» : Record
  pub fifo : List ℕ
  pub list : List ℕ

abbrev pub state : Record → List ℕ → List ℕ → State
state k f l = record { «record» = k; fifo = f; list = l }

-- all that an entry leaves: how many stores its call listed, and the reply and values that its line shows
pub record EntryOutcome : Type 0 where
  pub state : State
  pub stores : ℕ
  pub reply : ℕ
  pub values : List ℕ

-- "14 bus (0 reset 1 suspend 2 resume)"
abbrev pub bus_operation : BusEvent → Op
bus_operation bus.Reset = bus_reset
bus_operation bus.Suspend = suspend
bus_operation bus.Resume = resume

-- a packet's bytes, which stand in the trace
abbrev pub packet : List ℕ → ℕ → ℕ → List ℕ
packet s start n = take n (drop start s)

-- The operation of an entry of the trace s, lent FIFO memory f and the list l. A read is lent a buffer of its length, all zeros.
abbrev pub operation : List ℕ → Entry → List ℕ → List ℕ → Op
operation s (Allocate d w t n) f l = alloc_ep (ask t d n) w
operation s Init f l = bus_init l
operation s Reset f l = reset l
operation s (Address a) f l = set_device_address a l
operation s (Write p) f l = write p.endpoint (packet s p.start p.len) f l
operation s (Read e n) f l = read e (replicate n 0) f l
operation s (Stall e d on) f l = set_stalled e d on l
operation s (IsStalled e d) f l = is_stalled e d l
operation s Poll f l = poll l
operation s Interrupt f l = on_interrupt
operation s Enable f l = enable l
operation s (Arrival p) f l = arrival p.endpoint (packet s p.start p.len) f
operation s (Collect e) f l = collection e f
operation s (Bus b) f l = bus_operation b
operation s SetupEnd f l = setup_end
operation s (Underrun e) f l = underrun e
operation s (Overrun e) f l = overrun e

-- Document 01's codes, by operation. `force_reset` has none.
abbrev pub code : Op → ℕ
code (alloc_ep q w) = 1
code (bus_init l) = 2
code (reset l) = 3
code (set_device_address a l) = 4
code (write e b f l) = 5
code (read e b f l) = 6
code (set_stalled e d on l) = 7
code (is_stalled e d l) = 8
code (poll l) = 9
code on_interrupt = 10
code (enable l) = 11
code (arrival e b f) = 12
code (collection e f) = 13
code bus_reset = 14
code suspend = 14
code resume = 14
code setup_end = 15
code (underrun e) = 16
code (overrun e) = 17
code force_reset = 0

-- FIFO memory and the list after an operation: as it left them where it was lent them to write, and else as they were
abbrev pub memory : State → Op → calls.Outcome → List ℕ × List ℕ
memory x p o = (fifo_after x.fifo p o, list_after x.list p o)

-- of the operation's outcome o, with the memory m after it
abbrev pub left : List ℕ × List ℕ → calls.Outcome → EntryOutcome
left m o = record { state = state o.«record» m.0 m.1; stores = o.stores; reply = o.reply; values = o.values }

-- the operation p in the state x
abbrev pub did : State → Op → EntryOutcome
did x p = left (memory x p (outcome x.«record» p)) (outcome x.«record» p)

unfoldable pub acted : List ℕ → Entry → State → EntryOutcome
acted s e x = did x (operation s e x.fifo x.list)

-- what the program has of an entry, f and l being the FIFO buffer and the list at exit
pub record Acts (before after : List ℕ) (r : Acted) (f l : List ℕ) (code : ℕ) (o : EntryOutcome) : Type 0 where
  pub kept : state r.«record» f l ≡ o.state
  pub counted : r.stores ≡ o.stores
  pub shown : Shows before after r.len code o.reply o.values

-- what must be lent: a trace of document 01's length, FIFO memory of at most 2,000 bytes, and room for the longest line
pub record Lent (trace fifo line : List ℕ) : Type 0 where
  pub short : length trace ≤ 65536
  pub memory : length fifo ≤ 2000
  pub room : 8192 ≤ length line
