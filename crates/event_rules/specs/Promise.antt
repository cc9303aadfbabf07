-- What the driver may know of a host event, whichever it is: one account of what each changes and what it leaves.
-- Assumes nothing.
use Rattle.std.specs.Prelude.{ℕ, ◌≤◌, ◌≡◌, Bool, true, cond, eqb, length, get_or}
use Rattle.laws.specs.Words.{raised}
use Rattle.board.specs.declared.Direction.{Direction}
use Rattle.board.specs.declared.Direction.TheVariants.{Out, In}
use Rattle.csr.specs.declared.Side.{Side}
use Rattle.register_file.specs.Registers as file
use Rattle.register_file.specs.Registers.{File}
use Rattle.csr.specs.Registers.{towards}
use Rattle.csr.specs.Control.{dropped}
use Rattle.event_rules.specs.declared.BusEvent.{BusEvent}
use Rattle.event_rules.specs.declared.BusEvent.TheVariants.{Suspend, Resume, Reset}
use Rattle.event_rules.specs.Events.{arrived, collected, bus_raised, setup_ended, missing, received, unstalled, lapsed}

pub data Event : Type 0 where
  arrival : ℕ → ℕ → Event
  collection : ℕ → Event
  on_bus : BusEvent → Event
  setupend : Event
  miss : ℕ → Direction → Event

abbrev pub happens : Event → File → File
happens (arrival e n) r = arrived r e n
happens (collection e) r = collected r e
happens (on_bus o) r = bus_raised o r
happens setupend r = setup_ended r
happens (miss e d) r = missing r e d

-- what an event leaves of the side of endpoint e and direction d, that was s
abbrev pub leaves : Event → ℕ → Direction → Side → Side
leaves (arrival f n) e Out s = cond (eqb e f) (received n s) s
leaves (arrival f n) e In s = cond (eqb f 0) (cond (eqb e 0) (unstalled s) s) s
leaves (collection f) e d s = cond (eqb e f) (towards In d (dropped true) s) s
leaves (on_bus o) e d s = s
leaves setupend e d s = s
leaves (miss f c) e d s = cond (eqb e f) (towards c d lapsed s) s

-- the interrupts that an event raises: what it leaves of the bus interrupt register, that was p, and of the interrupt register of direction d.
-- Of the bus suspend is bit 0, resume bit 1, reset bit 2. "Enable registers hold back no interrupt": they are not asked.
abbrev pub raises_bus : Event → ℕ → ℕ
raises_bus (arrival f n) p = p
raises_bus (collection f) p = p
raises_bus (on_bus Reset) p = raised p 2
raises_bus (on_bus Suspend) p = raised p 0
raises_bus (on_bus Resume) p = raised p 1
raises_bus setupend p = p
raises_bus (miss f c) p = p

abbrev pub raises : Event → Direction → ℕ → ℕ
raises (arrival f n) Out p = cond (eqb f 0) p (raised p f)
raises (arrival f n) In p = cond (eqb f 0) (raised p 0) p
raises (collection f) Out p = p
raises (collection f) In p = raised p f
raises (on_bus o) d p = p
raises setupend Out p = p
raises setupend In p = raised p 0
raises (miss f c) d p = p

-- the registers q after an event at the registers r: no register comes or goes
pub record Kept (r q : File) : Type 0 where
  pub whole : length q ≡ length r
  pub selected : file.index q ≡ file.index r
  pub addressed : file.faddr q ≡ file.faddr r

-- SetupEnd after an event
abbrev pub ends : Event → Bool → Bool
ends (arrival e n) b = b
ends (collection e) b = b
ends (on_bus o) b = b
ends setupend b = true
ends (miss e d) b = b

-- power and the enable registers stay: the numbers 2 to 5 of the file
pub record Others (o : Event) (r q : File) : Type 0 where
  pub ended : file.setupend q ≡ ends o (file.setupend r)
  pub number : (i : ℕ) → 2 ≤ i → i ≤ 5 → get_or q i 0 ≡ get_or r i 0

-- a read of an interrupt register, which is number i of the file (6 the bus's, 7 of transmit, 8 of receive bits): that number is 0 after it,
-- and nothing else changes
pub record Clears (i : ℕ) (r q : File) : Type 0 where
  pub clear : get_or q i 0 ≡ 0
  pub others : (j : ℕ) → (j ≡ i → ⊥) → get_or q j 0 ≡ get_or r j 0
  pub whole : length q ≡ length r

-- the endpoint of an event is one of the record's
abbrev pub at : Event → ℕ
at (arrival e n) = e
at (collection e) = e
at (on_bus o) = 0
at setupend = 0
at (miss e d) = e
