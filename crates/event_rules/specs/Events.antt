-- What each host event does to the registers, and the interrupt registers, which clear when read.
-- Assumes nothing.
use Rattle.std.specs.Prelude.{ℕ, true, false, cond, eqb}
use Rattle.laws.specs.Words.{raised}
use Rattle.board.specs.declared.Direction.{Direction}
use Rattle.board.specs.declared.Direction.TheVariants.{Out, In}
use Rattle.csr.specs.declared.Side.{Side}
use Rattle.register_file.specs.Registers.{File, side_at, with_side, intrusb, with_intrusb, intr_of, with_intr, with_setupend}
use Rattle.csr.specs.Control.{dropped}
use Rattle.event_rules.specs.declared.BusEvent.{BusEvent}
use Rattle.event_rules.specs.declared.BusEvent.TheVariants.{Suspend, Resume, Reset}

-- a pending interrupt more: transmit bits are raised for In, receive bits for Out
unfoldable pub interrupting : File → Direction → ℕ → File
interrupting r d e = with_intr r d (raised (intr_of r d) e)

-- a packet of n bytes waits at a receive side
abbrev pub received : ℕ → Side → Side
received n s = record { ready = true; missed = s.missed; stall = s.stall; stalled = s.stalled; iso = s.iso; maxp = s.maxp; len = n }

abbrev pub unstalled : Side → Side
unstalled s = record { ready = s.ready; missed = s.missed; stall = false; stalled = s.stalled; iso = s.iso; maxp = s.maxp; len = s.len }

abbrev pub lapsed : Side → Side
lapsed s = record { ready = s.ready; missed = true; stall = s.stall; stalled = s.stalled; iso = s.iso; maxp = s.maxp; len = s.len }

-- "arrival (sets RxPktRdy; raises the receive bit, for endpoint 0 transmit bit 0, and drops its SendStall)"
unfoldable pub waiting_at : File → ℕ → ℕ → File
waiting_at r e n = with_side r e Out (received n (side_at r e Out))

unfoldable pub arrived : File → ℕ → ℕ → File
arrived r e n =
    cond (eqb e 0)
    (interrupting (with_side (waiting_at r 0 n) 0 In (unstalled (side_at r 0 In))) In 0)
    (interrupting (waiting_at r e n) Out e)

-- "collection (.. drops it, clears TxPktRdy, raises the transmit bit)"
unfoldable pub collected : File → ℕ → File
collected r e = interrupting (with_side r e In (dropped true (side_at r e In))) In e

-- "bus reset, suspend, resume (each raises its own bit only)": the bits follow the public MUSB layout of the bus interrupt register
abbrev pub bus_bit : BusEvent → ℕ
bus_bit Suspend = 0
bus_bit Resume = 1
bus_bit Reset = 2

unfoldable pub bus_raised : BusEvent → File → File
bus_raised o r = with_intrusb r (raised (intrusb r) (bus_bit o))

unfoldable pub bus_reset : File → File
bus_reset r = bus_raised Reset r

unfoldable pub bus_suspend : File → File
bus_suspend r = bus_raised Suspend r

unfoldable pub bus_resume : File → File
bus_resume r = bus_raised Resume r

-- "setup end (SetupEnd and transmit bit 0)"
unfoldable pub setup_ended : File → File
setup_ended r = interrupting (with_setupend r true) In 0

-- "underrun, overrun (set UnderRun or OverRun, raise nothing)": of the transmit side, of the receive side
unfoldable pub missing : File → ℕ → Direction → File
missing r e d = with_side r e d (lapsed (side_at r e d))

-- "Interrupt registers clear when read."
unfoldable pub intrusb_cleared : File → File
intrusb_cleared r = with_intrusb r 0

unfoldable pub intr_cleared : File → Direction → File
intr_cleared r d = with_intr r d 0
